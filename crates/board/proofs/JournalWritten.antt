-- The journal line, as the line writer leaves it. Assumes nothing.
use Prim.Native.Nat.{ℕ, ◌≤◌}
use mathlib.Core.Path.{◌≡◌, ◌∙◌}
use mathlib.Core.Bool.{Bool, true}
use mathlib.Core.List.{List, ◌++◌}
use lib.ListN.{length, drop}
use Rattle.lists.proofs.Search.{Each}
use Rattle.columns.specs.Line.{Written, writable, with_line}
use Rattle.columns.proofs.Writing.{total, writable-room}
use Rattle.rules.specs.declared.Seven.{Seven}
use Rattle.rules.specs.Journal.{journal_widths, journal_line}
use Rattle.rules.proofs.JournalLength.{nine, Small, nine_fit, line_55}

-- a buffer of 55 bytes or more gets the line, and its later bytes stay
pub journal_written : (s : Seven) (answer number : ℕ) (buffer buffer' : List ℕ) (r : Bool)
    → Each Small (nine s answer number) → 55 ≤ length buffer
    → Written journal_widths (nine s answer number) buffer buffer' r
    → buffer' ≡ journal_line s answer number ++ drop 55 buffer
unfolding with_line journal_line total
journal_written s answer number buffer buffer' r small room w =
    let can : writable (length buffer) journal_widths (nine s answer number) ≡ true =
    writable-room (length buffer) journal_widths (nine s answer number) (nine_fit s answer number small) room in
    w.bytes ∙ rw (can, line_55 s answer number small)
