-- A number of 16 bits written to a buffer of 7 bytes. Assumes nothing.
use Prim.Native.Nat.{ℕ, ◌<◌}
use native.Mathlib.Omega.{arith}
use mathlib.Core.Path.{◌≡◌}
use mathlib.Core.Bool.{Bool}
use mathlib.Core.List.{List, [], ◌∷◌}
use lib.ListN.{length}
use borrow.Author.Tests.{le-leb}
use Rattle.columns.specs.Line.{line, Written}
use Rattle.columns.proofs.Rows.{at_most}
use Rattle.columns.proofs.Writing.{total, line_fills}
use Rattle.calls.proofs.CallLines.{six_fit}

pub number_line : (n : ℕ) (before after : List ℕ) (answer : Bool) → Written (6 ∷ []) (n ∷ []) before after answer
    → n < 65536 → length before ≡ 7 → after ≡ line (6 ∷ []) (n ∷ [])
unfolding at_most total
number_line n before after answer w small size =
    line_fills (6 ∷ []) (n ∷ []) before after answer w (six_fit (n ∷ []) (rw (le-leb n 65535 (omega arith)))) size
