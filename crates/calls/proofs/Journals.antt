-- Laws of the journal line that begins with a call line. Assumes nothing.
use Prim.Native.Nat.{ℕ, ◌+◌, ◌<◌}
use native.Mathlib.Omega.{arith}
use mathlib.Core.Path.{◌≡◌, refl, ◌∙◌}
use mathlib.Core.Bool.{Bool, true, false≢true}
use mathlib.Core.List.{List, [], ◌∷◌, ◌++◌, append_assoc, append-nil}
use lib.ListN.{length, take, drop_of_length-le}
use lib.Seq.{take-append-add}
use borrow.Author.Tests.{le-leb}
use Rattle.lists.proofs.Tests.{and_l, and_r}
use Rattle.columns.specs.Column.{column, fits}
use Rattle.columns.specs.Line.{line, all_fit, Written, with_line, fit_of, line_of}
use Rattle.columns.proofs.Writing.{column-length, total, writable-room, line-length}
use Rattle.columns.proofs.Rows.{at_most}
use Rattle.rules.specs.declared.Seven.{Seven}
use Rattle.rules.specs.Journal.{journal_line}
use Rattle.std.specs.Prelude.{Some}
use Rattle.calls.specs.CallLine.{call_widths, line_in}
use Rattle.calls.proofs.CallLines.{numbers_of, call_line, six_fit}

-- a line without its line feed, with another line behind it, is one line
line_append : (ws vs ns ms : List ℕ) → all_fit ws ns ≡ true
    → take (total ws) (line ws ns) ++ line vs ms ≡ line (ws ++ vs) (ns ++ ms)
unfolding line_of fit_of total
line_append [] vs [] ms e = refl
line_append [] vs (n ∷ ns) ms e = absurd (false≢true e)
line_append (w ∷ ws) vs [] ms e = absurd (false≢true e)
line_append (w ∷ ws) vs (n ∷ ns) ms e =
    let wide = column-length w n (and_l (fits w n) (all_fit ws ns) e) in
    let front : take (w + total ws) (column w n ++ line ws ns) ≡ column w n ++ take (total ws) (line ws ns) =
    rw wide at (take-append-add (column w n) (line ws ns) (total ws)) in
    rw (
      front,
      append_assoc (column w n) (take (total ws) (line ws ns)) (line vs ms),
      line_append ws vs ns ms (and_r (fits w n) (all_fit ws ns) e),
    )

-- the line's first 42 bytes, with the answer and the number behind them, are the journal line
pub journal_line_lem : (s : List ℕ) (c : Seven) (answer number : ℕ) → line_in s ≡ Some c
    → take 42 s ++ line (6 ∷ 6 ∷ []) (answer ∷ number ∷ []) ≡ journal_line c answer number
unfolding journal_line total
journal_line_lem s c answer number e =
    let l = call_line s c e in
    rw l.text (line_append call_widths (6 ∷ 6 ∷ []) (numbers_of c) (answer ∷ number ∷ [])
    (six_fit (numbers_of c) l.small))

-- the numbers copied to the front of a buffer of 55 bytes, and the answer and the number written behind them
pub journal_filled : (s front before after : List ℕ) (c : Seven) (answer number : ℕ) (r : Bool)
    → Written (6 ∷ 6 ∷ []) (answer ∷ number ∷ []) before after r → line_in s ≡ Some c → front ≡ take 42 s
    → length before ≡ 13 → answer < 65536 → number < 65536 → front ++ after ≡ journal_line c answer number
unfolding at_most total with_line
journal_filled s front before after c answer number r w e f k small few =
    let two = answer ∷ number ∷ [] in
    let fit : all_fit (6 ∷ 6 ∷ []) two ≡ true =
    six_fit two (rw (le-leb answer 65535 (omega arith), le-leb number 65535 (omega arith))) in
    let can = writable-room (length before) (6 ∷ 6 ∷ []) two fit (omega arith) in
    let written : after ≡ line (6 ∷ 6 ∷ []) two =
    w.bytes ∙ rw (can, line-length (6 ∷ 6 ∷ []) two fit, drop_of_length-le before {i = 13} (omega arith))
    (append-nil (line (6 ∷ 6 ∷ []) two)) in
    rw (f, written) (journal_line_lem s c answer number e)
