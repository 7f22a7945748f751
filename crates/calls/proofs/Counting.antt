-- A run makes no more calls than it may. Assumes nothing.
use Prim.Native.Nat.{ℕ, ◌/◌, ◌≤◌}
use native.Mathlib.Omega.{arith}
use mathlib.Core.List.{List}
use lib.ListN.{length}
use Rattle.columns.proofs.LinesRead.{lines_in_most}
use Rattle.rules.specs.declared.Register.{Register}
use Rattle.calls.specs.CallLine.{line_in}
use Rattle.calls.specs.Run.{run_of, RunPost}

-- as many lines as the buffer has room for, at most
pub lines_most : {before register : Register} {text buffer buffer' : List ℕ} {count : ℕ}
    → RunPost before text buffer register count buffer'
    → count ≤ length buffer / 55
unfolding run_of
lines_most {text = text} {buffer = buffer} p =
    omega (arith, p.lines, lines_in_most line_in 43 (length buffer / 55) text)
