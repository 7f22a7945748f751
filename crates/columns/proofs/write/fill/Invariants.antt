use Rattle.std.proofs.Common.{◌≡◌, ◌++◌, ◌/◌, length, drop}
use Rattle.columns.proofs.Writing.{front}
use Rattle.columns.proofs.write.fill.Given as goal

abbrev pub invariant-loop-i : goal.invariant-loop-i
invariant-loop-i l = front (length l.initial.before) (l.n / 10) ≡ front l.i l.rest ++ drop l.i l.before
