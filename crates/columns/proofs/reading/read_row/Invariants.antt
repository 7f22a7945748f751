use Rattle.columns.proofs.Rows.{SoFar}
use Rattle.columns.proofs.reading.read_row.Given as goal

abbrev pub invariant-loop-place : goal.invariant-loop-place
invariant-loop-place g l = SoFar g.row.N l.most l.widths l.text l.place l.numbers l.rest
