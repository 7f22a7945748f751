use Rattle.rules.specs.Worksites.{gap_line}
use Rattle.rules.proofs.PrintedLines.{Listed}
use Rattle.worksites.proofs.lines.write_lines.Given as goal

abbrev pub invariant-loop-i : goal.invariant-loop-i
invariant-loop-i l = Listed (gap_line l.kind l.stated) 17 l.gaps l.initial.lines l.i l.lines
