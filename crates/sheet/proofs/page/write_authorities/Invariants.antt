use Rattle.rules.specs.Sheet.{authority_line}
use Rattle.rules.proofs.PrintedLines.{Listed}
use Rattle.sheet.proofs.page.write_authorities.Given as goal

abbrev pub invariant-loop-i : goal.invariant-loop-i
invariant-loop-i l = Listed (authority_line l.now) 73 l.authority-items l.initial.page l.i l.page
