-- `worksites::lines::write_line` meets its contract: the line can be written, and fills the buffer. Assumes nothing.
use Rattle.std.proofs.Common.{arith}
use Rattle.worksites.proofs.GapAnswers.{line_filled}
use Rattle.worksites.proofs.lines.write_line.Goals as goal

pub returns : goal.returns
returns c =
    line_filled c.args.kind c.args.stated c.args.gap _ _ _ _ (omega (arith, c.ranges.stated)) c.requires.1 c.requires.0
    c.due.ensures c.write_line.ensures
