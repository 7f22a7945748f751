-- What is written is the text.
use Rattle.std.proofs.Common.{rules}
use Rattle.folder.proofs.output.print.Goals as goal

pub returns-clause-written : goal.returns-clause-written
returns-clause-written g c = search rules
