-- `board::entry::call` meets its contract: a short buffer gives 1 and stays, else the call is taken and its line is
-- written. Assumes nothing.
use Rattle.std.proofs.Common.{rules}
use Rattle.board.proofs.Calling.{called_short, called_long}
use Rattle.board.proofs.entry.call.Goals as goal

pub returns-then-is_short : goal.returns-then-is_short
returns-then-is_short c = called_short _ _ _ c.requires (search rules)

pub returns : goal.returns
returns c = called_long _ _ _ _ _ (search rules) c.take-answer.ensures c.write_journal.ensures
