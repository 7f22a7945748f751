-- `decode::entry_of` meets its contract: the table gives the entry of each number that a call has. Assumes nothing.
use Rattle.rules.specs.Call.{calls, entry_of, named}
use Rattle.decode.proofs.entry_of.Goals as goal

pub returns-in-2-clause-entry : goal.returns-in-2-clause-entry
unfolding named entry_of calls
returns-in-2-clause-entry c = rw (c.in-2.is, c.form-in-2.ensures)
