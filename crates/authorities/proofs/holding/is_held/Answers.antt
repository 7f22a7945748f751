-- `authorities::holding::is_held` meets its contract: the set of each sort has the portion where an authority in force
-- of that sort has it. Assumes nothing.
use Rattle.std.proofs.Common.{◌∙◌}
use Rattle.rules.specs.Board.{board_of}
use Rattle.rules.specs.Refusals.{is_e, is_w, any_e, any_w}
use Rattle.rules.proofs.HeldSets.{kept_e, kept_w}
use Rattle.authorities.proofs.holding.is_held.Goals as goal

pub returns-in-Exclusive : goal.returns-in-Exclusive
unfolding board_of any_e is_e
returns-in-Exclusive c = rw c.in-Exclusive.is (c.has.ensures ∙ kept_e c.args.register.now c.requires c.args.p)

pub returns-in-Twa : goal.returns-in-Twa
unfolding board_of any_w is_w
returns-in-Twa c = rw c.in-Twa.is (c.has-in-Twa.ensures ∙ kept_w c.args.register.now c.requires c.args.p)
