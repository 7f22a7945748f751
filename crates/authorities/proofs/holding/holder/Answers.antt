-- `authorities::holding::holder` meets its contract: where no authority passes, none is found. Assumes nothing.
use Rattle.std.proofs.Common.{◌∙◌, sym}
use Rattle.lists.proofs.Finds.{finds_none}
use Rattle.rules.specs.Stored.{holds_as}
use Rattle.authorities.specs.Sorts.{kind_test}
use Rattle.authorities.proofs.holding.holder.Goals as goal

pub returns-then-not-is_held : goal.returns-then-not-is_held
returns-then-not-is_held c =
    finds_none (holds_as (kind_test c.args.sort) c.args.p) c.args.register.now.authorities.items
    (sym c.is_held.ensures ∙ c.if-not-is_held.true)
