-- `effects::changes::amend` meets its contract. Assumes nothing.
use Rattle.std.proofs.Common.{rules}
use Rattle.lists.proofs.Each.{changed-one}
use Rattle.rules.specs.Board.{authority_no}
use Rattle.effects.proofs.changes.amend.Goals as goal

pub returns : goal.returns
returns g c = record {
  by =
      λ f gives.
      changed-one authority_no c.args.n.0 f c.change_first.ensures c.requires.distinct (λ x b k. search rules) gives;
}
