-- `effects::running::go_through` meets its contract. Assumes nothing.
use Rattle.std.proofs.Common.{rules}
use borrow.Author.Tests.{eq-eqb, ne_eqb}
use Rattle.lists.proofs.Each.{changed-one}
use Rattle.rules.specs.Board.{train_no}
use Rattle.rules.specs.Effects.{with_head}
use Rattle.effects.proofs.running.go_through.Goals as goal

pub insert_train-requires : goal.insert_train-requires
insert_train-requires c = c.requires.room (eq-eqb _ _ c.if-gate-eq99.true)

pub returns-then-gate-eq99 : goal.returns-then-gate-eq99
returns-then-gate-eq99 c = rw (eq-eqb _ _ c.if-gate-eq99.true) c.insert_train.ensures

pub returns-else-gate-eq99 : goal.returns-else-gate-eq99
returns-else-gate-eq99 c =
    rw (ne_eqb _ _ c.if-gate-eq99.false)
    (changed-one train_no c.args.t.0 (with_head c.args.gate.to c.args.n) c.change_first.ensures c.requires.distinct
    (λ x b k. search rules) (λ x y k. search rules))
