-- `effects::running::draw_in` meets its contract. Assumes nothing.
use Rattle.std.proofs.Common.{rules}
use borrow.Author.Tests.{eq-eqb, ne_eqb}
use Rattle.arrayvec.proofs.ArrayVecLemmas.{filter-from_retain}
use Rattle.lists.proofs.Each.{changed-one}
use Rattle.rules.specs.Board.{train_no, is_not_train}
use Rattle.rules.specs.Effects.{with_rear_in}
use Rattle.effects.proofs.running.draw_in.Goals as goal

pub returns-then-head_of-eq99 : goal.returns-then-head_of-eq99
returns-then-head_of-eq99 c =
    rw (← (rw c.deref.ensures.0 at c.head_of.ensures), eq-eqb _ _ c.if-head_of-eq99.true)
    (filter-from_retain _ (is_not_train c.args.t) _ (λ x b f' y k. search rules) _ _ c.retain.ensures.filtered)

pub returns-else-head_of-eq99 : goal.returns-else-head_of-eq99
returns-else-head_of-eq99 c =
    rw (← (rw c.deref.ensures.0 at c.head_of.ensures), ne_eqb _ _ c.if-head_of-eq99.false)
    (changed-one train_no c.args.t.0 with_rear_in c.change_first.ensures c.requires (λ x b k. search rules)
    (λ x y k. search rules))
