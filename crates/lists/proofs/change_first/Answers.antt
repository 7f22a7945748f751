-- `lists::change_first` meets its contract. Assumes nothing.
use Rattle.std.proofs.Common.{arith}
use Rattle.lists.proofs.Each.{first_at, first_nowhere}
use Rattle.lists.proofs.change_first.Goals as goal

pub returns-then-test : goal.returns-then-test
returns-then-test g c =
    first_at _ _ _ _ _ _ _ (omega arith) c.loop-place.invariant (rw c.if-test.true at c.test.ensures) c.f.ensures

pub returns : goal.returns
returns g c = first_nowhere _ _ _ _ c.loop-place.place-index (omega arith) c.loop-place.invariant
