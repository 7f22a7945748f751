-- `lists::change` meets its contract. Assumes nothing.
use Rattle.std.proofs.Common.{add-one, arith, inl, inr, refl}
use Rattle.lists.proofs.Each.{each_turn}
use Rattle.lists.proofs.change.Goals as goal
use Rattle.lists.proofs.change.Goals.{then-test, else-test}

pub loop-x-preserved : goal.loop-x-preserved
loop-x-preserved g c =
    elim c.if-test.branch [
      | then-test w ↦
          rw (add-one, w.x-items-is)
          (each_turn _ _ _ _ c.x-item.result _ (omega arith)
          (inl (rw w.if-test.true at c.test.ensures, w.f.ensures)) c.loop-x.invariant.0
          c.loop-x.invariant.1)
      | else-test w ↦
          rw (add-one, w.x-items-is)
          (each_turn _ _ _ _ c.x-item.result _ (omega arith)
          (inr (rw w.if-test.false at c.test.ensures, refl)) c.loop-x.invariant.0
          c.loop-x.invariant.1)
    ]
