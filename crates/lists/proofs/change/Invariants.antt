-- The loop of `lists::change`. Assumes nothing.
use Rattle.std.proofs.Common.{take, drop, ◌≡◌}
use Rattle.lists.specs.Each.{EachGives, ChangesTo}
use Rattle.lists.proofs.change.Given as goal

-- the first elements are changed, the others not yet
abbrev pub invariant-loop-x : goal.invariant-loop-x
invariant-loop-x g l =
    EachGives (ChangesTo (goal.P-post g l.test) (goal.F-post g l.f)) (take l.x-index l.fn.items.items)
    (take l.x-index l.x-items)
    × (drop l.x-index l.x-items ≡ drop l.x-index l.fn.items.items)
