-- The loop of `lists::change_first`. Assumes nothing.
use Rattle.std.proofs.Common.{false, take, ◌≡◌}
use Rattle.lists.proofs.Search.{Each}
use Rattle.lists.proofs.change_first.Given as goal

-- nothing is changed yet: each of the first elements fails the test
abbrev pub invariant-loop-place : goal.invariant-loop-place
invariant-loop-place g l =
    (l.place-items ≡ l.fn.items.items)
    × Each (λ x. goal.P-post g l.test x false) (take l.place-index l.fn.items.items)
