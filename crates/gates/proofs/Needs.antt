-- Laws of the gates that limits need, as a set: what callers cite, and the steps of the loop that builds it.
-- Assumes nothing.
use mathlib.Core.Path.{◌≡◌, sym, ◌∙◌}
use mathlib.Core.Bool.{not, ◌&&◌, and_assoc, not-not}
use mathlib.Core.List.{List}
use Prim.Native.Nat.{ℕ, ◌≤◌}
use native.Mathlib.Omega.{arith}
use borrow.Author.Tests.{lt-ltb, ltb-true}
use lib.Dec.{ltb}
use lib.ListN.{length}
use Rattle.std.proofs.lemmas.Bool.{and_from}
use Rattle.lists.proofs.Tests.{same_test, and_l, and_r}
use Rattle.lists.proofs.Search.{some_below, below_some}
use Rattle.sets.specs.Sets.{has, subset, in_first_only}
use Rattle.sets.proofs.Laws.{has-set_of, set_of_start, set_of_next_in, set_of_next_out}
use Rattle.rules.specs.declared.Gate.{Gate}
use Rattle.rules.specs.declared.Authority.{Authority}
use Rattle.rules.specs.Board.{Board, needs, gate_at}
use Rattle.rules.specs.Call.{gate_of}
use Rattle.rules.specs.Refusals.{is_open, unprotected}
use Rattle.gates.specs.Needs.{is_needed, needed_of}

-- a gate is in the set where the plan has it and the limits need it
pub needed_has : (gates : List Gate) (limits g : ℕ)
    → has g (needed_of gates limits) ≡ (ltb g (length gates) && needs limits (gate_at gates (gate_of g)))
unfolding needed_of
needed_has gates limits g = has-set_of (length gates) (is_needed limits gates) g

-- an authority is unprotected where the gates that it needs are not all blocked
pub unprotected_subset : (b : Board) (a : Authority) → length b.gates ≤ 64
    → unprotected b a ≡ not (subset (needed_of b.gates a.limits) b.blocks)
unfolding unprotected is_open subset
unprotected_subset b a few =
    let unblocked = is_open b a.limits in
    let left = in_first_only (needed_of b.gates a.limits) b.blocks in
    let same : (g : ℕ) → left g ≡ (ltb g (length b.gates) && unblocked g) = λ g. rw (needed_has, and_assoc) in
    rw not-not (same_test _ _
    (λ e.
    let (g, l, p) = some_below _ unblocked e in
    below_some 64 left g (omega arith) (same g ∙ and_from _ _ (lt-ltb g _ l) p))
    (λ e.
    let (g, l, p) = some_below 64 left e in
    let q = sym (same g) ∙ p in
    below_some _ unblocked g (ltb-true g _ (and_l _ _ q)) (and_r (ltb g _) _ q)))

-- ---- the loop that builds the set

-- for `search`: the set of the needed gates before the first is empty, and at each gate it takes that gate in or stays
pub ruleset building = (set_of_start, set_of_next_in, set_of_next_out)
