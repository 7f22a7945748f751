-- The three sets of a register, made anew from its live authorities (02, order 8), the needed gates from those needed
-- before. Assumes nothing.
use Rattle.std.specs.Prelude.{ℕ, Bool, cond, ◌||◌, List, length}
use Rattle.lists.specs.Search.{any}
use Rattle.sets.specs.Sets.{has, set_of}
use Rattle.rules.specs.declared.kind.Kind.{Kind}
use Rattle.rules.specs.declared.Gate.{Gate}
use Rattle.rules.specs.declared.Authority.{Authority}
use Rattle.rules.specs.Board.{Board, gate_at, needs, exclusive, is_twa}
use Rattle.rules.specs.Call.{gate_of}
use Rattle.rules.specs.Refusals.{in_force_needs}
use Rattle.rules.specs.Stored.{holds_as}
use Rattle.authorities.specs.declared.stored.StoredSets.{StoredSets}

-- the portions that those in force of a sort have
abbrev pub is_held_as : (Kind → Bool) → List Authority → ℕ → Bool
is_held_as is_kind authorities p = any (holds_as is_kind p) authorities

unfoldable pub held_as : (Kind → Bool) → List Authority → ℕ
held_as is_kind authorities = set_of 64 (is_held_as is_kind authorities)

-- the needed gates, made from those needed before: of a gate that the limits x or y need it is asked whether one in
-- force needs it, any other stays
abbrev pub is_needed_again : List Gate → List Authority → ℕ → ℕ → ℕ → ℕ → Bool
is_needed_again gates authorities needed x y g =
    let gate = gate_at gates (gate_of g) in
    cond (needs x gate || needs y gate) (any (in_force_needs gate) authorities) (has g needed)

unfoldable pub needed_again : List Gate → List Authority → ℕ → ℕ → ℕ → ℕ
needed_again gates authorities needed x y = set_of (length gates) (is_needed_again gates authorities needed x y)

-- the three, those needed before being given
unfoldable pub sets_again : Board → ℕ → ℕ → ℕ → StoredSets
sets_again b needed x y = record {
  exclusive_held = held_as exclusive b.authorities;
  twa_held = held_as is_twa b.authorities;
  needed = needed_again b.gates b.authorities needed x y;
}
