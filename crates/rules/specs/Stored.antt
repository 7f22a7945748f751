-- The sets that the wall display reads (02, order 8): what the live authorities give, refusal 13 decided from them, and
-- what makes that decision right. Assumes nothing.
use Rattle.std.specs.Prelude.{ℕ, ◌≤◌, ◌<◌, ◌^◌, ◌≡◌, Bool, true, false, cond, ◌&&◌, ◌||◌}
use mathlib.Core.List.{Memᴰ}
use Rattle.sets.specs.Sets.{has, set_of, shares, union, difference}
use Rattle.rules.specs.declared.AuthorityNo.{AuthorityNo}
use Rattle.rules.specs.declared.kind.Kind.{Kind}
use Rattle.rules.specs.declared.Authority.{Authority}
use Rattle.rules.specs.declared.Register.{Register}
use Rattle.rules.specs.declared.Call.{Call}
use Rattle.rules.specs.declared.Call.TheVariants.{Grant, Fulfil, Continue}
use Rattle.rules.specs.Board.{Board, board_of, exclusive, is_toa, is_twa, is_in_force, authority_no, live, authority}
use Rattle.rules.specs.Call.{authority_of, gate_of}
use Rattle.rules.specs.Refusals.{still_needed, any_e, any_w}

-- ---- what the live authorities give

-- "the set of portions held by exclusive authorities in force": those that an E holds
unfoldable pub exclusive_portions : Board → ℕ
exclusive_portions b = set_of 64 (any_e b)

-- "the same for TWAs": those that a W holds
unfoldable pub twa_portions : Board → ℕ
twa_portions b = set_of 64 (any_w b)

-- "the set of gates that an authority in force needs"; `g` is a place of the plan
abbrev pub is_still_needed : Board → ℕ → Bool
is_still_needed b g = still_needed b (gate_of g)

unfoldable pub needed_gates : Board → ℕ
needed_gates b = set_of 64 (is_still_needed b)

-- "Every call keeps each equal to what the live authorities give, refused calls included"
pub record Stored (r : Register) : Type 0 where
  pub exclusive_held : r.exclusive_held ≡ exclusive_portions (board_of r)
  pub twa_held : r.twa_held ≡ twa_portions (board_of r)
  pub needed : r.needed ≡ needed_gates (board_of r)

-- ---- by sort: LPAs and TOAs, which are exclusive, and TWAs

-- an authority in force of a sort (`exclusive`, or `is_twa`) has the portion: E, or W, of a gate that leads to it
abbrev pub holds_as : (Kind → Bool) → ℕ → Authority → Bool
holds_as sort p a = is_in_force a && sort a.kind && has p a.limits

-- ---- 13 decided from the sets

-- the limits of authority n, where it is live, in force and of that sort; else none
unfoldable pub limits_as : (Kind → Bool) → Board → AuthorityNo → ℕ
limits_as sort b n =
    cond (live b n && is_in_force (authority b n) && sort (authority b n).kind) (authority b n).limits 0

-- the authority on whose officer's agreement a TWA or a TOA rests; 0, no authority's number, for an LPA
abbrev pub rested_on : Authority → AuthorityNo
rested_on a = cond (is_twa a.kind || is_toa a.kind) a.agreed (authority_of 0)

-- "with the limits of each authority that it excepts taken out of its set first": what the set of a sort has left
-- without those of old and of the one that a rests on
unfoldable pub left_as : (Kind → Bool) → ℕ → Board → AuthorityNo → Authority → ℕ
left_as sort held b old a = difference (difference held (limits_as sort b old)) (limits_as sort b (rested_on a))

-- 13, of the two sets: the limits share a portion with what is left of either
unfoldable pub overlaps_held : ℕ → ℕ → Board → AuthorityNo → Authority → Bool
overlaps_held exclusives twas b old a =
    shares a.limits (union (left_as exclusive exclusives b old a) (left_as is_twa twas b old a))

-- ---- what makes the decision right

-- Limits can be taken out of a set of portions while no other authority of that sort has one of them.
pub record SortsApart (b : Board) : Type 0 where
  -- two in force of one sort, both exclusive or both TWAs, share no portion
  pub apart : (x y : Authority) → Memᴰ x b.authorities → Memᴰ y b.authorities → (authority_no x ≡ authority_no y → ⊥)
      → is_in_force x ≡ true → is_in_force y ≡ true → exclusive x.kind ≡ exclusive y.kind
      → shares x.limits y.limits ≡ false
  -- the number that a live authority has recorded is, if live, one of the other sort
  pub other : (x y : Authority) → Memᴰ x b.authorities → Memᴰ y b.authorities → authority_no y ≡ x.agreed.0
      → exclusive x.kind ≡ exclusive y.kind → ⊥
  -- and at most the last number
  pub recorded : (x : Authority) → Memᴰ x b.authorities → x.agreed.0 ≤ b.last.0
  -- limits are portions below 64: outside, 99, is in none
  pub small : (x : Authority) → Memᴰ x b.authorities → x.limits < 2 ^ 64

-- ---- the calls that may change a set

-- GRANT, FULFIL and CONTINUE put an authority in force or end one that is; no other call does (`sets_stay`,
-- proofs/SetsStay.antt)
abbrev pub changes_sets : Call → Bool
changes_sets (Grant n officer) = true
changes_sets (Fulfil n officer assurances) = true
changes_sets (Continue old new officer_old officer_new) = true
changes_sets c = false
