-- The sets that the live authorities give, gathered: the portions of a sort authority by authority, the needed gates
-- from those needed before. Assumes nothing.
use Prim.Native.Nat.{ℕ, ◌≤◌}
use native.Mathlib.Nat.{lt_of_lt_of_le}
use mathlib.Core.Path.{◌≡◌, refl, sym, ap, ◌∙◌}
use mathlib.Core.Bool.{Bool, true, false, cond, ◌&&◌, ◌||◌, or-false}
use mathlib.Core.List.{List, [], ◌∷◌, ◌++◌, append_assoc, append-nil}
use lib.ListN.{length}
use lib.Pow.{pow_pos, pow_mono}
use Rattle.std.specs.Prelude.{Some}
use Rattle.std.specs.List.{fold}
use Rattle.std.proofs.lemmas.Bool.{cond_both}
use Rattle.lists.proofs.Tests.{or_no_l, or_no_r}
use Rattle.lists.proofs.Search.{any_append}
use Rattle.sets.specs.Sets.{has, set_of, in_either, union}
use Rattle.sets.proofs.Bits.{has_none}
use Rattle.sets.proofs.Laws.{is_set_of, set_of_agree, in_set_of, set_of_lt, closed_set_of}
use Rattle.rules.specs.declared.kind.Kind.{Kind}
use Rattle.rules.specs.declared.GateNo.{GateNo}
use Rattle.rules.specs.declared.Authority.{Authority}
use Rattle.rules.specs.declared.Call.{Call}
use Rattle.rules.specs.declared.Register.{Register}
use Rattle.rules.specs.Board.{Board, board_of, gate_at, is_in_force, needs}
use Rattle.rules.specs.Call.{gate_of}
use Rattle.rules.specs.Refusals.{any_e, any_w, is_e, is_w, still_needed}
use Rattle.rules.specs.Effects.{effect}
use Rattle.rules.specs.Step.{Kept}
use Rattle.rules.specs.Stored.{exclusive_portions, twa_portions, is_still_needed, needed_gates}
use Rattle.rules.proofs.HeldSets.{past_plan, kept_16}
use Rattle.rules.proofs.Safety.{gates_stay}
use Rattle.rules.proofs.SetsStay.{NeededAsBefore}
use Rattle.rules.specs.Stored.{holds_as}
use Rattle.authorities.specs.declared.stored.StoredSets.{StoredSets}
use Rattle.authorities.specs.Sorts.{limits_if}
use Rattle.authorities.specs.Stored.{is_held_as, held_as, is_needed_again, needed_again, sets_again}

-- ---- the portions of a sort

module _ (sort : Kind → Bool) where
  has_limits : (p : ℕ) (a : Authority) → has p (limits_if sort a) ≡ holds_as sort p a
  has_limits p a = go (is_in_force a && sort a.kind)
    where
      go : (t : Bool) → has p (cond t a.limits 0) ≡ (t && has p a.limits)
      go true = refl
      go false = has_none p

  held_none : 0 ≡ held_as sort []
  unfolding held_as
  held_none = is_set_of 64 0 (is_held_as sort []) (pow_pos 64) (λ p l. has_none p)

  -- what is held with one authority more
  abbrev pub more : ℕ → Authority → ℕ
  more held a = union held (limits_if sort a)

  held_more : (xs : List Authority) (a : Authority) → more (held_as sort xs) a ≡ held_as sort (xs ++ (a ∷ []))
  unfolding union held_as
  held_more xs a =
      set_of_agree 64 (in_either (set_of 64 (is_held_as sort xs)) (limits_if sort a)) (is_held_as sort (xs ++ (a ∷ [])))
      (λ p l. rw (in_set_of 64 (is_held_as sort xs) p l, has_limits p a)
      (sym (any_append (holds_as sort p) xs (a ∷ [])
      ∙ ap (λ (t : Bool). is_held_as sort xs p || t) (or-false (holds_as sort p a)))))

  held_from : (xs ys : List Authority) → fold more (held_as sort xs) ys ≡ held_as sort (xs ++ ys)
  held_from xs [] = rw append-nil refl
  held_from xs (a ∷ ys) =
      ap (λ (held : ℕ). fold more held ys) (held_more xs a) ∙ held_from (xs ++ (a ∷ [])) ys
      ∙ ap (held_as sort) (append_assoc xs (a ∷ []) ys)

  pub held_gathered : (xs : List Authority) → fold more 0 xs ≡ held_as sort xs
  held_gathered xs = rw held_none (held_from [] xs)

-- ---- the three together

-- what the live authorities of the board give
unfoldable pub sets_of : Board → StoredSets
sets_of b = record { exclusive_held = exclusive_portions b; twa_held = twa_portions b; needed = needed_gates b }

module _ (r : Register) (k : Kept r) (c : Call) where
  abbrev left : Board
  left = effect (board_of r) (Some c)

  -- behind a call they are those that the live authorities give, where a gate that neither limits need is needed as
  -- before; past the plan's gates none is needed
  module _ (x y : ℕ)
      (same : (g : GateNo) → needs x (gate_at left.gates g) ≡ false → needs y (gate_at left.gates g) ≡ false
      → NeededAsBefore (board_of r) g c) where
    abbrev again : ℕ → Bool
    again = is_needed_again left.gates left.authorities r.needed x y

    answered : (g : ℕ) → again g ≡ is_still_needed left g
    unfolding still_needed
    answered g =
        let gate = gate_at left.gates (gate_of g) in
        cond_both (needs x gate || needs y gate) (is_still_needed left g) (has g r.needed)
        (λ t. t ≡ is_still_needed left g) (λ e. refl)
        (λ e. kept_16 r k (gate_of g) ∙ sym (same (gate_of g) (or_no_l _ _ e) (or_no_r _ _ e)))

    needed : needed_again left.gates left.authorities r.needed x y ≡ needed_gates left
    unfolding needed_again needed_gates still_needed board_of
    needed =
        let few : length left.gates ≤ 64 = rw (gates_stay (board_of r) (Some c)) k.bounds.gates in
        is_set_of 64 (set_of (length left.gates) again) (is_still_needed left)
        (lt_of_lt_of_le (set_of_lt (length left.gates) again) (pow_mono few))
        (λ g l. closed_set_of (length left.gates) again g
        (λ p. answered g ∙ past_plan left.gates left.authorities g p) ∙ answered g)

    pub gathered : sets_again left r.needed x y ≡ sets_of left
    unfolding sets_of sets_again held_as exclusive_portions any_e is_e twa_portions any_w is_w
    gathered = rw needed refl
