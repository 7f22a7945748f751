-- Of the calls that are accepted, only GRANT, FULFIL and CONTINUE change one of the three sets that the wall display
-- reads (02, order 8), and of the needed gates only such as the authorities that they name need; a stamp changes none.
-- Assumes nothing.
use Rattle.std.specs.Prelude.{Some}
use Prim.Native.Nat.{ℕ}
use mathlib.Core.Path.{◌≡◌, refl, sym, ap, subst, ◌∙◌}
use mathlib.Core.Bool.{Bool, true, false, cond, ◌||◌, or-false}
use lib.Dec.{eqb}
use borrow.Author.Tests.{eqb-true}
use mathlib.Core.List.{List, [], ◌∷◌}
use Rattle.std.proofs.lemmas.Bool.{and_right, not-false}
use Rattle.lists.specs.Search.{any}
use Rattle.lists.proofs.Tests.{clash}
use Rattle.lists.proofs.Search.{Member, any_yes, any_append, kept, any_keep, any_change}
use Rattle.sets.specs.Sets.{run}
use Rattle.sets.proofs.Laws.{set_of_agree}
use Rattle.rules.specs.declared.AuthorityNo.{AuthorityNo}
use Rattle.rules.specs.declared.GateNo.{GateNo}
use Rattle.rules.specs.declared.Authority.{Authority}
use Rattle.rules.specs.declared.Seven.{Seven}
use Rattle.rules.specs.declared.Call.{Call}
use Rattle.rules.specs.declared.Call.TheVariants.{Request, Withdraw, Agree, Block, Unblock, Grant, Clear, Reoccupy}
use Rattle.rules.specs.declared.Call.TheVariants.{HandOver, Fulfil, Continue, Move, Passed, Term, Join, BookOut, BookIn}
use Rattle.rules.specs.Board.{Board, gate_at, is_in_force, is_authority, live, authority, needs, with_stamp, amended}
use Rattle.rules.specs.Board.{is_not_authority, ended}
use Rattle.rules.specs.Call.{minute_of, gate_of, named}
use Rattle.rules.specs.Refusals.{not_live, own, answer, in_force_needs, still_needed, is_e, is_w, any_e, any_w}
use Rattle.rules.specs.Effects.{requested, amended_to, granted, with_site, with_officer, with_agreed, with_term}
use Rattle.rules.specs.Effects.{next_no, effect}
use Rattle.rules.specs.Step.{Once, after}
use Rattle.rules.specs.Stored.{exclusive_portions, twa_portions, is_still_needed, needed_gates, changes_sets}
use Rattle.rules.proofs.Answers.{condition_at}
use Rattle.rules.proofs.Accepted.{Accepted, accepted}
use Rattle.rules.proofs.Safety.{gates_stay}
use Rattle.rules.proofs.Stays.{the_named}

-- a test that only authorities in force pass, by their kind and limits, which no call changes
module _ (b : Board) (o : Once b) (s : Seven) (t : Authority → Bool)
    (force : (a : Authority) → is_in_force a ≡ false → t a ≡ false)
    (same : (a : Authority) (officer : ℕ) (on : Bool) (agreed : AuthorityNo) (start minutes : ℕ)
    → t (amended_to a officer (is_in_force a) on agreed start minutes) ≡ t a) where
  any_stays : (c : Call) → Accepted b s (Some c) → changes_sets c ≡ false
      → any t (effect b (Some c)).authorities ≡ any t b.authorities
  unfolding effect own condition_at not_live
  any_stays (Request kind low high officer) k e =
      any_append t b.authorities (requested (next_no b) kind (run low high) officer ∷ [])
      ∙ ap (λ (z : Bool). any t b.authorities || (z || false))
      (force (requested (next_no b) kind (run low high) officer) refl)
      ∙ or-false (any t b.authorities)
  any_stays (Withdraw n officer) k e =
      any_keep t (is_not_authority n) b.authorities
      (λ a m i. force a
      (ap is_in_force (sym (the_named b o n a (not-false (live b n) (k.ok 5)) m (not-false (is_authority n a) i)))
      ∙ k.ok 6))
  any_stays (Agree toa twa officer) k e =
      any_change t (is_authority twa) (with_agreed toa) b.authorities (λ a m i. same a _ _ _ _ _)
  any_stays (Block g) k e = refl
  any_stays (Unblock g) k e = refl
  any_stays (Grant n officer) k e = clash refl e
  any_stays (Clear n officer) k e =
      any_change t (is_authority n) (with_site false) b.authorities (λ a m i. same a _ _ _ _ _)
  any_stays (Reoccupy n officer) k e =
      any_change t (is_authority n) (with_site true) b.authorities (λ a m i. same a _ _ _ _ _)
  any_stays (HandOver n out into) k e =
      any_change t (is_authority n) (with_officer into) b.authorities (λ a m i. same a _ _ _ _ _)
  any_stays (Fulfil n officer assurances) k e = clash refl e
  any_stays (Continue old new officer_old officer_new) k e = clash refl e
  any_stays (Move tr g n officer) k e = refl
  any_stays (Passed tr) k e = refl
  any_stays (Term n day time minutes) k e =
      any_change t (is_authority n) (with_term (minute_of day time) minutes) b.authorities (λ a m i. same a _ _ _ _ _)
  any_stays (Join twa toa officer distance) k e =
      any_change t (is_authority toa) (with_agreed twa) b.authorities (λ a m i. same a _ _ _ _ _)
  any_stays (BookOut g paper) k e = refl
  any_stays (BookIn g paper certified new) k e = refl

-- two boards give the same three sets
abbrev pub SameSets : Board → Board → Type 0
SameSets b c =
    (exclusive_portions b ≡ exclusive_portions c) × (twa_portions b ≡ twa_portions c)
    × (needed_gates b ≡ needed_gates c)

-- THEOREM: of accepted calls only GRANT, FULFIL and CONTINUE change a set
pub sets_stay : (b : Board) (s : Seven) (c : Call) → Once b → Accepted b s (Some c) → changes_sets c ≡ false
    → SameSets (effect b (Some c)) b
unfolding exclusive_portions any_e is_e twa_portions any_w is_w needed_gates still_needed in_force_needs
sets_stay b s c o k e = (
  set_of_agree 64 (any_e (effect b (Some c))) (any_e b)
      (λ p l. any_stays b o s (is_e p) (λ a w. rw w) (λ a f n g x y. refl) c k e),
  set_of_agree 64 (any_w (effect b (Some c))) (any_w b)
      (λ p l. any_stays b o s (is_w p) (λ a w. rw w) (λ a f n g x y. refl) c k e),
  set_of_agree 64 (is_still_needed (effect b (Some c))) (is_still_needed b)
      (λ g l. rw (gates_stay b (Some c))
      (any_stays b o s (in_force_needs (gate_at b.gates (gate_of g))) (λ a w. rw w) (λ a f n h x y. refl) c k e)),
)

-- a stamp changes none
pub sets_stamped : (b : Board) (day time : ℕ) → SameSets (with_stamp day time b) b
unfolding exclusive_portions any_e twa_portions any_w needed_gates still_needed
sets_stamped b day time = (refl, refl, refl)

-- THEOREM: so every other call leaves them, accepted or refused
pub sets_after : (b : Board) (s : Seven) (room : ℕ) (c : Call) → Once b → named s ≡ Some c → changes_sets c ≡ false
    → SameSets (after b s room) b
unfolding after
sets_after b s room c o is q = go (eqb (answer b s room) 0) refl
  where
    go : (z : Bool) → eqb (answer b s room) 0 ≡ z
        → SameSets (cond z (with_stamp s.day s.time (effect b (named s))) b) b
    go true e =
        let k = subst (Accepted b s) is (accepted b s room (eqb-true (answer b s room) 0 e)) in
        let stamp = sets_stamped (effect b (Some c)) s.day s.time in
        let stay = sets_stay b s c o k q in
        rw is (stamp.0 ∙ stay.0, stamp.1 ∙ stay.1, stamp.2 ∙ stay.2)
    go false e = (refl, refl, refl)

-- ---- the needed gates, at a call that changes a set

-- the limits of authority n don't need the gate with the number g
abbrev pub NotNeeded : Board → GateNo → AuthorityNo → Type 0
NotNeeded b g n = needs (authority b n).limits (gate_at b.gates g) ≡ false

-- it is still needed behind the call exactly where it was before
abbrev pub NeededAsBefore : Board → GateNo → Call → Type 0
NeededAsBefore b g c = still_needed (effect b (Some c)) g ≡ still_needed b g

module _ (b : Board) (o : Once b) (g : GateNo) where
  abbrev needs_it : Authority → Bool
  needs_it = in_force_needs (gate_at b.gates g)

  -- the authority with the number n doesn't need it, in force or not
  needs_not : (n : AuthorityNo) → NotNeeded b g n → (a : Authority) → Member a b.authorities
      → is_authority n a ≡ true → needs a.limits (gate_at b.gates g) ≡ false
  unfolding live
  needs_not n e a m i =
      let l = any_yes (is_authority n) b.authorities a m i in
      ap (λ (x : Authority). needs x.limits (gate_at b.gates g)) (sym (the_named b o n a l m i)) ∙ e

  granted_same : (n : AuthorityNo) → NotNeeded b g n → (xs : List Authority)
      → ((a : Authority) → Member a xs → Member a b.authorities)
      → any needs_it (amended n granted xs) ≡ any needs_it xs
  unfolding in_force_needs
  granted_same n e xs among =
      any_change needs_it (is_authority n) granted xs
      (λ a m i. let q = needs_not n e a (among a m) i in q ∙ sym (and_right (is_in_force a) _ q))

  ended_same : (n : AuthorityNo) → NotNeeded b g n → any needs_it (ended n b.authorities) ≡ any needs_it b.authorities
  unfolding in_force_needs
  ended_same n e =
      any_keep needs_it (is_not_authority n) b.authorities
      (λ a m i. and_right (is_in_force a) _ (needs_not n e a m (not-false (is_authority n a) i)))

  -- THEOREM: a gate that the limits of the authorities named don't need is needed behind GRANT, FULFIL and CONTINUE
  -- exactly where it was before
  pub granted_beside : (n : AuthorityNo) (officer : ℕ) → NotNeeded b g n → NeededAsBefore b g (Grant n officer)
  unfolding effect still_needed
  granted_beside n officer e = granted_same n e b.authorities (λ a m. m)

  pub fulfilled_beside : (n : AuthorityNo) (officer assurances : ℕ) → NotNeeded b g n
      → NeededAsBefore b g (Fulfil n officer assurances)
  unfolding effect still_needed
  fulfilled_beside n officer assurances e = ended_same n e

  pub continued_beside : (old new : AuthorityNo) (officer_old officer_new : ℕ) → NotNeeded b g old → NotNeeded b g new
      → NeededAsBefore b g (Continue old new officer_old officer_new)
  unfolding effect still_needed
  continued_beside old new officer_old officer_new e f =
      granted_same new f (ended old b.authorities) (λ a m. (kept (is_not_authority old) b.authorities a m).member)
      ∙ ended_same old e
