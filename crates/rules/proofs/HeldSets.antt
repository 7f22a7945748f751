-- What the three sets that the wall display reads tell (02, order 8): refusal 13, decided from the portions of
-- exclusive authorities and of TWAs in force, is that of the rules; so are whether MOVE has an E and a W, and 16; and
-- one board has one set of each. Assumes nothing.
use Prim.Native.Nat.{ℕ, ◌≤◌, ◌<◌}
use native.Mathlib.Omega.{arith}
use mathlib.Core.Path.{◌≡◌, refl, sym, ap, ◌∙◌}
use mathlib.Core.Logic.{⊎_elim}
use mathlib.Core.Bool.{Bool, true, false, cond, not, ◌&&◌, ◌||◌}
use mathlib.Core.List.{List}
use lib.ListN.{length, get_or-eq_default}
use lib.Dec.{eqb}
use lib.Pow.{pow_pos}
use borrow.Author.Tests.{eqb-true, eqb-false, eq-eqb, ne_eqb}
use Rattle.std.proofs.lemmas.Bool.{and_right, or_cases, or_left, or_right}
use Rattle.lists.specs.Search.{any, first}
use Rattle.lists.proofs.Tests.{truth, clash, same_test, told, and_l}
use Rattle.lists.proofs.Search.{Member, any_yes, any_none, first_found}
use Rattle.lists.proofs.Distinct.{one_of_number}
use Rattle.sets.specs.Sets.{has, set_of, shares, union, difference}
use Rattle.sets.proofs.Bits.{has_none, has_high}
use Rattle.sets.proofs.Laws.{is_set_of, in_set_of, closed_set_of, shares_some, some_shares, has-union, has-difference}
use Rattle.rules.specs.declared.AuthorityNo.{AuthorityNo}
use Rattle.rules.specs.declared.GateNo.{GateNo}
use Rattle.rules.specs.declared.kind.Kind.{Kind}
use Rattle.rules.specs.declared.kind.Kind.TheVariants.{Lpa, Toa, Twa}
use Rattle.rules.specs.declared.Authority.{Authority}
use Rattle.rules.specs.declared.Register.{Register}
use Rattle.rules.specs.declared.Gate.{Gate}
use Rattle.rules.specs.Board.{Board, board_of, opened, no_gate, no_authority, gate_at, exclusive, is_toa, is_twa}
use Rattle.rules.specs.Board.{is_in_force}
use Rattle.rules.specs.Board.{authority_no, is_authority, live, authority, needs}
use Rattle.rules.specs.Call.{authority_of, gate_of}
use Rattle.rules.specs.Refusals.{rests_on, clashes, overlaps, in_force_needs, still_needed, is_e, is_w, any_e, any_w}
use Rattle.rules.specs.Step.{Once, Kept}
use Rattle.rules.specs.Stored.{exclusive_portions, twa_portions, is_still_needed, needed_gates, limits_as, rested_on}
use Rattle.rules.specs.Stored.{holds_as, left_as, overlaps_held, SortsApart, Stored}
use Rattle.rules.proofs.Follows.{authority_there}
use Rattle.rules.proofs.Once.{held_once}
use Rattle.rules.proofs.Stays.{the_named}
use Rattle.rules.proofs.Recording.{twa_kind}

-- ---- the set of a sort: `exclusive`, or `is_twa`

-- some authority in force of the sort has the portion p; the set of those portions
abbrev pub any_as : (Kind → Bool) → Board → ℕ → Bool
any_as sort b p = any (holds_as sort p) b.authorities

abbrev portions_as : (Kind → Bool) → Board → ℕ
portions_as sort b = set_of 64 (any_as sort b)

-- a live authority in force of the sort that has the portion p
record Holding (b : Board) (sort : Kind → Bool) (p : ℕ) (o : Authority) : Type 0 where
  member : Member o b.authorities
  force : is_in_force o ≡ true
  kind : sort o.kind ≡ true
  holds : has p o.limits ≡ true

module _ (b : Board) (sort : Kind → Bool) (p : ℕ) where
  held_in : p < 64 → has p (portions_as sort b) ≡ true → (o : Authority) × Holding b sort p o
  held_in l h =
      let f = first_found (holds_as sort p) no_authority b.authorities (sym (in_set_of 64 (any_as sort b) p l) ∙ h) in
      let t = f.passes in (
        first (holds_as sort p) no_authority b.authorities,
        record { member = f.member; force = search (told, t); kind = search (told, t); holds = search (told, t) },
      )

  in_held : p < 64 → (o : Authority) → Holding b sort p o → has p (portions_as sort b) ≡ true
  in_held l o k =
      in_set_of 64 (any_as sort b) p l
      ∙ any_yes (holds_as sort p) b.authorities o k.member (rw (k.force, k.kind, k.holds))

  -- ---- the limits taken out

  out_step : (n : AuthorityNo) (t : Bool)
      → (live b n && is_in_force (authority b n) && sort (authority b n).kind) ≡ t
      → has p (cond t (authority b n).limits 0) ≡ true → (q : Authority) × Holding b sort p q × (authority_no q ≡ n.0)
  out_step n true e h =
      let w = authority_there b n (search (told, e)) in (
        authority b n,
        record { member = w.0; force = search (told, e); kind = search (told, e); holds = h },
        w.1,
      )
  out_step n false e h = clash h (has_none p)

  out_of : (n : AuthorityNo) → has p (limits_as sort b n) ≡ true
      → (q : Authority) × Holding b sort p q × (authority_no q ≡ n.0)
  unfolding limits_as
  out_of n h = out_step n _ refl h

  taken_out : Once b → (n : AuthorityNo) (o : Authority) → Holding b sort p o → authority_no o ≡ n.0
      → has p (limits_as sort b n) ≡ true
  unfolding limits_as live
  taken_out once n o k e =
      let i : is_authority n o ≡ true = eq-eqb (authority_no o) n.0 e in
      let l : live b n ≡ true = any_yes (is_authority n) b.authorities o k.member i in
      rw (the_named b once n o l k.member i, l, k.force, k.kind) k.holds

-- ---- 13

module _ (b : Board) (once : Once b) (apart : SortsApart b) (a : Authority) (ma : Member a b.authorities)
    (waits : is_in_force a ≡ false) (old : AuthorityNo) where
  -- the one that a rests on: each live authority has a number that is not 0
  rests_is : (o : Authority) → rests_on a o ≡ true → authority_no o ≡ (rested_on a).0
  unfolding rests_on
  rests_is o r =
      let some : (is_twa a.kind || is_toa a.kind) ≡ true = search (told, r) in
      rw some (eqb-true (authority_no o) a.agreed.0 (search (told, r)))

  is_rests_step : (o : Authority) (t : Bool) → (is_twa a.kind || is_toa a.kind) ≡ t → 1 ≤ authority_no o
      → authority_no o ≡ (cond t a.agreed (authority_of 0)).0 → rests_on a o ≡ true
  unfolding rests_on
  is_rests_step o true e l n = rw e (eq-eqb (authority_no o) a.agreed.0 n)
  is_rests_step o false e l n = absurd (omega arith)

  is_rests : (o : Authority) → Member o b.authorities → authority_no o ≡ (rested_on a).0 → rests_on a o ≡ true
  is_rests o m n = is_rests_step o _ refl (once.allotted o m).0 n

  -- none in force has a's number
  not_itself : (o : Authority) → Member o b.authorities → is_in_force o ≡ true → authority_no o ≡ authority_no a → ⊥
  not_itself o m f e =
      clash f (ap is_in_force (one_of_number authority_no b.authorities (held_once b once).0 o a m ma e) ∙ waits)

  module _ (sort : Kind → Bool)
      (alike : (x y : Kind) → sort x ≡ true → sort y ≡ true → exclusive x ≡ exclusive y) where
    abbrev left : ℕ
    left = left_as sort (portions_as sort b) b old a

    -- what is left in the set of a sort is held by one that is neither old nor rested on
    left_in : (p : ℕ) → p < 64 → has p left ≡ true
        → (o : Authority) × Holding b sort p o × (authority_no o ≡ old.0 → ⊥) × (rests_on a o ≡ false)
    unfolding left_as
    left_in p l h =
        let without_old : ℕ = difference (portions_as sort b) (limits_as sort b old) in
        let d : (has p without_old && not (has p (limits_as sort b (rested_on a)))) ≡ true =
        sym (has-difference without_old (limits_as sort b (rested_on a)) p l) ∙ h in
        let e : (has p (portions_as sort b) && not (has p (limits_as sort b old))) ≡ true =
        sym (has-difference (portions_as sort b) (limits_as sort b old) p l) ∙ and_l (has p without_old) _ d in
        let (o, k) = held_in b sort p l (search (told, e)) in (
          o,
          k,
          (λ n. clash (taken_out b sort p once old o k n) (search (told, e))),
          ⊎_elim (λ r. clash (taken_out b sort p once (rested_on a) o k (rests_is o r)) (search (told, d))) (λ r. r)
              (truth (rests_on a o)),
        )

    -- two in force of the sort that have p are one
    one_holds : (p : ℕ) → p < 64 → (o q : Authority) → Holding b sort p o → Holding b sort p q
        → (authority_no q ≡ authority_no o → ⊥) → ⊥
    one_holds p l o q k j n =
        clash (shares_some q.limits o.limits p l j.holds k.holds)
        (apart.apart q o j.member k.member n j.force k.force (alike q.kind o.kind j.kind k.kind))

    none_out : (p : ℕ) → p < 64 → (o : Authority) → Holding b sort p o → (n : AuthorityNo) → (authority_no o ≡ n.0 → ⊥)
        → has p (limits_as sort b n) ≡ false
    none_out p l o k n ne =
        ⊎_elim
        (λ h. let (q, j, e) = out_of b sort p n h in absurd (one_holds p l o q k j (λ w. ne (sym w ∙ e))))
        (λ h. h) (truth (has p (limits_as sort b n)))

    in_left : (p : ℕ) → p < 64 → (o : Authority) → Holding b sort p o → (authority_no o ≡ old.0 → ⊥)
        → rests_on a o ≡ false
        → has p left ≡ true
    unfolding left_as
    in_left p l o k n r =
        let x = none_out p l o k old n in
        let y = none_out p l o k (rested_on a) (λ e. clash (is_rests o k.member e) r) in
        has-difference (difference (portions_as sort b) (limits_as sort b old)) (limits_as sort b (rested_on a)) p l
        ∙ rw (has-difference (portions_as sort b) (limits_as sort b old) p l, in_held b sort p l o k, x, y)

    -- what is left gives 13
    left_clashes : (p : ℕ) → p < 64 → has p a.limits ≡ true → has p left ≡ true → overlaps b old a ≡ true
    unfolding overlaps clashes
    left_clashes p l ha h =
        let (o, k, n, r) = left_in p l h in
        any_yes (clashes old a) b.authorities o k.member
        (rw (
          k.force,
          ne_eqb (authority_no o) (authority_no a) (not_itself o k.member k.force),
          ne_eqb (authority_no o) old.0 n,
          shares_some a.limits o.limits p l ha k.holds,
          r,
        ))

-- of one kind: each kind is exclusive or a TWA, and not both
exclusive_alike : (x y : Kind) → exclusive x ≡ true → exclusive y ≡ true → exclusive x ≡ exclusive y
exclusive_alike x y e f = e ∙ sym f

twa_alike : (x y : Kind) → is_twa x ≡ true → is_twa y ≡ true → exclusive x ≡ exclusive y
twa_alike x y e f = ap exclusive (twa_kind x e ∙ sym (twa_kind y f))

not_exclusive : (k : Kind) → exclusive k ≡ false → is_twa k ≡ true
not_exclusive Lpa e = clash refl e
not_exclusive Toa e = clash refl e
not_exclusive Twa e = refl

module _ (b : Board) (once : Once b) (apart : SortsApart b) (a : Authority) (ma : Member a b.authorities)
    (waits : is_in_force a ≡ false) (old : AuthorityNo) where
  abbrev exclusives_left : ℕ
  exclusives_left = left_as exclusive (exclusive_portions b) b old a

  abbrev twas_left : ℕ
  twas_left = left_as is_twa (twa_portions b) b old a

  held_overlaps : overlaps_held (exclusive_portions b) (twa_portions b) b old a ≡ true → overlaps b old a ≡ true
  unfolding overlaps_held exclusive_portions twa_portions any_e any_w is_e is_w
  held_overlaps h =
      let (p, l, ha, hu) = some_shares a.limits (union exclusives_left twas_left) h in
      ⊎_elim (left_clashes b once apart a ma waits old exclusive exclusive_alike p l ha)
      (left_clashes b once apart a ma waits old is_twa twa_alike p l ha)
      (or_cases (has p exclusives_left) (has p twas_left) (sym (has-union exclusives_left twas_left p l) ∙ hu))

  overlaps_is_held : overlaps b old a ≡ true → overlaps_held (exclusive_portions b) (twa_portions b) b old a ≡ true
  unfolding overlaps clashes overlaps_held exclusive_portions twa_portions any_e any_w is_e is_w
  overlaps_is_held h =
      let f = first_found (clashes old a) no_authority b.authorities h in
      let o = first (clashes old a) no_authority b.authorities in
      let t = f.passes in
      let force : is_in_force o ≡ true = search (told, t) in
      let ne : eqb (authority_no o) old.0 ≡ false = search (told, t) in
      let sh : shares a.limits o.limits ≡ true = search (told, t) in
      let r : rests_on a o ≡ false = search (told, t) in
      let (p, l, ha, ho) = some_shares a.limits o.limits sh in
      shares_some a.limits (union exclusives_left twas_left) p l ha
      (has-union exclusives_left twas_left p l
      ∙ ⊎_elim
      (λ s. or_left (has p exclusives_left) (has p twas_left)
      (in_left b once apart a ma waits old exclusive exclusive_alike p l o
      (record { member = f.member; force = force; kind = s; holds = ho }) (eqb-false (authority_no o) old.0 ne) r))
      (λ s. or_right (has p exclusives_left) (has p twas_left)
      (in_left b once apart a ma waits old is_twa twa_alike p l o
      (record { member = f.member; force = force; kind = not_exclusive o.kind s; holds = ho })
      (eqb-false (authority_no o) old.0 ne) r))
      (truth (exclusive o.kind)))

  -- THEOREM: 13 for a pending authority, decided from the two sets, is that of the rules
  pub overlaps_stored : overlaps_held (exclusive_portions b) (twa_portions b) b old a ≡ overlaps b old a
  overlaps_stored =
      same_test (overlaps_held (exclusive_portions b) (twa_portions b) b old a) (overlaps b old a) held_overlaps
      overlaps_is_held

-- ---- the places of the sets

module _ (b : Board) (apart : SortsApart b) (p : ℕ) where
  -- no authority has the portion 64, or a higher one: outside, 99, is in none
  none_high : (sort : Kind → Bool) → 64 ≤ p → any_as sort b p ≡ false
  none_high sort l =
      any_none (holds_as sort p) b.authorities
      (λ o m. and_right (is_in_force o && sort o.kind) _ (has_high 64 p o.limits (apart.small o m) l))

  -- THEOREM: a place, outside too, is in the set of the exclusive authorities in force exactly where there is an E for
  -- MOVE, and in the set of the TWAs exactly where there is a W
  pub exclusive_place : has p (exclusive_portions b) ≡ any_e b p
  unfolding exclusive_portions any_e is_e
  exclusive_place = closed_set_of 64 (any_as exclusive b) p (none_high exclusive)

  pub twa_place : has p (twa_portions b) ≡ any_w b p
  unfolding twa_portions any_w is_w
  twa_place = closed_set_of 64 (any_as is_twa b) p (none_high is_twa)

-- a gate from a portion to the same portion is one that nothing needs
no_gate_needed : (xs : List Authority) → any (in_force_needs no_gate) xs ≡ false
unfolding in_force_needs needs
no_gate_needed xs =
    any_none (in_force_needs no_gate) xs
    (λ a m. and_right (is_in_force a) _ (none (has 0 a.limits)))
  where
    none : (t : Bool) → (t && not t) ≡ false
    none true = refl
    none false = refl

-- and so is what stands past a plan
pub past_plan : (gates : List Gate) (xs : List Authority) (g : ℕ) → length gates ≤ g
    → any (in_force_needs (gate_at gates (gate_of g))) xs ≡ false
past_plan gates xs g l =
    let past : gate_at gates (gate_of g) ≡ no_gate = get_or-eq_default gates no_gate l in rw past (no_gate_needed xs)

-- THEOREM: a gate is in the set of needed gates exactly where an authority in force needs it; past the plan there is
-- none
pub needed_place : (b : Board) → length b.gates ≤ 64 → (g : ℕ) → has g (needed_gates b) ≡ still_needed b (gate_of g)
unfolding needed_gates still_needed
needed_place b few g =
    closed_set_of 64 (is_still_needed b) g (λ l. past_plan b.gates b.authorities g (omega arith))

-- ---- the same of a register

module _ (r : Register) (k : Kept r) where
  -- THEOREM: what a call asks of the sets that a register holds, it asks of the board: 13; E and W of MOVE; 16
  pub kept_13 : (a : Authority) → Member a r.authorities.items → is_in_force a ≡ false → (old : AuthorityNo)
      → overlaps_held r.exclusive_held r.twa_held (board_of r) old a ≡ overlaps (board_of r) old a
  unfolding board_of
  kept_13 a m waits old =
      rw (k.stored.exclusive_held, k.stored.twa_held) (overlaps_stored (board_of r) k.once k.sorts a m waits old)

  pub kept_e : (p : ℕ) → has p r.exclusive_held ≡ any_e (board_of r) p
  kept_e p = ap (has p) k.stored.exclusive_held ∙ exclusive_place (board_of r) k.sorts p

  pub kept_w : (p : ℕ) → has p r.twa_held ≡ any_w (board_of r) p
  kept_w p = ap (has p) k.stored.twa_held ∙ twa_place (board_of r) k.sorts p

  pub kept_16 : (g : GateNo) → has g.0 r.needed ≡ still_needed (board_of r) g
  unfolding board_of
  kept_16 g = ap (has g.0) k.stored.needed ∙ needed_place (board_of r) k.bounds.gates g.0

-- THEOREM: two registers that stand for one board hold the same sets, so that nothing of a register is left free
pub same_board_sets : (r r' : Register) → Stored r → Stored r' → board_of r ≡ board_of r'
    → (r.exclusive_held ≡ r'.exclusive_held) × (r.twa_held ≡ r'.twa_held) × (r.needed ≡ r'.needed)
same_board_sets r r' k k' e = (
  k.exclusive_held ∙ ap exclusive_portions e ∙ sym k'.exclusive_held,
  k.twa_held ∙ ap twa_portions e ∙ sym k'.twa_held,
  k.needed ∙ ap needed_gates e ∙ sym k'.needed,
)

-- ---- a freshly opened board

empty_set : (test : ℕ → Bool) → ((p : ℕ) → test p ≡ false) → 0 ≡ set_of 64 test
empty_set test none = is_set_of 64 0 test (pow_pos 64) (λ p l. has_none p ∙ sym (none p))

-- THEOREM: its sets are empty
pub sets_opened : (portions : ℕ) (gates : List Gate)
    → (0 ≡ exclusive_portions (opened portions gates)) × (0 ≡ twa_portions (opened portions gates))
    × (0 ≡ needed_gates (opened portions gates))
unfolding opened exclusive_portions any_e twa_portions any_w needed_gates still_needed
sets_opened portions gates = (empty_set _ (λ p. refl), empty_set _ (λ p. refl), empty_set _ (λ g. refl))
