-- Demand 3, call by call: the calls that put an authority in force or its workers on (GRANT, REOCCUPY, CONTINUE), by
-- what 11, 12 and 13 tell. Assumes nothing.
use Rattle.std.specs.Prelude.{Some}
use Prim.Native.Nat.{ℕ, suc, ◌<◌}
use native.Mathlib.Omega.{arith}
use mathlib.Core.Path.{◌≡◌, refl, sym, ap, subst, ◌∙◌}
use mathlib.Core.Logic.{◌⊎◌, inl, ⊎_elim, ⊎_map}
use mathlib.Core.Bool.{Bool, true, false, cond, not, ◌&&◌, ◌||◌, false≢true}
use lib.ListN.{length}
use lib.Dec.{eqb, leb}
use borrow.Author.Tests.{eqb-true, eqb-false, eq-eqb, ne_eqb, le-leb}
use Rattle.lists.specs.Search.{below}
use Rattle.std.proofs.lemmas.Bool.{and_from, or_cases, or_left, or_right, not-false}
use Rattle.lists.proofs.Tests.{truth, clash, told, shown, and_no_r}
use Rattle.lists.proofs.Search.{Member, any_no, below_has, change_each}
use Rattle.lists.proofs.Distinct.{taken_change}
use Rattle.sets.specs.Sets.{between, has, shares}
use Rattle.sets.proofs.Laws.{shares_some}
use Rattle.rules.specs.declared.AuthorityNo.{AuthorityNo}
use Rattle.rules.specs.declared.kind.Kind.TheVariants.{Twa}
use Rattle.rules.specs.declared.Authority.{Authority}
use Rattle.rules.specs.declared.Train.{Train}
use Rattle.rules.specs.declared.Seven.{Seven}
use Rattle.rules.specs.declared.Call.TheVariants.{Grant, Reoccupy, Continue}
use Rattle.rules.specs.Board.{Board, gate_at, exclusive, is_toa, is_twa, is_in_force, authority_no, train_no, live}
use Rattle.rules.specs.Board.{authority, touches, needs, with_authorities, with_trains, ended}
use Rattle.rules.specs.Call.{authority_of, gate_of}
use Rattle.rules.specs.Refusals.{is_open, unprotected, occupied, in_the_way, occupied_beside, rests_on, clashes}
use Rattle.rules.specs.Refusals.{overlaps, own}
use Rattle.rules.specs.Effects.{granted, with_site, with_authority, is_with, continued_with, continued, effect}
use Rattle.rules.specs.Reckoning as Reckoning
use Rattle.rules.specs.Reckoning.{Reckoned, Position, put, as_forced, as_ended, as_sited, as_continued, reckon}
use Rattle.rules.specs.Claim.{In, Forced, Agreed, Safe}
use Rattle.rules.proofs.Answers.{condition_at}
use Rattle.rules.proofs.Accepted.{Accepted}
use Rattle.rules.proofs.Follows.{put_other, put_all, Held, Placed, giver, Follows, authority_there, there_ended}
use Rattle.rules.proofs.Follows.{follows_amended, follows_ended, follows_trains}
use Rattle.rules.proofs.KeepsSafe.{New, safe_put, safe_quieter}
use Rattle.rules.proofs.Recording.{Keeps, toa_kind, twa_kind, twa_agreement, toa_agreement, here, there, is_live}
use Rattle.rules.proofs.Recording.{held_there, held_anew, held_sited}

-- the train that a reckoned number stands for
pub placed_there : (b : Board) (r : Reckoning.Reckoning) → Follows b r → (t : ℕ) → (r.train t).on_board ≡ true
    → (o : Train) × Member o b.trains × Placed (r.train t) o
placed_there b r F t on =
    let (o, m, e) = F.runs t on in
    (o, m, subst (λ (k : ℕ). Placed (r.train k) o) e (F.placed o m))

-- ---- what the conditions 11, 12 and 13 tell of an authority n that is about to be in force

module _ (b : Board) (r : Reckoning.Reckoning) (F : Follows b r) (n : AuthorityNo) (l : live b n ≡ true) where
  abbrev x : Reckoned
  x = r.authority n.0

  abbrev a : Authority
  a = authority b n

  h : Held r.requests x a
  h = here b r F n l

  -- 13: another in force shares a portion only if n rests on the agreement of its officer; it came into force earlier
  new_apart : (old : AuthorityNo) → overlaps b old a ≡ false → (m p : ℕ) → (m ≡ n.0 → ⊥) → (m ≡ old.0 → ⊥)
      → Forced r.authority m → In (r.authority m) p → In x p → Agreed (r.authority m) m (as_forced (suc r.grants) x)
  unfolding overlaps clashes rests_on
  new_apart old fails m p ne nold f im ip =
      let (o, mo, e, k) = held_there b r F m f in
      let none : clashes old a o ≡ false = any_no (clashes old a) b.authorities fails o mo in
      let c1 : is_in_force o ≡ true = sym k.force ∙ f in
      let c2 : not (eqb (authority_no o) (authority_no a)) ≡ true =
      ap not (ne_eqb (authority_no o) (authority_no a) (λ q. ne (sym e ∙ q ∙ (authority_there b n l).1))) in
      let c3 : not (eqb (authority_no o) old.0) ≡ true =
      ap not (ne_eqb (authority_no o) old.0 (λ q. nold (sym e ∙ q))) in
      let c4 : shares a.limits o.limits ≡ true =
      shares_some a.limits o.limits p (omega (arith, k.last)) (h.from p ip) (k.from p im) in
      let c5 : not ((is_twa a.kind || is_toa a.kind) && eqb (authority_no o) a.agreed.0) ≡ false =
      search (shown, none) in
      let some-kind : (is_twa a.kind || is_toa a.kind) ≡ true = search (told, c5) in
      let agreed : authority_no o ≡ a.agreed.0 = search (told, eqb-true, c5) in
      let some : a.agreed.0 ≡ 0 → ⊥ = λ z. omega (arith, k.positive) in
      let gives : (r.authority m).kind ≡ giver a.kind =
      subst (λ (i : ℕ). (r.authority i).kind ≡ giver a.kind) (sym agreed ∙ e)
      (F.rests a (authority_there b n l).0 some).0 in (
        omega (arith, F.since m f),
        ⊎_map
            (λ w. let twa = twa_kind a.kind w in (
              gives ∙ ap giver twa,
              h.kind ∙ twa,
              sym (twa_agreement x (h.kind ∙ twa)) ∙ h.agreement ∙ sym agreed ∙ e,
            ))
            (λ w. let toa = toa_kind a.kind w in (
              gives ∙ ap giver toa,
              h.kind ∙ toa,
              sym (toa_agreement x (h.kind ∙ toa)) ∙ h.agreement ∙ sym agreed ∙ e,
            ))
            (or_cases (is_twa a.kind) (is_toa a.kind) some-kind),
      )

  -- 11: each gate that n needs is blocked
  new_protected : unprotected b a ≡ false → (g : ℕ) → g < length b.gates → In x (gate_at b.gates (gate_of g)).to
      → (In x (gate_at b.gates (gate_of g)).from → ⊥) → r.blocked g ≡ true
  unfolding unprotected is_open needs
  new_protected fails g lt i o =
      let none : is_open b a.limits g ≡ false =
      any_no (is_open b a.limits) (below (length b.gates)) fails g (below_has (length b.gates) g lt) in
      let to : has (gate_at b.gates (gate_of g)).to a.limits ≡ true = h.from _ i in
      let from : not (has (gate_at b.gates (gate_of g)).from a.limits) ≡ true =
      ⊎_elim (λ q. absurd (o (h.into _ q))) (λ q. ap not q) (truth (has (gate_at b.gates (gate_of g)).from a.limits)) in
      let on : not (has g b.blocks) ≡ false = search (shown, none) in
      F.blocks g (search (told, on))

  -- 12 of GRANT and REOCCUPY: no train touches n's limits
  new_untouched : occupied b a ≡ false → (t : ℕ) → (r.train t).on_board ≡ true
      → (In x (r.train t).head → ⊥) × (In x (r.train t).rear → ⊥)
  unfolding occupied touches
  new_untouched fails t on =
      let (o, m, q) = placed_there b r F t on in
      let none : touches a.limits o ≡ false = any_no (touches a.limits) b.trains fails o m in (
        (λ i. clash (h.from o.head (subst (In x) q.head i)) (search (told, none))),
        (λ i. clash (h.from o.rear (subst (In x) q.rear i)) (search (told, none))),
      )

held_granted : {requests : ℕ} (since : ℕ) (x : Reckoned) (a : Authority) → Held requests x a
    → Held requests (as_forced since x) (granted a)
held_granted since x a h =
    held_anew x (as_forced since x) a (granted a) h refl refl refl refl refl refl refl (λ e. refl) h.agreement

module _ (b : Board) (r : Reckoning.Reckoning) (F : Follows b r) (S : Safe b.gates r) (s : Seven) where
  -- ---- GRANT

  pub keeps_grant : (n : AuthorityNo) (officer : ℕ) → Accepted b s (Some (Grant n officer))
      → Keeps b r (Some (Grant n officer))
  unfolding effect reckon own condition_at
  keeps_grant n officer ok = record {
    follows =
        follows_amended b r F n granted x (suc r.grants) (λ a. refl) refl
        (held_granted (suc r.grants) (r.authority n.0))
        (λ a m e. F.rests a m) (there b r F n l) (omega arith) (λ f. omega arith);
    safe =
        safe_put b.gates r n.0 x
        (record {
          apart = λ m p ne f im ip. inl (new_apart b r F n l (authority_of 0) (ok.ok 13) m p ne (nonzero m f) f im ip);
          piloted = λ t on e i. absurd ((new_untouched b r F n l (ok.ok 12) t on).0 i);
          untouched = λ t on k v. new_untouched b r F n l (ok.ok 12) t on;
          protected = new_protected b r F n l (ok.ok 11);
        })
        S (suc r.grants);
  }
    where
      x : Reckoned
      x = as_forced (suc r.grants) (r.authority n.0)

      l : live b n ≡ true
      l = is_live b r F n (ok.ok 5)

      nonzero : (m : ℕ) → Forced r.authority m → m ≡ 0 → ⊥
      nonzero m f z =
          let (a, k, e) = F.there m f in
          omega (arith, (F.held a k).positive, e)

  -- ---- REOCCUPY

  pub keeps_reoccupy : (n : AuthorityNo) (officer : ℕ) → Accepted b s (Some (Reoccupy n officer))
      → Keeps b r (Some (Reoccupy n officer))
  unfolding effect reckon own condition_at
  keeps_reoccupy n officer ok = record {
    follows =
        follows_amended b r F n (with_site true) (as_sited true (r.authority n.0)) r.grants (λ a. refl) refl
        (held_sited (r.authority n.0) true) (λ a m e. F.rests a m) (there b r F n l) (omega arith) (F.since n.0);
    safe =
        safe_put b.gates r n.0 (as_sited true (r.authority n.0))
        (record {
          apart = λ m p ne f im ip. S.apart m n.0 p ne f force im ip;
          piloted = λ t on e i. S.piloted t n.0 on force e i;
          untouched = λ t on k v. new_untouched b r F n l (free k) t on;
          protected = λ g lt i o. S.protected n.0 g force lt i o;
        })
        S r.grants;
  }
    where
      l : live b n ≡ true
      l = is_live b r F n (ok.ok 5)

      force : Forced r.authority n.0
      force = (here b r F n l).force ∙ not-false (is_in_force (authority b n)) (ok.ok 6)

      free : (r.authority n.0).kind ≡ Twa → occupied b (authority b n) ≡ false
      free k =
          and_no_r (is_twa (authority b n).kind) (occupied b (authority b n)) (ok.ok 12)
          (ap is_twa (sym (here b r F n l).kind ∙ k))

-- ---- CONTINUE

module _ (b : Board) (r : Reckoning.Reckoning) (F : Follows b r) (old new : AuthorityNo) (lo : live b old ≡ true)
    (ln : live b new ≡ true) where
  abbrev y : Reckoned
  y = r.authority new.0

  abbrev c : Authority
  c = authority b new

  hc : Held r.requests y c
  hc = here b r F new ln

  -- the trains handed over
  abbrev handed : ℕ → Position
  handed t = as_continued old.0 new.0 y (r.train t)

  nonzero_old : old.0 ≡ 0 → ⊥
  nonzero_old z =
      let e = (authority_there b old lo).1 in
      omega (arith, (here b r F old lo).positive)

  -- a train that isn't reckoned under old stays under what it was; one that is, with its head in the limits, comes
  -- under new
  not_handed : (t : ℕ) → ((r.train t).under ≡ old.0 → ⊥) → (handed t).under ≡ (r.train t).under
  not_handed t z =
      ap (λ (k : Bool). cond (k && between y.first y.last (r.train t).head) new.0 (r.train t).under)
      (ne_eqb (r.train t).under old.0 z)

  is_handed : (t : ℕ) → (r.train t).under ≡ old.0 → In y (r.train t).head → (handed t).under ≡ new.0
  is_handed t e i =
      ap (λ (k : Bool). cond k new.0 (r.train t).under)
      (and_from (eqb (r.train t).under old.0) (between y.first y.last (r.train t).head)
      (eq-eqb (r.train t).under old.0 e)
      (and_from (leb y.first (r.train t).head) (leb (r.train t).head y.last) (le-leb y.first (r.train t).head i.0)
      (le-leb (r.train t).head y.last i.1)))

  -- 12: a train on the board isn't in the way
  beside : occupied_beside b old c ≡ false → (t : ℕ) → (r.train t).on_board ≡ true
      → (o : Train) × Placed (r.train t) o × (in_the_way old c o ≡ false)
  unfolding occupied_beside
  beside fails t on =
      let (o, m, q) = placed_there b r F t on in
      (o, q, any_no (in_the_way old c) b.trains fails o m)

  beside_piloted : occupied_beside b old c ≡ false → (t : ℕ) → (r.train t).on_board ≡ true → In y (r.train t).head
      → (r.train t).under ≡ old.0
  unfolding in_the_way touches
  beside_piloted fails t on i =
      let (o, q, none) = beside fails t on in
      let at : has o.head c.limits ≡ true = hc.from o.head (subst (In y) q.head i) in
      let d : (is_twa c.kind || not (eqb o.with.0 old.0) || not (has o.head c.limits)) ≡ false = search (shown, none) in
      let w : o.with.0 ≡ old.0 = search (told, eqb-true, d) in
      q.under (λ z. nonzero_old (sym w ∙ z)) ∙ w

  beside_untouched : occupied_beside b old c ≡ false → (t : ℕ) → (r.train t).on_board ≡ true → y.kind ≡ Twa
      → (In y (r.train t).head → ⊥) × (In y (r.train t).rear → ⊥)
  unfolding in_the_way touches
  beside_untouched fails t on k =
      let (o, q, none) = beside fails t on in
      let twa : is_twa c.kind ≡ true = ap is_twa (sym hc.kind ∙ k) in
      let d : (is_twa c.kind || not (eqb o.with.0 old.0) || not (has o.head c.limits)) ≡ true = search shown in
      let never : (has o.head c.limits || has o.rear c.limits) ≡ true → ⊥ = λ z. clash d (search (shown, none)) in (
        (λ i. never (or_left (has o.head c.limits) (has o.rear c.limits) (hc.from o.head (subst (In y) q.head i)))),
        (λ i. never (or_right (has o.head c.limits) (has o.rear c.limits) (hc.from o.rear (subst (In y) q.rear i)))),
      )

  -- a train that was with old, and one that was not
  placed_handed : (t : Train) → Placed (r.train (train_no t)) t → t.with.0 ≡ old.0 → (z : Bool)
      → has t.head c.limits ≡ z
      → Placed (handed (train_no t)) (with_authority (cond z new (authority_of 0)) t)
  placed_handed t q w true e = record {
    on_board = q.on_board;
    head = q.head;
    rear = q.rear;
    under =
        λ z. is_handed (train_no t) (q.under (λ k. nonzero_old (sym w ∙ k)) ∙ w)
        (subst (In y) (sym q.head) (hc.into t.head e));
  }
  placed_handed t q w false e =
      record { on_board = q.on_board; head = q.head; rear = q.rear; under = λ z. absurd (z refl) }

  placed_other : (t : Train) → Placed (r.train (train_no t)) t → (t.with.0 ≡ old.0 → ⊥) → Placed (handed (train_no t)) t
  placed_other t q w = record {
    on_board = q.on_board;
    head = q.head;
    rear = q.rear;
    under = λ z. not_handed (train_no t) (λ k. w (sym (q.under z) ∙ k)) ∙ q.under z;
  }

module _ (b : Board) (r : Reckoning.Reckoning) (F : Follows b r) (S : Safe b.gates r) (s : Seven) where
  pub keeps_continue : (old new : AuthorityNo) (officer_old officer_new : ℕ)
      → Accepted b s (Some (Continue old new officer_old officer_new))
      → Keeps b r (Some (Continue old new officer_old officer_new))
  unfolding effect reckon own condition_at
  keeps_continue old new officer_old officer_new ok = record {
    follows =
        follows_amended b1 r1 follows_old new granted (as_forced (suc r.grants) (r1.authority new.0)) (suc r.grants)
        (λ a. refl) refl
        (held_granted (suc r.grants) (r1.authority new.0)) (λ a m e. follows_old.rests a m)
        (there_ended old b.authorities new.0 distinct (there b r F new ln)) (omega arith) (λ f. omega arith);
    safe =
        safe_put b.gates r1 new.0 (as_forced (suc r.grants) (r1.authority new.0))
        (subst (λ (u : Reckoned). New b.gates r1 new.0 (as_forced (suc r.grants) u)) (sym new_is)
        (record {
          apart = apart_new;
          piloted =
              λ t on e i. is_handed b r F old new lo ln t (beside_piloted b r F old new lo ln (ok.ok 12) t on i) i;
          untouched = λ t on k v. beside_untouched b r F old new lo ln (ok.ok 12) t on k;
          protected = new_protected b r F new ln (ok.ok 11);
        }))
        safe_old (suc r.grants);
  }
    where
      x : Reckoned
      x = as_forced (suc r.grants) (r.authority new.0)

      z : Reckoned
      z = as_ended (r.authority old.0)

      lo : live b old ≡ true
      lo = is_live b r F old (search (told, ok.ok 5))

      ln : live b new ≡ true
      ln = is_live b r F new (search (told, ok.ok 5))

      T1 : ℕ → Position
      T1 t = as_continued old.0 new.0 (r.authority new.0) (r.train t)

      -- old ended, and the trains handed over
      b1 : Board
      b1 =
          with_trains (continued old new (authority b new).limits b.trains)
          (with_authorities (ended old b.authorities) b)

      r1 : Reckoning.Reckoning
      r1 = Reckoning.with_positions T1 (Reckoning.with_reckoned (put old.0 z r.authority) r)

      distinct : new.0 ≡ old.0 → ⊥
      distinct e =
          let forced-old : is_in_force (authority b old) ≡ true = search (told, ok.ok 6) in
          let pending-new : is_in_force (authority b new) ≡ false = search (told, ok.ok 6) in
          clash forced-old (subst (λ (k : ℕ). is_in_force (authority b (authority_of k)) ≡ false) e pending-new)

      new_is : put old.0 z r.authority new.0 ≡ r.authority new.0
      new_is = put_other old.0 z r.authority new.0 distinct

      follows_old : Follows b1 r1
      follows_old =
          follows_trains (with_authorities (ended old b.authorities) b)
          (Reckoning.with_reckoned (put old.0 z r.authority) r)
          (follows_ended b r F old)
          (continued old new (authority b new).limits b.trains) T1
          (change_each (λ (t : Train). Placed (T1 (train_no t)) t) (is_with old)
          (continued_with new (authority b new).limits) b.trains
          (λ t m e. placed_other b r F old new lo ln t (F.placed t m) (eqb-false t.with.0 old.0 e))
          (λ t m e. placed_handed b r F old new lo ln t (F.placed t m) (eqb-true t.with.0 old.0 e)
          (has t.head (authority b new).limits) refl))
          (λ t on. taken_change train_no (is_with old) (continued_with new (authority b new).limits)
          (λ t. refl) b.trains t (F.runs t on))

      -- what holds of every authority but old, old being ended
      but_old : (P : ℕ → Reckoned → Type 0) → ((m : ℕ) → (m ≡ old.0 → ⊥) → Forced r.authority m → P m (r.authority m))
          → (m : ℕ) → Forced (put old.0 z r.authority) m → P m (put old.0 z r.authority m)
      but_old P k =
          put_all (λ (m : ℕ) (u : Reckoned). u.is_in_force ≡ true → P m u) old.0 z r.authority
          (λ f. absurd (false≢true f)) k

      safe_ended : Safe b.gates (Reckoning.with_reckoned (put old.0 z r.authority) r)
      safe_ended = safe_quieter b.gates r S r.requests old.0 z (λ f. absurd (false≢true f))

      safe_old : Safe b.gates r1
      safe_old = record {
        apart = safe_ended.apart;
        piloted =
            λ t m on f.
            but_old (λ (m : ℕ) (u : Reckoned). exclusive u.kind ≡ true → In u (r.train t).head → (T1 t).under ≡ m)
            (λ m ne f e i. not_handed b r F old new lo ln t (λ k. ne (sym (S.piloted t m on f e i) ∙ k))
            ∙ S.piloted t m on f e i) m f;
        untouched = λ t m on f. safe_ended.untouched t m on f;
        protected = safe_ended.protected;
      }

      apart_new : (m p : ℕ) → (m ≡ new.0 → ⊥) → Forced (put old.0 z r.authority) m → In (put old.0 z r.authority m) p
          → In x p
          → Agreed (put old.0 z r.authority m) m x ⊎ Agreed x new.0 (put old.0 z r.authority m)
      apart_new m p ne f =
          but_old (λ (m : ℕ) (u : Reckoned). (m ≡ new.0 → ⊥) → In u p → In x p → Agreed u m x ⊎ Agreed x new.0 u)
          (λ m nold f ne im ip. inl (new_apart b r F new ln old (ok.ok 13) m p ne nold f im ip)) m f ne
