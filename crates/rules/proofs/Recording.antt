-- Demand 3, call by call: the calls that put nothing more in force (REQUEST, WITHDRAW, HAND OVER, TERM, BOOK OUT, BOOK
-- IN, AGREE, JOIN, BLOCK, UNBLOCK, CLEAR, FULFIL). Each keeps two things: the board follows the reckoning, and the
-- reckoning is safe. Assumes nothing.
use Rattle.std.specs.Prelude.{Option, Some}
use Prim.Native.Nat.{ℕ, suc, ◌≤◌, ◌<◌}
use native.Mathlib.Omega.{arith}
use mathlib.Core.Path.{◌≡◌, refl, sym, ap, subst, ◌∙◌}
use mathlib.Core.Logic.{⊎_elim}
use mathlib.Core.Bool.{Bool, true, false, cond, not, ◌&&◌, false≢true, true≢false}
use lib.ListN.{set}
use mathlib.Core.List.Memᴰ
use mathlib.Core.List.{[], ◌∷◌}
use lib.Dec.{eqb}
use borrow.Author.Tests.{eq-eqb, ne_eqb}
use Rattle.std.proofs.lemmas.Bool.{not-false, or_right}
use Rattle.lists.proofs.Tests.{truth, told, shown}
use Rattle.lists.proofs.Search.{Member, any_no, change_each}
use Rattle.lists.proofs.Distinct.{Taken, taken_change}
use Rattle.sets.specs.Sets.{has, run, insert, remove}
use Rattle.sets.proofs.Laws.{run_in, in_run, insert_below, remove_below, in_insert, in_remove}
use Rattle.rules.specs.declared.AuthorityNo.{AuthorityNo}
use Rattle.rules.specs.declared.GateNo.{GateNo}
use Rattle.rules.specs.declared.PaperNo.{PaperNo}
use Rattle.rules.specs.declared.kind.Kind.{Kind}
use Rattle.rules.specs.declared.kind.Kind.TheVariants.{Lpa, Toa, Twa}
use Rattle.rules.specs.declared.Gate.{Gate}
use Rattle.rules.specs.declared.Authority.{Authority}
use Rattle.rules.specs.declared.Train.{Train}
use Rattle.rules.specs.declared.Seven.{Seven}
use Rattle.rules.specs.declared.Call.{Call}
use Rattle.rules.specs.declared.Call.TheVariants.{Request, Withdraw, Agree, Block, Unblock, Clear, HandOver, Fulfil}
use Rattle.rules.specs.declared.Call.TheVariants.{Term, Join, BookOut, BookIn}
use Rattle.rules.specs.Board.{Board, gate_at, is_lpa, is_toa, is_twa, is_in_force, has_workers_on, authority_no}
use Rattle.rules.specs.Board.{train_no, live, authority, needs, with_authorities, amended, ended}
use Rattle.rules.specs.Refusals.{not_live, not_to_agree, not_to_join, still_needed, in_force_needs, own}
use Rattle.rules.specs.Effects.{requested, booked_out, booked_in, with_site, with_officer, with_agreed, with_term}
use Rattle.rules.specs.Effects.{with_authority, is_with, freed, next_no, effect}
use Rattle.rules.specs.Call.{authority_of, gate_of, minute_of}
use Rattle.rules.specs.Reckoning as Reckoning
use Rattle.rules.specs.Reckoning.{Reckoned, agreement, put, as_requested, as_ended, as_sited, as_agreed, as_joined}
use Rattle.rules.specs.Reckoning.{reckon}
use Rattle.rules.specs.Claim.{In, Forced, Safe}
use Rattle.rules.proofs.Answers.{condition_at}
use Rattle.rules.proofs.Accepted.{Accepted}
use Rattle.rules.proofs.Follows.{put_same, put_other, put_all, Held, Placed, giver, Rests, Follows, reckoned_as}
use Rattle.rules.proofs.Follows.{authority_there, ended_member, there_ended, follows_amended, follows_unreckoned}
use Rattle.rules.proofs.Follows.{follows_ended, follows_trains, follows_beside}
use Rattle.rules.proofs.KeepsSafe.{quiet_same, small_same, safe_less, safe_quieter}

pub lpa_kind : (k : Kind) → is_lpa k ≡ true → k ≡ Lpa
lpa_kind Lpa e = refl
lpa_kind Toa e = absurd (false≢true e)
lpa_kind Twa e = absurd (false≢true e)

pub toa_kind : (k : Kind) → is_toa k ≡ true → k ≡ Toa
toa_kind Lpa e = absurd (false≢true e)
toa_kind Toa e = refl
toa_kind Twa e = absurd (false≢true e)

pub twa_kind : (k : Kind) → is_twa k ≡ true → k ≡ Twa
twa_kind Lpa e = absurd (false≢true e)
twa_kind Toa e = absurd (false≢true e)
twa_kind Twa e = refl

-- what an accepted call keeps
pub record Keeps (b : Board) (r : Reckoning.Reckoning) (c : Option Call) : Type 0 where
  pub follows : Follows (effect b c) (reckon b.gates r c)
  pub safe : Safe b.gates (reckon b.gates r c)

module _ (b : Board) (r : Reckoning.Reckoning) (F : Follows b r) where
  -- ---- what is known of the authority that a call names, and of one that is reckoned in force

  pub here : (n : AuthorityNo) → live b n ≡ true → Held r.requests (r.authority n.0) (authority b n)
  here n l =
      let w = authority_there b n l in
      subst (λ (k : ℕ). Held r.requests (r.authority k) (authority b n)) w.1 (F.held (authority b n) w.0)

  pub there : (n : AuthorityNo) → live b n ≡ true → Taken authority_no b.authorities n.0
  there n l = (authority b n, (authority_there b n l).0, (authority_there b n l).1)

  pub is_live : (n : AuthorityNo) → not_live b n ≡ false → live b n ≡ true
  unfolding not_live
  is_live n h = not-false (live b n) h

  pub held_there : (n : ℕ) → Forced r.authority n
      → (a : Authority) × Member a b.authorities × (authority_no a ≡ n) × Held r.requests (r.authority n) a
  held_there n f =
      let (a, m, e) = F.there n f in
      (a, m, e, subst (λ (k : ℕ). Held r.requests (r.authority k) a) e (F.held a m))

  -- a pending authority isn't reckoned in force
  pub pending : (n : AuthorityNo) → live b n ≡ true → is_in_force (authority b n) ≡ false → Forced r.authority n.0 → ⊥
  pending n l e f = true≢false (sym f ∙ (here n l).force ∙ e)

-- whose agreement a TWA, a TOA and an LPA rest on, and one with which none was recorded
pub twa_agreement : (x : Reckoned) → x.kind ≡ Twa → agreement x ≡ x.agreed
twa_agreement x e = rw e

pub toa_agreement : (x : Reckoned) → x.kind ≡ Toa → agreement x ≡ x.joined
toa_agreement x e = rw e

pub lpa_agreement : (x : Reckoned) → x.kind ≡ Lpa → agreement x ≡ 0
lpa_agreement x e = rw e

agreement_none : (x : Reckoned) → x.agreed ≡ 0 → x.joined ≡ 0 → agreement x ≡ 0
agreement_none x e f = rw (e, f) (pick (is_twa x.kind) (is_toa x.kind))
  where
    pick : (t u : Bool) → ◌≡◌ {A = ℕ} (cond t 0 (cond u 0 0)) 0
    pick true u = refl
    pick false true = refl
    pick false false = refl

-- an authority that stays as it is, but for what is given
pub held_anew : {requests : ℕ} (x y : Reckoned) (a c : Authority) → Held requests x a
    → authority_no c ≡ authority_no a → c.kind ≡ a.kind → c.limits ≡ a.limits
    → y.kind ≡ x.kind → y.first ≡ x.first → y.last ≡ x.last
    → y.is_in_force ≡ is_in_force c → (is_in_force c ≡ true → y.has_workers_on ≡ has_workers_on c)
    → agreement y ≡ c.agreed.0
    → Held requests y c
held_anew x y a c h n k l ky fy ly f v g = record {
  positive = omega (arith, h.positive);
  allotted = omega (arith, h.allotted);
  kind = ky ∙ h.kind ∙ sym k;
  into = λ p e. let i = h.into p (sym (ap (has p) l) ∙ e) in omega arith;
  from = λ p i. ap (has p) l ∙ h.from p (omega arith);
  first = omega (arith, h.first);
  last = omega (arith, h.last);
  force = f;
  site = v;
  agreement = g;
}

pub held_sited : {requests : ℕ} (x : Reckoned) (on : Bool) (a : Authority) → Held requests x a
    → Held requests (as_sited on x) (with_site on a)
held_sited x on a h =
    held_anew x (as_sited on x) a (with_site on a) h refl refl refl refl refl refl h.force (λ e. refl) h.agreement

module _ (b : Board) (r : Reckoning.Reckoning) (F : Follows b r) (S : Safe b.gates r) (s : Seven) where
  -- ---- REQUEST

  pub keeps_request : (kind : Kind) (low high officer : ℕ) → Accepted b s (Some (Request kind low high officer))
      → Keeps b r (Some (Request kind low high officer))
  unfolding effect reckon
  keeps_request kind low high officer ok = record {
    follows =
        record {
          requests = ap suc F.requests;
          portions = F.portions;
          held =
              λ a m. ⊎_elim (old_held a) (λ e. is_new a (Memᴰ.eq_of_singleton e)) (Memᴰ.append_cases b.authorities m);
          rests =
              λ a m z. ⊎_elim (λ k. old_rests a k z)
              (λ e. absurd (z (ap (λ (o : Authority). o.agreed.0) (Memᴰ.eq_of_singleton e))))
              (Memᴰ.append_cases b.authorities m);
          since =
              put_all (λ (m : ℕ) (y : Reckoned). y.is_in_force ≡ true → y.since ≤ r.grants) n x r.authority
              (λ f. absurd (unused f))
              (λ m ne f. F.since m f);
          there = λ m f. let (a, k, e) = F.there m (was_forced m f) in (a, Memᴰ.append_left (fresh ∷ []) k, e);
          placed = F.placed;
          runs = F.runs;
          blocks = F.blocks;
          gates = F.gates;
          blocked = F.blocked;
          unallotted =
              put_all (λ (m : ℕ) (y : Reckoned). n < m → (y.agreed ≡ 0) × (y.joined ≡ 0)) n x r.authority
              (λ l. absurd (omega arith))
              (λ m ne l. F.unallotted m (omega arith));
        };
    safe = safe_quieter b.gates r S n n x (λ f. absurd (unused f));
  }
    where
      n : ℕ
      n = suc r.requests

      x : Reckoned
      x = as_requested kind low high (r.authority n)

      fresh : Authority
      fresh = requested (next_no b) kind (run low high) officer

      unused : Forced r.authority n → ⊥
      unused f =
          let (a, m, e) = F.there n f in
          omega (arith, (F.held a m).allotted, e)

      was_forced : (m : ℕ) → Forced (put n x r.authority) m → Forced r.authority m
      was_forced =
          put_all (λ (m : ℕ) (y : Reckoned). y.is_in_force ≡ true → Forced r.authority m) n x r.authority (λ f. f)
          (λ m ne f. f)

      new_held : Held n x fresh
      new_held = record {
        positive = omega arith;
        allotted = omega (arith, F.requests);
        kind = refl;
        into = λ p e. in_run low high p e;
        from = λ p i. run_in low high p i.0 i.1 (omega (arith, ok.ranges, F.portions));
        first = ok.ranges.0;
        last = omega (arith, ok.ranges, F.portions);
        force = ⊎_elim (λ f. absurd (unused f)) (λ e. e) (truth (r.authority n).is_in_force);
        site = λ e. absurd (false≢true e);
        agreement = agreement_none x (F.unallotted n (omega arith)).0 (F.unallotted n (omega arith)).1;
      }

      is_new : (a : Authority) → a ≡ fresh → Held n (put n x r.authority (authority_no a)) a
      is_new a e =
          let at : put n x r.authority (suc b.last.0) ≡ x =
          ap (put n x r.authority) (ap suc F.requests) ∙ put_same n x r.authority in
          subst (λ (o : Authority). Held n (put n x r.authority (authority_no o)) o) (sym e)
          (subst (λ (y : Reckoned). Held n y fresh) (sym at) new_held)

      old_held : (a : Authority) → Member a b.authorities → Held n (put n x r.authority (authority_no a)) a
      old_held a m =
          let h = F.held a m in
          subst (λ (y : Reckoned). Held n y a)
          (sym (put_other n x r.authority (authority_no a) (λ e. omega (arith, h.allotted))))
          (record {
            positive = h.positive;
            allotted = omega (arith, h.allotted);
            kind = h.kind;
            into = h.into;
            from = h.from;
            first = h.first;
            last = h.last;
            force = h.force;
            site = h.site;
            agreement = h.agreement;
          })

      old_rests : (a : Authority) → Member a b.authorities → Rests n (put n x r.authority) a.kind a.agreed.0
      old_rests a m z =
          let t = F.rests a m z in (
            ap (λ (y : Reckoned). y.kind) (put_other n x r.authority a.agreed.0 (λ e. omega (arith, t.1))) ∙ t.0,
            omega (arith, t.1),
          )

  -- ---- WITHDRAW, HAND OVER, TERM, BOOK OUT and BOOK IN: nothing is reckoned

  pub keeps_withdraw : (n : AuthorityNo) (officer : ℕ) → Accepted b s (Some (Withdraw n officer))
      → Keeps b r (Some (Withdraw n officer))
  unfolding effect reckon own condition_at
  keeps_withdraw n officer ok = record {
    follows =
        record {
          requests = F.requests;
          portions = F.portions;
          held = λ a m. F.held a (ended_member n b.authorities a m).0;
          rests = λ a m. F.rests a (ended_member n b.authorities a m).0;
          since = F.since;
          there =
              λ m f. there_ended n b.authorities m
              (λ e. pending b r F n (is_live b r F n (ok.ok 5)) (ok.ok 6) (subst (Forced r.authority) e f))
              (F.there m f);
          placed = F.placed;
          runs = F.runs;
          blocks = F.blocks;
          gates = F.gates;
          blocked = F.blocked;
          unallotted = F.unallotted;
        };
    safe = S;
  }

  pub keeps_hand_over : (n : AuthorityNo) (out into : ℕ) → Keeps b r (Some (HandOver n out into))
  unfolding effect reckon
  keeps_hand_over n out into = record {
    follows =
        follows_unreckoned b r F n (with_officer into) (λ a. refl) (λ a. refl) (λ a. refl)
        (λ a x h. held_anew x x a (with_officer into a) h refl refl refl refl refl refl h.force h.site h.agreement);
    safe = S;
  }

  pub keeps_term : (n : AuthorityNo) (day time minutes : ℕ) → Keeps b r (Some (Term n day time minutes))
  unfolding effect reckon
  keeps_term n day time minutes = record {
    follows =
        follows_unreckoned b r F n (with_term (minute_of day time) minutes) (λ a. refl) (λ a. refl) (λ a. refl)
        (λ a x h. held_anew x x a
        (with_term (minute_of day time) minutes a) h refl refl refl refl refl refl h.force h.site h.agreement);
    safe = S;
  }

  pub keeps_book_out : (g : GateNo) (paper : PaperNo) → Keeps b r (Some (BookOut g paper))
  unfolding effect reckon
  keeps_book_out g paper =
      record { follows = follows_beside b r F b.day b.time (set b.bookings g.0 (booked_out paper)); safe = S }

  pub keeps_book_in : (g : GateNo) (paper : PaperNo) (certified : Bool) (new : PaperNo)
      → Keeps b r (Some (BookIn g paper certified new))
  unfolding effect reckon
  keeps_book_in g paper certified new = record {
    follows = follows_beside b r F b.day b.time (set b.bookings g.0 (booked_in paper certified new));
    safe = S;
  }

  -- ---- AGREE and JOIN

  -- `taker`, pending, records the agreement of the officer of `by`, which is of the kind that can give it, and is
  -- reckoned as x: as it was, but for the agreement
  module _ (by taker : AuthorityNo) (x : Reckoned) (live-by : live b by ≡ true) (live-taker : live b taker ≡ true)
      (waits : is_in_force (authority b taker) ≡ false)
      (gives : (authority b by).kind ≡ giver (authority b taker).kind) where
    abbrev y : Reckoned
    y = r.authority taker.0

    -- an authority with the taker's number has its kind
    taker-kind : (a : Authority) → y.kind ≡ a.kind → a.kind ≡ (authority b taker).kind
    taker-kind a k = sym k ∙ (here b r F taker live-taker).kind

    pub follows_recorded : x.kind ≡ y.kind → x.first ≡ y.first → x.last ≡ y.last → x.is_in_force ≡ y.is_in_force
        → x.has_workers_on ≡ y.has_workers_on
        → agreement x ≡ by.0
        → Follows (with_authorities (amended taker (with_agreed by) b.authorities) b)
        (reckoned_as r r.requests r.grants taker.0 x)
    follows_recorded ke fe le fo wo ag =
        follows_amended b r F taker (with_agreed by) x r.grants (λ a. refl) ke
        (λ a h.
        held_anew y x a (with_agreed by a) h refl refl refl ke fe le (fo ∙ h.force) (λ e. wo ∙ h.site e) ag)
        (λ a m e z. (
          (here b r F by live-by).kind ∙ gives
              ∙ ap giver (sym (taker-kind a (ap (λ (i : ℕ). (r.authority i).kind) (sym e) ∙ (F.held a m).kind))),
          subst (λ (k : ℕ). k ≤ r.requests) (authority_there b by live-by).1 (here b r F by live-by).allotted,
        ))
        (there b r F taker live-taker) (omega arith)
        (λ f. absurd (pending b r F taker live-taker waits (sym fo ∙ f)))

    pub safe_recorded : x.is_in_force ≡ y.is_in_force → Safe b.gates (reckoned_as r r.requests r.grants taker.0 x)
    safe_recorded fo =
        safe_quieter b.gates r S r.requests taker.0 x
        (λ f. absurd (pending b r F taker live-taker waits (sym fo ∙ f)))

  pub keeps_agree : (toa twa : AuthorityNo) (officer : ℕ) → Accepted b s (Some (Agree toa twa officer))
      → Keeps b r (Some (Agree toa twa officer))
  unfolding effect reckon own condition_at not_to_agree
  keeps_agree toa twa officer ok =
      let x : Reckoned = as_agreed toa.0 (r.authority twa.0) in
      let l1 : live b toa ≡ true = is_live b r F toa (search (told, ok.ok 5)) in
      let l2 : live b twa ≡ true = is_live b r F twa (search (told, ok.ok 5)) in
      let waits : is_in_force (authority b twa) ≡ false = search (told, ok.ok 6) in
      let k1 : (authority b toa).kind ≡ Toa = toa_kind (authority b toa).kind (search (told, ok.ok 6)) in
      let k2 : (authority b twa).kind ≡ Twa = twa_kind (authority b twa).kind (search (told, ok.ok 6)) in
      let gives : (authority b toa).kind ≡ giver (authority b twa).kind = k1 ∙ ap giver (sym k2) in
      record {
        follows =
            follows_recorded toa twa x l1 l2 waits gives refl refl refl refl refl
            (twa_agreement x ((here b r F twa l2).kind ∙ k2));
        safe = safe_recorded toa twa x l1 l2 waits gives refl;
      }

  pub keeps_join : (twa toa : AuthorityNo) (officer distance : ℕ) → Accepted b s (Some (Join twa toa officer distance))
      → Keeps b r (Some (Join twa toa officer distance))
  unfolding effect reckon own condition_at not_to_join
  keeps_join twa toa officer distance ok =
      let x : Reckoned = as_joined twa.0 (r.authority toa.0) in
      let l1 : live b twa ≡ true = is_live b r F twa (search (told, ok.ok 5)) in
      let l2 : live b toa ≡ true = is_live b r F toa (search (told, ok.ok 5)) in
      let waits : is_in_force (authority b toa) ≡ false = search (told, ok.ok 6) in
      let k1 : (authority b twa).kind ≡ Twa = twa_kind (authority b twa).kind (search (told, ok.ok 6)) in
      let k2 : (authority b toa).kind ≡ Toa = toa_kind (authority b toa).kind (search (told, ok.ok 6)) in
      let gives : (authority b twa).kind ≡ giver (authority b toa).kind = k1 ∙ ap giver (sym k2) in
      record {
        follows =
            follows_recorded twa toa x l1 l2 waits gives refl refl refl refl refl
            (toa_agreement x ((here b r F toa l2).kind ∙ k2));
        safe = safe_recorded twa toa x l1 l2 waits gives refl;
      }

  -- ---- CLEAR and FULFIL

  pub keeps_clear : (n : AuthorityNo) (officer : ℕ) → Accepted b s (Some (Clear n officer))
      → Keeps b r (Some (Clear n officer))
  unfolding effect reckon own condition_at
  keeps_clear n officer ok = record {
    follows =
        follows_amended b r F n (with_site false) (as_sited false (r.authority n.0)) r.grants (λ a. refl) refl
        (held_sited (r.authority n.0) false) (λ a m e. F.rests a m) (there b r F n (is_live b r F n (ok.ok 5)))
        (omega arith) (F.since n.0);
    safe =
        safe_quieter b.gates r S r.requests n.0 (as_sited false (r.authority n.0))
        (λ f. record {
          force = f;
          kind = refl;
          first = refl;
          last = refl;
          since = refl;
          agreed = refl;
          joined = refl;
          site = λ e. absurd (false≢true e);
        });
  }

  pub keeps_fulfil : (n : AuthorityNo) (officer assurances : ℕ) → Keeps b r (Some (Fulfil n officer assurances))
  unfolding effect reckon
  keeps_fulfil n officer assurances = record {
    follows =
        follows_trains (with_authorities (ended n b.authorities) b)
        (Reckoning.with_reckoned (put n.0 (as_ended (r.authority n.0)) r.authority) r) (follows_ended b r F n)
        (freed n b.trains) r.train
        (change_each (λ (t : Train). Placed (r.train (train_no t)) t) (is_with n)
        (with_authority (authority_of 0)) b.trains (λ t m e. F.placed t m)
        (λ t m e. let h = F.placed t m in
        record { on_board = h.on_board; head = h.head; rear = h.rear; under = λ z. absurd (z refl) }))
        (λ t on. taken_change train_no (is_with n) (with_authority (authority_of 0)) (λ t. refl) b.trains t
        (F.runs t on));
    safe = safe_quieter b.gates r S r.requests n.0 (as_ended (r.authority n.0)) (λ f. absurd (false≢true f));
  }

  -- ---- BLOCK and UNBLOCK

  pub keeps_block : (g : GateNo) → Accepted b s (Some (Block g)) → Keeps b r (Some (Block g))
  unfolding effect reckon
  keeps_block g ok = record {
    follows =
        record {
          requests = F.requests;
          portions = F.portions;
          held = F.held;
          rests = F.rests;
          since = F.since;
          there = F.there;
          placed = F.placed;
          runs = F.runs;
          blocks =
              λ h e. ⊎_elim (λ (q : h ≡ g.0). ap (put g.0 true r.blocked) q ∙ put_same g.0 true r.blocked)
              (λ k. more h (F.blocks h k))
              (in_insert g.0 b.blocks h e);
          gates = F.gates;
          blocked =
              put_all (λ (h : ℕ) (y : Bool). y ≡ true
              → (h < 64) × (has h (insert g.0 b.blocks) ≡ true)) g.0 true r.blocked
              (λ e. let l : g.0 < 64 = omega (arith, ok.ranges, F.gates) in
              (l, insert_below g.0 b.blocks g.0 l ∙ rw (eq-eqb g.0 g.0 refl)))
              (λ h ne e. let k = F.blocked h e in
              (k.0, insert_below g.0 b.blocks h k.0 ∙ or_right (eqb h g.0) (has h b.blocks) k.1));
          unallotted = F.unallotted;
        };
    safe =
        safe_less b.gates (Reckoning.with_blocked (put g.0 true r.blocked) r) r
        (λ m f. quiet_same (r.authority m) f) (λ t on. small_same (r.train t) on) more S;
  }
    where
      more : (h : ℕ) → r.blocked h ≡ true → put g.0 true r.blocked h ≡ true
      more = put_all (λ (h : ℕ) (y : Bool). r.blocked h ≡ true → y ≡ true) g.0 true r.blocked (λ e. refl) (λ h ne e. e)

  pub keeps_unblock : (g : GateNo) → Accepted b s (Some (Unblock g)) → Keeps b r (Some (Unblock g))
  unfolding effect reckon own condition_at still_needed in_force_needs needs
  keeps_unblock g ok = record {
    follows =
        record {
          requests = F.requests;
          portions = F.portions;
          held = F.held;
          rests = F.rests;
          since = F.since;
          there = F.there;
          placed = F.placed;
          runs = F.runs;
          blocks = λ h e. let k = in_remove g.0 b.blocks h e in put_other g.0 false r.blocked h k.0 ∙ F.blocks h k.1;
          gates = F.gates;
          blocked =
              put_all (λ (h : ℕ) (y : Bool). y ≡ true
              → (h < 64) × (has h (remove g.0 b.blocks) ≡ true)) g.0 false r.blocked
              (λ e. absurd (false≢true e))
              (λ h ne e. let k = F.blocked h e in (k.0, remove_below g.0 b.blocks h k.0 ∙ rw (ne_eqb h g.0 ne) k.1));
          unallotted = F.unallotted;
        };
    safe =
        record {
          apart = S.apart;
          piloted = S.piloted;
          untouched = S.untouched;
          protected =
              λ n h f l i o. put_other g.0 false r.blocked h (λ e. unneeded n h e f i o) ∙ S.protected n h f l i o;
        };
  }
    where
      gate : Gate
      gate = gate_at b.gates g

      -- 16: no authority in force needs the gate
      unneeded : (n h : ℕ) → h ≡ g.0 → Forced r.authority n → In (r.authority n) (gate_at b.gates (gate_of h)).to
          → (In (r.authority n) (gate_at b.gates (gate_of h)).from → ⊥) → ⊥
      unneeded n h same f i o =
          let (a, m, e, k) = held_there b r F n f in
          let none : in_force_needs gate a ≡ false = any_no (in_force_needs gate) b.authorities (ok.ok 16) a m in
          let force : is_in_force a ≡ true = sym k.force ∙ f in
          let to : has gate.to a.limits ≡ true =
          k.from gate.to (subst (λ (j : ℕ). In (r.authority n) (gate_at b.gates (gate_of j)).to) same i) in
          let need : (has gate.to a.limits && not (has gate.from a.limits)) ≡ false = search (shown, none) in
          let from : not (has gate.from a.limits) ≡ false = search (shown, need) in
          o (subst (λ (j : ℕ). In (r.authority n) (gate_at b.gates (gate_of j)).from) (sym same)
          (k.into gate.from (search (told, from))))
