-- Demand 3, call by call: the calls that move trains (MOVE, PASSED), by what 14, 17 and 19 tell. Assumes nothing.
use Rattle.std.specs.Prelude.{Some}
use Prim.Native.Nat.{ℕ}
use native.Mathlib.Decide.{ℕ_discrete}
use mathlib.Core.Path.{◌≡◌, refl, sym, ap, subst, ◌∙◌}
use mathlib.Core.Logic.{inl, inr, ⊎_elim}
use mathlib.Core.Bool.{Bool, true, false, cond, not, ◌&&◌, false≢true}
use borrow.Author.Tests.{eqb-true, eqb-false}
use Rattle.lists.specs.Search.{any, first}
use Rattle.lists.specs.Order.{insert_by}
use Rattle.std.proofs.lemmas.Bool.{not-false}
use Rattle.lists.proofs.Tests.{clash, told, shown, and_no_r}
use Rattle.lists.proofs.Search.{Member, any_no, any_yes, first_found}
use Rattle.lists.proofs.Distinct.{Taken, taken_change}
use Rattle.lists.proofs.Order.{inserted_from, inserted_into}
use Rattle.sets.specs.Sets.{has}
use Rattle.rules.specs.declared.AuthorityNo.{AuthorityNo}
use Rattle.rules.specs.declared.TrainNo.{TrainNo}
use Rattle.rules.specs.declared.GateNo.{GateNo}
use Rattle.rules.specs.declared.kind.Kind.{Kind}
use Rattle.rules.specs.declared.kind.Kind.TheVariants.{Twa}
use Rattle.rules.specs.declared.Gate.{Gate}
use Rattle.rules.specs.declared.Authority.{Authority}
use Rattle.rules.specs.declared.Train.{Train}
use Rattle.rules.specs.declared.Seven.{Seven}
use Rattle.rules.specs.declared.Call.TheVariants.{Move, Passed}
use Rattle.rules.specs.Board.{Board, is_outside, gate_at, no_authority, exclusive, is_twa, is_in_force, has_workers_on}
use Rattle.rules.specs.Board.{authority_no, train_no, is_train, on_board, train, moved, gone}
use Rattle.rules.specs.Refusals.{is_e, is_w, any_e, any_w, the_w, pilot, worked_on, is_at, not_there, not_piloted, own}
use Rattle.rules.specs.Effects.{entered, with_head, with_rear_in, effect}
use Rattle.rules.specs.Reckoning as Reckoning
use Rattle.rules.specs.Reckoning.{Reckoned, Position, put, as_moved, as_passed, reckon}
use Rattle.rules.specs.Claim.{In, Forced, Agreed, Safe}
use Rattle.rules.proofs.Answers.{condition_at}
use Rattle.rules.proofs.Accepted.{Accepted}
use Rattle.rules.proofs.Follows.{put_same, put_other, put_all, Placed, AllPlaced, Follows, train_there, gone_member}
use Rattle.rules.proofs.Follows.{runs_gone, placed_moved, follows_trains}
use Rattle.rules.proofs.KeepsSafe.{Smaller, quiet_same, small_same, safe_less}
use Rattle.rules.proofs.Recording.{Keeps, twa_kind, held_there}

-- two numbers of which it can't be that they differ
stable : (i j : ℕ) → ((i ≡ j → ⊥) → ⊥) → i ≡ j
stable i j h = pick (ℕ_discrete i j)
  where
    pick : Dec (i ≡ j) → i ≡ j
    pick (yes e) = e
    pick (no e) = absurd (h e)

-- of two that have an agreement one is a TOA and one a TWA
not_both_exclusive : (x y : Reckoned) {n : ℕ} → Agreed x n y → exclusive x.kind ≡ true → exclusive y.kind ≡ true → ⊥
not_both_exclusive x y (l, inl w) xx xy = false≢true (subst (λ (k : Kind). exclusive k ≡ true) w.1 xy)
not_both_exclusive x y (l, inr w) xx xy = false≢true (subst (λ (k : Kind). exclusive k ≡ true) w.0 xx)

not_both_twa : (x y : Reckoned) {n : ℕ} → Agreed x n y → x.kind ≡ Twa → y.kind ≡ Twa → ⊥
not_both_twa x y (l, inl w) kx ky = false≢true (ap is_twa (sym w.0 ∙ kx))
not_both_twa x y (l, inr w) kx ky = false≢true (ap is_twa (sym w.1 ∙ ky))

module _ (b : Board) (r : Reckoning.Reckoning) (F : Follows b r) (S : Safe b.gates r) where
  -- ---- one authority in force at a portion: E is the only exclusive one, W the only TWA, by the claim itself

  only_exclusive : (m n p : ℕ) → Forced r.authority m → Forced r.authority n
      → exclusive (r.authority m).kind ≡ true → exclusive (r.authority n).kind ≡ true → In (r.authority m) p
      → In (r.authority n) p → m ≡ n
  only_exclusive m n p fm fn xm xn im jn =
      stable m n
      (λ ne.
      ⊎_elim (λ g. not_both_exclusive (r.authority m) (r.authority n) g xm xn)
      (λ g. not_both_exclusive (r.authority n) (r.authority m) g xn xm)
      (S.apart m n p ne fm fn im jn))

  only_twa : (m n p : ℕ) → Forced r.authority m → Forced r.authority n
      → (r.authority m).kind ≡ Twa → (r.authority n).kind ≡ Twa → In (r.authority m) p → In (r.authority n) p → m ≡ n
  only_twa m n p fm fn km kn im jn =
      stable m n
      (λ ne.
      ⊎_elim (λ g. not_both_twa (r.authority m) (r.authority n) g km kn)
      (λ g. not_both_twa (r.authority n) (r.authority m) g kn km)
      (S.apart m n p ne fm fn im jn))

  -- the exclusive authority in force whose limits hold p is the pilot
  pilot_is : (m p : ℕ) → Forced r.authority m → exclusive (r.authority m).kind ≡ true → In (r.authority m) p
      → authority_no (pilot b p) ≡ m
  unfolding pilot any_e is_e
  pilot_is m p f x i =
      let (a, k, e, h) = held_there b r F m f in
      let c1 : is_in_force a ≡ true = sym h.force ∙ f in
      let c2 : exclusive a.kind ≡ true = subst (λ (k : Kind). exclusive k ≡ true) h.kind x in
      let c3 : has p a.limits ≡ true = h.from p i in
      let passes : is_e p a ≡ true = search shown in
      let some : any (is_e p) b.authorities ≡ true = any_yes (is_e p) b.authorities a k passes in
      let w = first_found (is_e p) no_authority b.authorities some in
      ap (λ (z : Bool). authority_no
      (cond z (first (is_e p) no_authority b.authorities) (cond (any_w b p) (the_w b p) no_authority))) some
      ∙ only (first (is_e p) no_authority b.authorities) w.member w.passes
    where
      only : (o : Authority) → Member o b.authorities → is_e p o ≡ true → authority_no o ≡ m
      only o mo t =
          let h = F.held o mo in
          let c1 : is_in_force o ≡ true = search (told, t) in
          let c2 : exclusive o.kind ≡ true = search (told, t) in
          let c3 : has p o.limits ≡ true = search (told, t) in
          only_exclusive (authority_no o) m p (h.force ∙ c1) f
          (subst (λ (k : Kind). exclusive k ≡ true) (sym h.kind) c2) x (h.into p c3) i

  -- 14: no TWA in force with workers on holds p
  w_clear : (m p : ℕ) → worked_on b p ≡ false → Forced r.authority m → (r.authority m).kind ≡ Twa
      → (r.authority m).has_workers_on ≡ true
      → In (r.authority m) p → ⊥
  unfolding worked_on any_w the_w is_w
  w_clear m p c f k v i =
      let (a, ma, e, h) = held_there b r F m f in
      let c1 : is_in_force a ≡ true = sym h.force ∙ f in
      let c2 : is_twa a.kind ≡ true = ap is_twa (sym h.kind ∙ k) in
      let c3 : has p a.limits ≡ true = h.from p i in
      let passes : is_w p a ≡ true = search shown in
      let some : any (is_w p) b.authorities ≡ true = any_yes (is_w p) b.authorities a ma passes in
      let w = first_found (is_w p) no_authority b.authorities some in
      let clear : has_workers_on (first (is_w p) no_authority b.authorities) ≡ false =
      and_no_r (any (is_w p) b.authorities) (has_workers_on (first (is_w p) no_authority b.authorities)) c some in
      only (first (is_w p) no_authority b.authorities) w.member w.passes clear
    where
      only : (o : Authority) → Member o b.authorities → is_w p o ≡ true → has_workers_on o ≡ false → ⊥
      only o mo t off =
          let h = F.held o mo in
          let fo : is_in_force o ≡ true = search (told, t) in
          let c2 : is_twa o.kind ≡ true = search (told, t) in
          let c3 : has p o.limits ≡ true = search (told, t) in
          let same : authority_no o ≡ m =
          only_twa (authority_no o) m p (h.force ∙ fo) f (h.kind ∙ twa_kind o.kind c2) k (h.into p c3) i in
          clash v (ap (λ (j : ℕ). (r.authority j).has_workers_on) (sym same) ∙ h.site fo ∙ off)

  -- the train that a call names
  train_here : (t : TrainNo) → on_board b t ≡ true → Placed (r.train t.0) (train b t)
  train_here t l =
      let w = train_there b t l in
      subst (λ (k : ℕ). Placed (r.train k) (train b t)) w.1 (F.placed (train b t) w.0)

  train_taken : (t : TrainNo) → on_board b t ≡ true → Taken train_no b.trains t.0
  train_taken t l = (train b t, (train_there b t l).0, (train_there b t l).1)

  module _ (s : Seven) where
    -- ---- MOVE

    pub keeps_move : (t : TrainNo) (g : GateNo) (n : AuthorityNo) (officer : ℕ)
        → Accepted b s (Some (Move t g n officer)) → Keeps b r (Some (Move t g n officer))
    unfolding effect reckon own condition_at not_there on_board not_piloted
    keeps_move t g n officer ok = record {
      follows =
          follows_trains b r F (cond (is_outside gate.from) (insert_by train_no fresh b.trains) (moved t f b.trains))
          (put t.0 y r.train)
          (all_placed (is_outside gate.from) refl) (all_run (is_outside gate.from) refl);
      safe =
          record {
            apart = S.apart;
            piloted =
                put_all
                (λ (i : ℕ) (z : Position).
                (m : ℕ) → z.on_board ≡ true → Forced r.authority m → exclusive (r.authority m).kind ≡ true
                → In (r.authority m) z.head → z.under ≡ m)
                t.0 y r.train (λ m on f e i. pilots ∙ pilot_is m gate.to f e i)
                (λ i ne m on f e j. S.piloted i m on f e j);
            untouched =
                put_all
                (λ (i : ℕ) (z : Position).
                (m : ℕ) → z.on_board ≡ true → Forced r.authority m → (r.authority m).kind ≡ Twa
                → (r.authority m).has_workers_on ≡ true
                → (In (r.authority m) z.head → ⊥) × (In (r.authority m) z.rear → ⊥))
                t.0 y r.train
                (λ m on f k v.
                (λ i. w_clear m gate.to (ok.ok 14) f k v i, rear_clear m f k v (is_outside gate.from) refl))
                (λ i ne m on f k v. S.untouched i m on f k v);
            protected = S.protected;
          };
    }
      where
        gate : Gate
        gate = gate_at b.gates g

        y : Position
        y = as_moved gate n.0 (r.train t.0)

        fresh : Train
        fresh = entered t gate.to n

        f : Train → Train
        f = with_head gate.to n

        -- 19
        pilots : n.0 ≡ authority_no (pilot b gate.to)
        pilots = search (told, eqb-true, ok.ok 19)

        -- 17
        stays : (z : Bool) → is_outside gate.from ≡ z
            → cond z (on_board b t) (not (on_board b t && is_at gate.from (train b t))) ≡ false
        stays z e =
            sym (ap (λ (z : Bool). cond z (on_board b t) (not (on_board b t && is_at gate.from (train b t)))) e)
            ∙ ok.ok 17

        present : is_outside gate.from ≡ false → on_board b t ≡ true
        present e = let k = stays false e in search (told, k)

        others : is_outside gate.from ≡ true → (o : Train) → Member o b.trains → train_no o ≡ t.0 → ⊥
        others e o m = eqb-false (train_no o) t.0 (any_no (is_train t) b.trains (stays true e) o m)

        rear_is : (z : Bool) → is_outside gate.from ≡ z → y.rear ≡ cond z gate.to (r.train t.0).rear
        rear_is z e = ap (λ (k : Bool). cond k gate.to (r.train t.0).rear) e

        new_placed : is_outside gate.from ≡ true → Placed y fresh
        new_placed e = record { on_board = refl; head = refl; rear = rear_is true e; under = λ z. refl }

        all_placed : (z : Bool) → is_outside gate.from ≡ z
            → AllPlaced (put t.0 y r.train) (cond z (insert_by train_no fresh b.trains) (moved t f b.trains))
        all_placed true e o m =
            ⊎_elim
            (λ q.
            subst (λ (k : Train). Placed (put t.0 y r.train (train_no k)) k) (sym q)
            (subst (λ (u : Position). Placed u fresh) (sym (put_same t.0 y r.train)) (new_placed e)))
            (λ k. subst (λ (u : Position). Placed u o) (sym (put_other t.0 y r.train (train_no o) (others e o k)))
            (F.placed o k))
            (inserted_from train_no fresh b.trains o m)
        all_placed false e o m =
            placed_moved t f (λ o. refl) y r.train b.trains
            (λ o h. record {
              on_board = refl;
              head = refl;
              rear = rear_is false e ∙ h.rear;
              under = λ z. refl;
            }) F.placed o m

        all_run : (z : Bool) → is_outside gate.from ≡ z → (m : ℕ) → (put t.0 y r.train m).on_board ≡ true
            → Taken train_no (cond z (insert_by train_no fresh b.trains) (moved t f b.trains)) m
        all_run true e =
            put_all (λ (m : ℕ) (u : Position). u.on_board ≡ true
            → Taken train_no (insert_by train_no fresh b.trains) m) t.0 y r.train
            (λ on. (fresh, inserted_into train_no fresh b.trains fresh (inl refl), refl))
            (λ m ne on. let (o, k, q) = F.runs m on in (o, inserted_into train_no fresh b.trains o (inr k), q))
        all_run false e =
            put_all (λ (m : ℕ) (u : Position). u.on_board ≡ true
            → Taken train_no (moved t f b.trains) m) t.0 y r.train
            (λ on. taken_change train_no (is_train t) f (λ o. refl) b.trains t.0 (train_taken t (present e)))
            (λ m ne on. taken_change train_no (is_train t) f (λ o. refl) b.trains m (F.runs m on))

        rear_clear : (m : ℕ) → Forced r.authority m → (r.authority m).kind ≡ Twa → (r.authority m).has_workers_on ≡ true
            → (z : Bool) → is_outside gate.from ≡ z
            → In (r.authority m) y.rear → ⊥
        rear_clear m fm k v true e i =
            w_clear m gate.to (ok.ok 14) fm k v (subst (In (r.authority m)) (rear_is true e) i)
        rear_clear m fm k v false e i =
            (S.untouched t.0 m (train_here t (present e)).on_board fm k v).1
            (subst (In (r.authority m)) (rear_is false e) i)

    -- ---- PASSED

    pub keeps_passed : (t : TrainNo) → Accepted b s (Some (Passed t)) → Keeps b r (Some (Passed t))
    unfolding effect reckon own condition_at
    keeps_passed t ok = record {
      follows =
          follows_trains b r F
          (cond (is_outside (train b t).head) (gone t b.trains) (moved t with_rear_in b.trains))
          (put t.0 y r.train)
          (all_placed (is_outside (train b t).head) refl) (all_run (is_outside (train b t).head) refl);
      safe =
          safe_less b.gates (Reckoning.with_positions (put t.0 y r.train) r) r (λ m q. quiet_same (r.authority m) q)
          (put_all (λ (m : ℕ) (u : Position). u.on_board ≡ true → Smaller u (r.train m)) t.0 y r.train
          (λ on. record { on_board = q.on_board; head = refl; under = refl; rear = inr refl })
          (λ m ne on. small_same (r.train m) on))
          (λ g h. h) S;
    }
      where
        y : Position
        y = as_passed (r.train t.0)

        l : on_board b t ≡ true
        l = not-false (on_board b t) (ok.ok 17)

        q : Placed (r.train t.0) (train b t)
        q = train_here t l

        on_is : (z : Bool) → is_outside (train b t).head ≡ z → y.on_board ≡ cond z false (r.train t.0).on_board
        on_is z e = ap (λ (k : Bool). cond k false (r.train t.0).on_board) (ap is_outside q.head ∙ e)

        all_placed : (z : Bool) → is_outside (train b t).head ≡ z
            → AllPlaced (put t.0 y r.train) (cond z (gone t b.trains) (moved t with_rear_in b.trains))
        all_placed true e o m =
            let k = gone_member t b.trains o m in
            subst (λ (u : Position). Placed u o) (sym (put_other t.0 y r.train (train_no o) k.1)) (F.placed o k.0)
        all_placed false e o m =
            placed_moved t with_rear_in (λ o. refl) y r.train b.trains
            (λ o h. record {
              on_board = on_is false e ∙ h.on_board;
              head = h.head;
              rear = h.head;
              under = h.under;
            }) F.placed o m

        all_run : (z : Bool) → is_outside (train b t).head ≡ z → (m : ℕ) → (put t.0 y r.train m).on_board ≡ true
            → Taken train_no (cond z (gone t b.trains) (moved t with_rear_in b.trains)) m
        all_run true e =
            put_all (λ (m : ℕ) (u : Position). u.on_board ≡ true → Taken train_no (gone t b.trains) m) t.0 y r.train
            (λ on. clash on (on_is true e)) (λ m ne on. runs_gone t b.trains m ne (F.runs m on))
        all_run false e =
            put_all (λ (m : ℕ) (u : Position). u.on_board ≡ true
            → Taken train_no (moved t with_rear_in b.trains) m) t.0 y r.train
            (λ on. taken_change train_no (is_train t) with_rear_in (λ o. refl) b.trains t.0 (train_taken t l))
            (λ m ne on. taken_change train_no (is_train t) with_rear_in (λ o. refl) b.trains m (F.runs m on))
