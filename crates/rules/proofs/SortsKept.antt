-- On every board that opening and calls return, exclusive authorities in force share no portion, nor do TWAs in force,
-- and what a live authority has recorded is, if live, of the other sort (02, order 8): each call keeps it by its own
-- conditions, without demand 3. Assumes nothing.
use Rattle.std.specs.Prelude.{Option, Some, None}
use Prim.Native.Nat.{ℕ, suc, ◌≤◌, ◌<◌, ◌^◌}
use native.Mathlib.Nat.{le_refl}
use native.Mathlib.Omega.{arith}
use mathlib.Core.Path.{◌≡◌, refl, sym, ap, subst, subst₂, ◌∙◌}
use mathlib.Core.Logic.{◌⊎◌, inl, inr, ⊎_elim}
use mathlib.Core.Bool.{Bool, true, false, cond, not, ◌||◌, and-false}
use mathlib.Core.List.Memᴰ
use mathlib.Core.List.{List, [], ◌∷◌, ◌++◌}
use lib.Dec.{eqb}
use borrow.Author.Tests.{eqb-true, eq-eqb, ne_eqb}
use Rattle.std.proofs.lemmas.Bool.{not-false}
use Rattle.lists.proofs.Tests.{truth, clash, told}
use Rattle.lists.proofs.Search.{Member, any_no, keeps, change_each}
use Rattle.sets.specs.Sets.{run, shares}
use Rattle.sets.proofs.Laws.{run_lt, shares_comm}
use Rattle.rules.specs.declared.AuthorityNo.{AuthorityNo}
use Rattle.rules.specs.declared.kind.Kind.{Kind}
use Rattle.rules.specs.declared.Authority.{Authority}
use Rattle.rules.specs.declared.Gate.{Gate}
use Rattle.rules.specs.declared.Seven.{Seven}
use Rattle.rules.specs.declared.Call.{Call}
use Rattle.rules.specs.declared.Call.TheVariants.{Request, Withdraw, Agree, Block, Unblock, Grant, Clear, Reoccupy}
use Rattle.rules.specs.declared.Call.TheVariants.{HandOver, Fulfil, Continue, Move, Passed, Term, Join, BookOut, BookIn}
use Rattle.rules.specs.Board.{Board, opened, exclusive, is_toa, is_twa, is_in_force, authority_no, is_authority}
use Rattle.rules.specs.Board.{is_not_authority, live, authority, with_authorities, with_last, with_stamp, amended}
use Rattle.rules.specs.Board.{ended}
use Rattle.rules.specs.Call.{authority_of, minute_of, named}
use Rattle.rules.specs.Plan.{open_board}
use Rattle.rules.specs.Refusals.{not_live, not_to_agree, not_to_join, rests_on, clashes, overlaps, own, answer}
use Rattle.rules.specs.Effects.{requested, amended_to, granted, with_site, with_officer, with_agreed, with_term}
use Rattle.rules.specs.Effects.{next_no, effect}
use Rattle.rules.specs.Stored.{SortsApart}
use Rattle.rules.specs.Step.{Once, after, Made, final}
use Rattle.rules.proofs.Answers.{condition_at}
use Rattle.rules.proofs.Accepted.{Accepted, accepted}
use Rattle.rules.proofs.Opening.{fresh}
use Rattle.rules.proofs.Follows.{authority_there, ended_member}
use Rattle.rules.proofs.Once.{once_after, once_open}
use Rattle.rules.proofs.Recording.{toa_kind, twa_kind}
use Rattle.rules.proofs.Stays.{the_named}

-- the two share no portion if both are in force and of one sort
abbrev Two : Authority → Authority → Type 0
Two x y =
    (authority_no x ≡ authority_no y → ⊥) → is_in_force x ≡ true → is_in_force y ≡ true
    → exclusive x.kind ≡ exclusive y.kind
    → shares x.limits y.limits ≡ false

-- y is of the other sort if x has recorded it
abbrev Other : Authority → Authority → Type 0
Other x y = authority_no y ≡ x.agreed.0 → exclusive x.kind ≡ exclusive y.kind → ⊥

-- an authority without what neither speaks of: officer, site and term
abbrev bare : Authority → Authority
bare a = amended_to a 0 (is_in_force a) false a.agreed 0 0

-- ---- no authority is new

-- some authority of the list is a, but for officer, site and term
abbrev IsOf : List Authority → Authority → Type 0
IsOf xs a = (x : Authority) × Member x xs × (bare a ≡ bare x)

sorts_of : (b c : Board) → SortsApart b → b.last.0 ≤ c.last.0
    → ((a : Authority) → Member a c.authorities → IsOf b.authorities a)
    → SortsApart c
sorts_of b c S l from = record {
  apart =
      λ x y mx my.
      let (u, mu, eu) = from x mx in
      let (v, mv, ev) = from y my in
      subst₂ Two (sym eu) (sym ev) (S.apart u v mu mv);
  other =
      λ x y mx my.
      let (u, mu, eu) = from x mx in
      let (v, mv, ev) = from y my in
      subst₂ Other (sym eu) (sym ev) (S.other u v mu mv);
  recorded =
      λ x m.
      let (u, mu, e) = from x m in
      subst (λ (a : Authority). a.agreed.0 ≤ c.last.0) (sym e) (omega (arith, S.recorded u mu));
  small =
      λ x m.
      let (u, mu, e) = from x m in
      subst (λ (a : Authority). a.limits < 2 ^ 64) (sym e) (S.small u mu);
}

-- the same authorities, and the same last number
sorts_still : (b c : Board) → c.last ≡ b.last → c.authorities ≡ b.authorities → SortsApart b → SortsApart c
sorts_still b c l e S =
    sorts_of b c S (omega (arith, ap (λ (n : AuthorityNo). n.0) l)) (λ x m. (x, subst (Member x) e m, refl))

module _ (b : Board) (S : SortsApart b) where
  -- one ended
  sorts_ended : (n : AuthorityNo) → SortsApart (with_authorities (ended n b.authorities) b)
  sorts_ended n =
      sorts_of b (with_authorities (ended n b.authorities) b) S (le_refl b.last.0)
      (λ x m. (x, (ended_member n b.authorities x m).0, refl))

  -- one with another officer, site or term
  sorts_beside : (n : AuthorityNo) (f : Authority → Authority) → ((a : Authority) → bare (f a) ≡ bare a)
      → SortsApart (with_authorities (amended n f b.authorities) b)
  sorts_beside n f same =
      sorts_of b (with_authorities (amended n f b.authorities) b) S (le_refl b.last.0)
      (change_each (IsOf b.authorities) (is_authority n) f b.authorities (λ x m e. (x, m, refl))
      (λ x m e. (x, m, same x)))

  -- ---- one authority is new, or anew

  -- a goes with those that are live, up to that last number
  record Fits (last : ℕ) (a : Authority) : Type 0 where
    apart : (y : Authority) → Member y b.authorities → Two a y
    other : (y : Authority) → Member y b.authorities → Other a y
    known : (x : Authority) → Member x b.authorities → Other x a
    itself : authority_no a ≡ a.agreed.0 → ⊥
    recorded : a.agreed.0 ≤ last
    small : a.limits < 2 ^ 64

  sorts_with : (n : AuthorityNo) (a : Authority) → b.last.0 ≤ n.0 → Fits n.0 a
      → SortsApart (with_last n (with_authorities (a ∷ b.authorities) b))
  sorts_with n a l F = record { apart = apart; other = other; recorded = recorded; small = small }
    where
      xs : List Authority
      xs = a ∷ b.authorities

      apart : (x y : Authority) → Member x xs → Member y xs → Two x y
      apart x y (Memᴰ.head p) (Memᴰ.head q) = λ z fx fy k. absurd (z (ap authority_no (p ∙ sym q)))
      apart x y (Memᴰ.head p) (Memᴰ.tail m) = rw p (F.apart y m)
      apart x y (Memᴰ.tail m) (Memᴰ.head q) =
          rw q (λ z fx fa k. shares_comm x.limits a.limits ∙ F.apart x m (λ e. z (sym e)) fa fx (sym k))
      apart x y (Memᴰ.tail m) (Memᴰ.tail k) = S.apart x y m k

      other : (x y : Authority) → Member x xs → Member y xs → Other x y
      other x y (Memᴰ.head p) (Memᴰ.head q) = rw (p, q) (λ e k. F.itself e)
      other x y (Memᴰ.head p) (Memᴰ.tail m) = rw p (F.other y m)
      other x y (Memᴰ.tail m) (Memᴰ.head q) = rw q (F.known x m)
      other x y (Memᴰ.tail m) (Memᴰ.tail k) = S.other x y m k

      recorded : (x : Authority) → Member x xs → x.agreed.0 ≤ n.0
      recorded x (Memᴰ.head p) = rw p F.recorded
      recorded x (Memᴰ.tail m) = omega (arith, S.recorded x m)

      small : (x : Authority) → Member x xs → x.limits < 2 ^ 64
      small x (Memᴰ.head p) = rw p F.small
      small x (Memᴰ.tail m) = S.small x m

  -- a changed in stage or in what it has recorded, which is of the other sort
  fits_as : (a : Authority) → Member a b.authorities → (force on : Bool) (by : AuthorityNo)
      → let c = amended_to a a.officer force on by a.start a.minutes in
      ((y : Authority) → Member y b.authorities → Two c y)
      → ((y : Authority) → Member y b.authorities → Other c y)
      → by.0 ≤ b.last.0
      → Fits b.last.0 c
  fits_as a m force on by apart other recorded = record {
    apart = apart;
    other = other;
    known = λ x mx. S.other x a mx m;
    itself = λ e. other a m e refl;
    recorded = recorded;
    small = S.small a m;
  }

  sorts_amended : (n : AuthorityNo) (f : Authority → Authority) (a : Authority)
      → ((x : Authority) → Member x b.authorities → is_authority n x ≡ true → a ≡ x)
      → Fits b.last.0 (f a) → SortsApart (with_authorities (amended n f b.authorities) b)
  sorts_amended n f a only F =
      sorts_of (with_authorities (f a ∷ b.authorities) b) (with_authorities (amended n f b.authorities) b)
      (sorts_with b.last (f a) (le_refl b.last.0) F) (le_refl b.last.0)
      (change_each (IsOf (f a ∷ b.authorities)) (is_authority n) f b.authorities
      (λ x m e. (x, Memᴰ.tail m, refl))
      (λ x m e. (f a, Memᴰ.head refl, ap (λ (y : Authority). bare (f y)) (sym (only x m e)))))

  -- GRANT, and CONTINUE as new: 13 says that it shares no portion with another of its sort
  sorts_granted : (n old : AuthorityNo) (a : Authority) → Member a b.authorities
      → ((x : Authority) → Member x b.authorities → is_authority n x ≡ true → a ≡ x)
      → ((y : Authority) → Member y b.authorities → authority_no y ≡ old.0 → ⊥)
      → ((y : Authority) → Member y b.authorities → clashes old a y ≡ false)
      → SortsApart (with_authorities (amended n granted b.authorities) b)
  unfolding clashes rests_on
  sorts_granted n old a m only not-old free =
      sorts_amended n granted a only (fits_as a m true true a.agreed apart (λ y. S.other a y m) (S.recorded a m))
    where
      apart : (y : Authority) → Member y b.authorities → Two (granted a) y
      apart y my z fa fy k =
          ⊎_elim
          (λ (s : shares a.limits y.limits ≡ true). clash
          (rw (
            fy,
            ne_eqb (authority_no y) (authority_no a) (λ e. z (sym e)),
            ne_eqb (authority_no y) old.0 (not-old y my),
            s,
            ne_eqb (authority_no y) a.agreed.0 (λ e. S.other a y m my e k),
            and-false (is_twa a.kind || is_toa a.kind),
          ))
          (free y my))
          (λ s. s) (truth (shares a.limits y.limits))

-- ---- any accepted call

-- a TOA and a TWA are of different sorts
toa_not_twa : (x y : Kind) → is_toa x ≡ true → is_twa y ≡ true → exclusive x ≡ exclusive y → ⊥
toa_not_twa x y t w e = clash (sym e ∙ ap exclusive (toa_kind x t)) (ap exclusive (twa_kind y w))

module _ (b : Board) (o : Once b) (S : SortsApart b) (s : Seven) where
  -- REQUEST: it is pending and has recorded none
  sorts_more : (a : Authority) → authority_no a ≡ suc b.last.0 → is_in_force a ≡ false → a.agreed.0 ≡ 0
      → a.limits < 2 ^ 64
      → SortsApart (with_last (next_no b) (with_authorities (b.authorities ++ (a ∷ [])) b))
  sorts_more a n waits none small =
      sorts_of (with_last (next_no b) (with_authorities (a ∷ b.authorities) b)) _
      (sorts_with b S (next_no b) a (omega arith) (record {
        apart = λ y m z fa. clash fa waits;
        other = λ y m e. absurd (omega (arith, o.allotted y m));
        known = λ x m e. absurd (omega (arith, S.recorded x m));
        itself = λ e. omega arith;
        recorded = omega arith;
        small = small;
      }))
      (le_refl (suc b.last.0))
      (λ x m. (x, place x (Memᴰ.append_cases b.authorities m), refl))
    where
      place : (x : Authority) → Member x b.authorities ⊎ Member x (a ∷ []) → Member x (a ∷ b.authorities)
      place x (inl k) = Memᴰ.tail k
      place x (inr k) = Memᴰ.head (Memᴰ.eq_of_singleton k)

  -- AGREE and JOIN: the two are of different sorts
  sorts_agreed : (n by : AuthorityNo) → live b n ≡ true → live b by ≡ true → is_in_force (authority b n) ≡ false
      → (exclusive (authority b n).kind ≡ exclusive (authority b by).kind → ⊥)
      → SortsApart (with_authorities (amended n (with_agreed by) b.authorities) b)
  sorts_agreed n by l k waits differ =
      let (m, e) = authority_there b n l in
      let (mb, eb) = authority_there b by k in
      sorts_amended b S n (with_agreed by) (authority b n) (λ x mx. the_named b o n x l mx)
      (fits_as b S (authority b n) m _ _ by (λ y my z f. clash f waits)
      (λ y my z q. differ (q ∙ ap (λ (x : Authority). exclusive x.kind)
      (sym (the_named b o by y k my (eq-eqb (authority_no y) by.0 z)))))
      (omega (arith, eb, o.allotted (authority b by) mb)))

  sorts_effect : (c : Option Call) → Accepted b s c → SortsApart (effect b c)
  unfolding effect own condition_at not_live not_to_agree not_to_join overlaps
  sorts_effect None k = S
  sorts_effect (Some (Request kind low high officer)) k =
      sorts_more (requested (next_no b) kind (run low high) officer) refl refl refl (run_lt low high)
  sorts_effect (Some (Withdraw n officer)) k = sorts_ended b S n
  sorts_effect (Some (Agree toa twa officer)) k =
      sorts_agreed twa toa (search (told, k.ok 5)) (search (told, k.ok 5)) (search (told, k.ok 6))
      (λ e. toa_not_twa (authority b toa).kind (authority b twa).kind (search (told, k.ok 6)) (search (told, k.ok 6))
      (sym e))
  sorts_effect (Some (Block g)) k = sorts_still b _ refl refl S
  sorts_effect (Some (Unblock g)) k = sorts_still b _ refl refl S
  sorts_effect (Some (Grant n officer)) k =
      let l : live b n ≡ true = not-false (live b n) (k.ok 5) in
      sorts_granted b S n (authority_of 0) (authority b n) (authority_there b n l).0 (λ x m. the_named b o n x l m)
      (λ y m e. omega (arith, o.allotted y m))
      (any_no (clashes (authority_of 0) (authority b n)) b.authorities (k.ok 13))
  sorts_effect (Some (Clear n officer)) k = sorts_beside b S n (with_site false) (λ a. refl)
  sorts_effect (Some (Reoccupy n officer)) k = sorts_beside b S n (with_site true) (λ a. refl)
  sorts_effect (Some (HandOver n out into)) k = sorts_beside b S n (with_officer into) (λ a. refl)
  sorts_effect (Some (Fulfil n officer assurances)) k = sorts_still _ _ refl refl (sorts_ended b S n)
  sorts_effect (Some (Continue old new officer_old officer_new)) k =
      let b' : Board = with_authorities (ended old b.authorities) b in
      let l : live b new ≡ true = search (told, k.ok 5) in
      let (m, e) = authority_there b new l in
      let waits : is_in_force (authority b new) ≡ false = search (told, k.ok 6) in
      let force : is_in_force (authority b old) ≡ true = search (told, k.ok 6) in
      let other : authority_no (authority b new) ≡ old.0 → ⊥ =
      λ z. clash force (ap (λ (n : ℕ). is_in_force (authority b (authority_of n))) (sym z ∙ e) ∙ waits) in
      sorts_still _ _ refl refl
      (sorts_granted b' (sorts_ended b S old) new old (authority b new)
      (keeps (is_not_authority old) b.authorities (authority b new)
      (ap not (ne_eqb (authority_no (authority b new)) old.0 other)) m)
      (λ x k. the_named b o new x l (ended_member old b.authorities x k).0)
      (λ y k. (ended_member old b.authorities y k).1)
      (λ y i. any_no (clashes old (authority b new)) b.authorities (k.ok 13) y (ended_member old b.authorities y i).0))
  sorts_effect (Some (Move t g n officer)) k = sorts_still b _ refl refl S
  sorts_effect (Some (Passed t)) k = sorts_still b _ refl refl S
  sorts_effect (Some (Term n day time minutes)) k =
      sorts_beside b S n (with_term (minute_of day time) minutes) (λ a. refl)
  sorts_effect (Some (Join twa toa officer distance)) k =
      sorts_agreed toa twa (search (told, k.ok 5)) (search (told, k.ok 5)) (search (told, k.ok 6))
      (toa_not_twa (authority b toa).kind (authority b twa).kind (search (told, k.ok 6)) (search (told, k.ok 6)))
  sorts_effect (Some (BookOut g paper)) k = sorts_still b _ refl refl S
  sorts_effect (Some (BookIn g paper certified new)) k = sorts_still b _ refl refl S

sorts_step : (b : Board) (s : Seven) (room : ℕ) → Once b → SortsApart b → (z : Bool) → eqb (answer b s room) 0 ≡ z
    → SortsApart (cond z (with_stamp s.day s.time (effect b (named s))) b)
sorts_step b s room o S true e =
    sorts_still (effect b (named s)) _ refl refl
    (sorts_effect b o S s (named s) (accepted b s room (eqb-true (answer b s room) 0 e)))
sorts_step b s room o S false e = S

-- THEOREM: every call keeps it, accepted or refused, and so does every list of calls; a freshly opened board has it
pub sorts_after : (b : Board) (s : Seven) (room : ℕ) → Once b → SortsApart b → SortsApart (after b s room)
unfolding after
sorts_after b s room o S = sorts_step b s room o S (eqb (answer b s room) 0) refl

pub sorts_final : (b : Board) (ms : List Made) → Once b → SortsApart b → SortsApart (final b ms)
unfolding final
sorts_final b [] o S = S
sorts_final b (m ∷ ms) o S =
    sorts_final (after b m.seven m.room) ms (once_after b m.seven m.room o) (sorts_after b m.seven m.room o S)

pub sorts_opened : (portions : ℕ) (gates : List Gate) → SortsApart (opened portions gates)
unfolding opened
sorts_opened portions gates = record {
  apart = λ x y m. elim m [ ];
  other = λ x y m. elim m [ ];
  recorded = λ x m. elim m [ ];
  small = λ x m. elim m [ ];
}

-- THEOREM, order 8: on a board opened from any plan text, after any list of calls, two in force of one sort share no
-- portion
pub sorts_list : (text : List ℕ) (ms : List Made) → SortsApart (final (open_board text) ms)
sorts_list text ms =
    let o = fresh text in
    sorts_final (open_board text) ms (once_open text)
    (subst SortsApart (sym o.is_opened) (sorts_opened o.portions o.gates))
