-- Demands 1 and 2 of the rules: "the lowest number whose condition holds is given", accepted exactly where no condition
-- holds, and what a refused call leaves; and the greatest answer. Assumes nothing.
use Rattle.std.specs.Prelude.{Option, Some, None}
use Rattle.std.proofs.lemmas.Bool.{cond_both}
use Prim.Native.Nat.{ℕ, ◌≤◌, ◌<◌}
use native.Mathlib.Omega.{arith}
use mathlib.Core.Path.{◌≡◌, refl, sym, ap, ◌∙◌}
use mathlib.Core.Logic.{⊎_elim}
use mathlib.Core.Bool.{Bool, true, false, cond, ◌&&◌, false≢true}
use mathlib.Core.List.Memᴰ
use mathlib.Core.List.{List, [], ◌∷◌, ◌++◌}
use lib.ListN.{length, drop}
use lib.Dec.{eqb, leb, ltb}
use borrow.Author.Tests.{ltb-true, leb-true, ne_eqb, lt-ltb, le-ltb}
use Rattle.lists.proofs.Tests.{and_l, and_r}
use Rattle.lists.proofs.Search.{Member}
use Rattle.rules.specs.declared.Seven.{Seven}
use Rattle.rules.specs.declared.Call.{Call}
use Rattle.rules.specs.declared.Call.TheVariants.{Request, Withdraw, Agree, Block, Unblock, Grant, Clear, Reoccupy}
use Rattle.rules.specs.declared.Call.TheVariants.{HandOver, Fulfil, Continue, Move, Passed, Term, Join, BookOut, BookIn}
use Rattle.rules.specs.declared.refusal.Refusal as Words
use Rattle.rules.specs.declared.refusal.Refusal.TheVariants as Word
use Rattle.rules.specs.Answer.{refusal_no}
use Rattle.rules.specs.Board.{Board}
use Rattle.rules.specs.Call.{named}
use Rattle.rules.specs.Refusals.{Refusal, lowest, own, conditions, answer}
use Rattle.rules.specs.Journal.{journal_line, line_after}
use Rattle.rules.specs.Step.{after, allotted}

-- ---- every list of conditions is ascending

-- the greatest refusal of a call
abbrev pub greatest : ℕ
greatest = 25

-- the numbers ascend, all above n, none above the greatest, `most`
unfoldable pub ascends : ℕ → ℕ → List Refusal → Bool
ascends most n [] = leb n most
ascends most n (r ∷ rs) = ltb n r.number && ascends most r.number rs

own-ascends : (b : Board) (s : Seven) (c : Option Call) → ascends greatest 4 (own b s c) ≡ true
unfolding ascends own
own-ascends b s None = refl
own-ascends b s (Some (Request kind low high officer)) = refl
own-ascends b s (Some (Withdraw n officer)) = refl
own-ascends b s (Some (Agree toa twa officer)) = refl
own-ascends b s (Some (Block g)) = refl
own-ascends b s (Some (Unblock g)) = refl
own-ascends b s (Some (Grant n officer)) = refl
own-ascends b s (Some (Clear n officer)) = refl
own-ascends b s (Some (Reoccupy n officer)) = refl
own-ascends b s (Some (HandOver n out into)) = refl
own-ascends b s (Some (Fulfil n officer assurances)) = refl
own-ascends b s (Some (Continue old new officer_old officer_new)) = refl
own-ascends b s (Some (Move t g n officer)) = refl
own-ascends b s (Some (Passed t)) = refl
own-ascends b s (Some (Term n day time minutes)) = refl
own-ascends b s (Some (Join twa toa officer distance)) = refl
own-ascends b s (Some (BookOut g paper)) = refl
own-ascends b s (Some (BookIn g paper certified new)) = refl

-- THEOREM: the conditions of every call are listed in ascending order, from 1 on, so the first that holds is the lowest
pub ascending : (b : Board) (s : Seven) (room : ℕ) → ascends greatest 0 (conditions b s room) ≡ true
unfolding ascends conditions
ascending b s room = own-ascends b s (named s)

-- ---- what `lowest` gives of an ascending list

-- the condition with the number n is in the list and holds
pub record Holds (n : ℕ) (rs : List Refusal) : Type 0 where
  pub refusal : Refusal
  pub member : Member refusal rs
  pub number : refusal.number ≡ n
  pub holds : refusal.holds ≡ true

-- no condition of the list holds; none with a number below n holds
abbrev pub NoneHolds : List Refusal → Type 0
NoneHolds rs = (r : Refusal) → Member r rs → r.holds ≡ false

abbrev pub NoneBelow : ℕ → List Refusal → Type 0
NoneBelow n rs = (r : Refusal) → Member r rs → r.number < n → r.holds ≡ false

-- 0 and none holds, or the lowest that holds
pub data Lowest (rs : List Refusal) : ℕ → Type 0 where
  none : NoneHolds rs → Lowest rs 0
  some : {n : ℕ} → 0 < n → Holds n rs → NoneBelow n rs → Lowest rs n

above : (most k : ℕ) (rs : List Refusal) → ascends most k rs ≡ true → (r : Refusal) → Member r rs → k < r.number
unfolding ascends
above most k (q ∷ rs) h r m =
    let here : k < q.number = ltb-true k q.number (and_l (ltb k q.number) (ascends most q.number rs) h) in
    let rest = and_r (ltb k q.number) (ascends most q.number rs) h in
    ⊎_elim (λ e. omega (arith, ap (λ (x : Refusal). x.number) e))
    (λ t. omega (arith, above most q.number rs rest r t)) (Memᴰ.cases_cons m)
above most k [] h r m = elim m [ ]

lowest_step : (k : ℕ) (q : Refusal) (rs : List Refusal) → k < q.number
    → ((r : Refusal) → Member r rs → q.number < r.number)
    → Lowest rs (lowest rs) → (t : Bool) → q.holds ≡ t → Lowest (q ∷ rs) (cond t q.number (lowest rs))
lowest_step k q rs h later ih true e =
    some {n = q.number} (omega arith) (record { refusal = q; member = Memᴰ.head refl; number = refl; holds = e })
    (λ r m l. ⊎_elim (λ i. absurd (omega (arith, ap (λ (x : Refusal). x.number) i)))
    (λ t. absurd (omega (arith, later r t))) (Memᴰ.cases_cons m))
lowest_step k q rs h later ih false e = more ih
  where
    more : {n : ℕ} → Lowest rs n → Lowest (q ∷ rs) n
    more (none f) = none (λ r m. ⊎_elim (λ i. ap (λ (x : Refusal). x.holds) i ∙ e) (f r) (Memᴰ.cases_cons m))
    more (some p w f) =
        some p (record { refusal = w.refusal; member = Memᴰ.tail w.member; number = w.number; holds = w.holds })
        (λ r m l. ⊎_elim (λ i. ap (λ (x : Refusal). x.holds) i ∙ e) (λ t. f r t l) (Memᴰ.cases_cons m))

pub lowest_is : (most k : ℕ) (rs : List Refusal) → ascends most k rs ≡ true → Lowest rs (lowest rs)
unfolding ascends lowest
lowest_is most k [] h = none (λ r m. elim m [ ])
lowest_is most k (q ∷ rs) h =
    let rest = and_r (ltb k q.number) (ascends most q.number rs) h in
    lowest_step k q rs (ltb-true k q.number (and_l (ltb k q.number) (ascends most q.number rs) h))
    (above most q.number rs rest) (lowest_is most q.number rs rest) q.holds refl

-- THEOREM, demand 2 in one: the answer is 0 and no condition holds, or it is the number of the lowest condition that
-- holds
pub answer_lowest : (b : Board) (s : Seven) (room : ℕ) → Lowest (conditions b s room) (answer b s room)
unfolding answer
answer_lowest b s room = lowest_is greatest 0 (conditions b s room) (ascending b s room)

-- ---- the same, as the two equivalences

pub none_holds : {rs : List Refusal} {n : ℕ} → Lowest rs n → n ≡ 0 → NoneHolds rs
none_holds (none f) e = f
none_holds (some p w f) e = absurd (omega arith)

pub is_zero : {rs : List Refusal} {n : ℕ} → Lowest rs n → NoneHolds rs → n ≡ 0
is_zero (none f) h = refl
is_zero (some p w f) h = absurd (false≢true (sym (h w.refusal w.member) ∙ w.holds))

pub record Refused (n : ℕ) (rs : List Refusal) : Type 0 where
  pub holds : Holds n rs
  pub lower : NoneBelow n rs

pub refused_by : {rs : List Refusal} {m n : ℕ} → Lowest rs m → m ≡ n → 0 < n → Refused n rs
refused_by (none f) e p = absurd (omega arith)
refused_by {rs} (some q w f) e p = rw (← e) (record { holds = w; lower = f })

pub is_refused : {rs : List Refusal} {m n : ℕ} → Lowest rs m → Refused n rs → m ≡ n
is_refused (none f) r = absurd (false≢true (sym (f r.holds.refusal r.holds.member) ∙ r.holds.holds))
is_refused {m = m} {n = n} (some q w f) r =
    let not-less : m < n → ⊥ = λ l. false≢true (sym (r.lower w.refusal w.member (omega (arith, w.number))) ∙ w.holds) in
    let not_more : n < m → ⊥ =
    λ l. false≢true (sym (f r.holds.refusal r.holds.member (omega (arith, r.holds.number))) ∙ r.holds.holds) in
    omega arith

-- THEOREM: accepted if and only if every condition is false
pub accepted_none : (b : Board) (s : Seven) (room : ℕ) → answer b s room ≡ 0 → NoneHolds (conditions b s room)
accepted_none b s room e = none_holds (answer_lowest b s room) e

pub none_accepted : (b : Board) (s : Seven) (room : ℕ) → NoneHolds (conditions b s room) → answer b s room ≡ 0
none_accepted b s room h = is_zero (answer_lowest b s room) h

-- THEOREM: refused with n if and only if condition n holds and none lower does
pub refused_lowest : (b : Board) (s : Seven) (room n : ℕ) → answer b s room ≡ n → 0 < n
    → Refused n (conditions b s room)
refused_lowest b s room n e p = refused_by (answer_lowest b s room) e p

pub lowest_refused : (b : Board) (s : Seven) (room n : ℕ) → Refused n (conditions b s room) → answer b s room ≡ n
lowest_refused b s room n r = is_refused (answer_lowest b s room) r

-- ---- what a refused call leaves (demand 1)

-- THEOREM: a refused call returns the same board and allots no number
pub refused_same : (b : Board) (s : Seven) (room : ℕ) → (answer b s room ≡ 0 → ⊥) → after b s room ≡ b
unfolding after
refused_same b s room h = rw (ne_eqb (answer b s room) 0 h)

pub refused_none : (b : Board) (s : Seven) (room : ℕ) → (answer b s room ≡ 0 → ⊥) → allotted b s room ≡ 0
unfolding allotted
refused_none b s room h = rw (ne_eqb (answer b s room) 0 h)

-- THEOREM: a buffer under 55 bytes gives 1 and stays as it was; a longer one gets the line, and its later bytes stay
pub short_answer : (b : Board) (s : Seven) (room : ℕ) → room < 55 → answer b s room ≡ 1
unfolding answer conditions lowest
short_answer b s room h = rw (lt-ltb room 55 h)

pub short_line : (s : Seven) (a n : ℕ) (buffer : List ℕ) → length buffer < 55 → line_after s a n buffer ≡ buffer
unfolding line_after
short_line s a n buffer h = rw (lt-ltb (length buffer) 55 h)

pub long_line : (s : Seven) (a n : ℕ) (buffer : List ℕ) → 55 ≤ length buffer
    → line_after s a n buffer ≡ journal_line s a n ++ drop 55 buffer
unfolding line_after
long_line s a n buffer h = rw (le-ltb (length buffer) 55 h)

-- ---- one condition, by its number

-- the condition with the number n, false where the list has none
unfoldable pub condition_at : ℕ → List Refusal → Bool
condition_at n [] = false
condition_at n (r ∷ rs) = cond (eqb r.number n) r.holds (condition_at n rs)

at_step : (n : ℕ) (r : Refusal) (rs : List Refusal) → r.holds ≡ false → condition_at n rs ≡ false → (t : Bool)
    → cond t r.holds (condition_at n rs) ≡ false
at_step n r rs e ih true = e
at_step n r rs e ih false = ih

-- where none holds, it does not
pub at_none : (n : ℕ) (rs : List Refusal) → NoneHolds rs → condition_at n rs ≡ false
unfolding condition_at
at_none n [] h = refl
at_none n (r ∷ rs) h = at_step n r rs (h r (Memᴰ.head refl)) (at_none n rs (λ q m. h q (Memᴰ.tail m))) (eqb r.number n)

-- ---- the numbers of the refusals

-- no refusal has the number 0
pub positive : (refusal : Words.Refusal) → refusal_no refusal ≡ 0 → ⊥
positive Word.ShortLine e = omega arith
positive Word.NoSuchCall e = omega arith
positive Word.Field e = omega arith
positive Word.Clock e = omega arith
positive Word.NotLive e = omega arith
positive Word.Stage e = omega arith
positive Word.Officer e = omega arith
positive Word.AlreadySo e = omega arith
positive Word.Full e = omega arith
positive Word.NoFacility e = omega arith
positive Word.Unprotected e = omega arith
positive Word.Occupied e = omega arith
positive Word.Overlap e = omega arith
positive Word.Site e = omega arith
positive Word.Assurance e = omega arith
positive Word.StillNeeded e = omega arith
positive Word.NoTrain e = omega arith
positive Word.Blocked e = omega arith
positive Word.NotPiloted e = omega arith
positive Word.Plan e = omega arith
positive Word.Notice e = omega arith
positive Word.Term e = omega arith
positive Word.ShortPage e = omega arith
positive Word.Distance e = omega arith
positive Word.BlockOn e = omega arith
positive Word.Worksites e = omega arith
positive Word.TooFarApart e = omega arith

-- ---- no answer is above the greatest refusal

-- what the numbers are above is itself at most the greatest
below_greatest : (n : ℕ) (rs : List Refusal) → ascends greatest n rs ≡ true → n ≤ greatest
unfolding ascends
below_greatest n [] h = leb-true n greatest h
below_greatest n (r ∷ rs) h =
    let more = ltb-true n r.number (and_l (ltb n r.number) (ascends greatest r.number rs) h) in
    omega (arith, below_greatest r.number rs (and_r (ltb n r.number) (ascends greatest r.number rs) h))

lowest_most : (n : ℕ) (rs : List Refusal) → ascends greatest n rs ≡ true → lowest rs ≤ greatest
unfolding ascends lowest
lowest_most n [] h = omega arith
lowest_most n (r ∷ rs) h =
    let rest = and_r (ltb n r.number) (ascends greatest r.number rs) h in
    cond_both r.holds r.number (lowest rs) (λ n. n ≤ greatest) (λ e. below_greatest r.number rs rest)
    (λ e. lowest_most r.number rs rest)

pub answer_most : (b : Board) (s : Seven) (room : ℕ) → answer b s room ≤ greatest
unfolding answer
answer_most b s room = lowest_most 0 (conditions b s room) (ascending b s room)
