-- What is due for the gaps between worksites (02, order 9): when a list is refused, what is due by cases, the lines,
-- and that the gaps and the worksites fill the stretch. Assumes nothing.
use mathlib.Core.Path.{◌≡◌, refl, sym, ap, ◌∙◌}
use mathlib.Core.Logic.{⊎_elim}
use mathlib.Core.Bool.{Bool, true, false, cond, ◌&&◌, false≢true}
use mathlib.Core.List.Memᴰ
use mathlib.Core.List.{List, [], ◌∷◌, ◌++◌, append_assoc}
use Prim.Native.Nat.{ℕ, zero, suc, ◌+◌, ◌-◌, ◌*◌, ◌≤◌, ◌<◌}
use native.Mathlib.Omega.{arith}
use borrow.Author.Tests.{lt-ltb, le-ltb, le-leb, lt-leb, leb-true, ltb-false, ne_eqb, eqb-true}
use lib.Dec.{eqb, leb, ltb}
use lib.ListN.{length, take, drop, get_or, length-append}
use lib.Seq.{take_at, drop_at, drop-drop}
use Rattle.std.specs.Prelude.{sum}
use Rattle.std.specs.List.{All}
use Rattle.std.proofs.lemmas.Bool.{not-false, and_from, or_cases}
use Rattle.std.proofs.lemmas.List.Elements.{All-nil, All-cons, All-head, All-tail}
use Rattle.std.proofs.lemmas.List.Sums.{sum_by-cons}
use Rattle.lists.proofs.Tests.{and_l, and_r}
use Rattle.columns.specs.Line.{all_fit, fit_of}
use Rattle.columns.specs.Reading.{row_of}
use Rattle.columns.proofs.Writing.{fits_below, line-length, total}
use Rattle.columns.proofs.Rows.{at_most, read_line}
use Rattle.sets.specs.Sets.{between}
use Rattle.rules.specs.Refusals.{Refusal}
use Rattle.rules.specs.Sheet.{page_of}
use Rattle.rules.specs.Worksites.{is_lpa_no, is_twa_no, is_stated, are_worksites, is_list, distances, gaps, due}
use Rattle.rules.specs.Worksites.{due_in_lpa, due_in_twa, are_too_far, worksites_refusals, worksites_answer}
use Rattle.rules.specs.Worksites.{gap_widths, gap_line, gap_lines, WorksitesPost}
use Rattle.rules.proofs.Answers.{ascends, Lowest, lowest_is, NoneHolds, none_holds, is_zero, Refused, refused_by}
use Rattle.rules.proofs.Answers.{is_refused}

-- ---- the answer

-- THEOREM: the conditions are listed in ascending order, so the first that holds is the lowest
pub worksites_ascending : (kind stated : ℕ) (from to : List ℕ) (room : ℕ)
    → ascends 27 0 (worksites_refusals kind stated from to room) ≡ true
unfolding ascends worksites_refusals
worksites_ascending kind stated from to room = refl

module _ (kind stated : ℕ) (from to : List ℕ) (room : ℕ) where
  abbrev answer : ℕ
  answer = worksites_answer kind stated from to room

  abbrev refusals : List Refusal
  refusals = worksites_refusals kind stated from to room

  lowest_one : Lowest refusals answer
  unfolding worksites_answer
  lowest_one = lowest_is 27 0 refusals (worksites_ascending kind stated from to room)

  -- THEOREM: the answer is 0 exactly where no condition holds
  pub worksites_none : (answer ≡ 0 → NoneHolds refusals) × (NoneHolds refusals → answer ≡ 0)
  worksites_none = (none_holds lowest_one, is_zero lowest_one)

  -- THEOREM: it is n exactly where condition n holds and none lower does
  pub worksites_refused : (n : ℕ) → 0 < n → (answer ≡ n → Refused n refusals) × (Refused n refusals → answer ≡ n)
  worksites_refused n p = ((λ e. refused_by lowest_one e p), is_refused lowest_one)

  -- what an accepted list is: there is room, and it is a list for the kind, with no gap too far
  pub accepted_list : answer ≡ 0
      → (527 ≤ room) × ((is_stated kind stated && is_list from to) ≡ true) × (are_too_far kind from to ≡ false)
  unfolding worksites_refusals
  accepted_list e =
      let none = worksites_none.0 e in (
        ltb-false room 527 (none _ (Memᴰ.head refl)),
        not-false _ (none _ (Memᴰ.tail (Memᴰ.head refl))),
        none _ (Memᴰ.tail (Memᴰ.tail (Memᴰ.head refl))),
      )

-- ---- what is due, by cases

-- THEOREM: of an LPA "under 500" it is what is stated, from 500 to 1000 midway (3), "above 1000" each end (4)
pub due_of_lpa : (stated gap : ℕ)
    → (gap < 500 → due 1 stated gap ≡ stated)
    × (500 ≤ gap → gap ≤ 1000 → due 1 stated gap ≡ 3)
    × (1000 < gap → due 1 stated gap ≡ 4)
unfolding due due_in_lpa
due_of_lpa stated gap = (
  λ h. rw (lt-ltb gap 500 h),
  λ h k. rw (le-ltb gap 500 h, le-leb gap 1000 k),
  λ h. rw (le-ltb gap 500 (omega arith), lt-leb gap 1000 h),
)

-- THEOREM: of a TWA "under 1000" one worksite (1), from 1000 on several (5)
pub due_of_twa : (stated gap : ℕ) → (gap < 1000 → due 3 stated gap ≡ 1) × (1000 ≤ gap → due 3 stated gap ≡ 5)
unfolding due due_in_twa
due_of_twa stated gap = (λ h. rw (lt-ltb gap 1000 h), λ h. rw (le-ltb gap 1000 h))

-- what is due is one digit, or what is stated
due_small : (kind stated gap : ℕ) → stated < 65536 → due kind stated gap < 65536
unfolding due due_in_lpa due_in_twa
due_small kind stated gap h = go (is_lpa_no kind) (ltb gap 500) (leb gap 1000) (ltb gap 1000)
  where
    go : (lpa near midway one : Bool) → cond lpa (cond near stated (cond midway 3 4)) (cond one 1 5) < 65536
    go true true midway one = h
    go true false true one = omega arith
    go true false false one = omega arith
    go false near midway true = omega arith
    go false near midway false = omega arith

-- ---- a line

module _ (kind stated gap : ℕ) (s : stated < 65536) (g : gap ≤ 999999) where
  abbrev numbers : List ℕ
  numbers = gap ∷ due kind stated gap ∷ []

  pub gap_fits : all_fit gap_widths numbers ≡ true
  unfolding fit_of
  gap_fits =
      and_from _ _ (fits_below 8 gap (omega arith) (omega arith))
      (and_from _ _
      (fits_below 8 (due kind stated gap) (omega arith) (omega (arith, due_small kind stated gap s))) refl)

  -- THEOREM: a line has 17 bytes
  pub gap_17 : length (gap_line kind stated gap) ≡ 17
  unfolding gap_line total
  gap_17 = line-length gap_widths numbers gap_fits

  -- THEOREM: it reads back as the gap and what is due
  pub gap_read : row_of 99999999 gap_widths (gap_line kind stated gap) ≡ record { numbers = numbers; whole = true }
  unfolding gap_line at_most
  gap_read =
      read_line 99999999 gap_widths numbers gap_fits
      (and_from _ _ (le-leb gap 99999999 (omega arith))
      (and_from _ _ (le-leb (due kind stated gap) 99999999 (omega (arith, due_small kind stated gap s))) refl))

-- ---- worksites in their order

-- the first of them, and those after it
pub record FirstSite (end f t : ℕ) (from to : List ℕ) : Type 0 where
  pub starts : end ≤ f
  pub ends : f ≤ t
  pub most : t ≤ 999999
  pub rest : are_worksites t from to ≡ true

first_site : (end f t : ℕ) (from to : List ℕ) → are_worksites end (f ∷ from) (t ∷ to) ≡ true
    → FirstSite end f t from to
unfolding are_worksites
first_site end f t from to h =
    let before = and_l (leb end f && leb f t && leb t 999999) (are_worksites t from to) h in
    let ordered = and_l (leb end f && leb f t) (leb t 999999) before in
    record {
      starts = leb-true end f (and_l (leb end f) (leb f t) ordered);
      ends = leb-true f t (and_r (leb end f) (leb f t) ordered);
      most = leb-true t 999999 (and_r (leb end f && leb f t) (leb t 999999) before);
      rest = and_r (leb end f && leb f t && leb t 999999) (are_worksites t from to) h;
    }

-- there are as many froms as tos
pub sites_paired : (end : ℕ) (from to : List ℕ) → are_worksites end from to ≡ true → length from ≡ length to
unfolding are_worksites
sites_paired end [] [] h = refl
sites_paired end [] (t ∷ to) h = absurd (false≢true h)
sites_paired end (f ∷ from) [] h = absurd (false≢true h)
sites_paired end (f ∷ from) (t ∷ to) h = ap suc (sites_paired t from to (first_site end f t from to h).rest)

-- the gap before each of them, the first after `end`, is no longer than the metres go
gaps_after : (end : ℕ) (from to : List ℕ) → are_worksites end from to ≡ true
    → All (λ gap. gap ≤ 999999) (distances (end ∷ to) from)
unfolding are_worksites distances
gaps_after end [] to h = All-nil (λ gap. gap ≤ 999999)
gaps_after end (f ∷ from) [] h = absurd (false≢true h)
gaps_after end (f ∷ from) (t ∷ to) h =
    let s = first_site end f t from to h in
    All-cons (λ gap. gap ≤ 999999) (f - end) (distances (t ∷ to) from) (omega (arith, s.ends, s.most))
    (gaps_after t from to s.rest)

pub gaps_small : (end : ℕ) (from to : List ℕ) → are_worksites end from to ≡ true
    → All (λ gap. gap ≤ 999999) (gaps from to)
unfolding are_worksites distances
gaps_small end [] [] h = All-nil (λ gap. gap ≤ 999999)
gaps_small end [] (t ∷ to) h = absurd (false≢true h)
gaps_small end (f ∷ from) [] h = absurd (false≢true h)
gaps_small end (f ∷ from) (t ∷ to) h = gaps_after t from to (first_site end f t from to h).rest

-- ---- the gaps and the worksites fill the stretch

-- there is one line less than worksites
gaps_count : (end : ℕ) (from to : List ℕ) → length from ≡ length to → length (distances (end ∷ to) from) ≡ length from
unfolding distances
gaps_count end [] to h = refl
gaps_count end (f ∷ from) [] h = absurd (omega arith)
gaps_count end (f ∷ from) (t ∷ to) h = ap suc (gaps_count t from to (omega arith))

-- a list has 1 to 32 worksites, in their order
module _ (from to : List ℕ) (h : is_list from to ≡ true) where
  pub list_within : (1 ≤ length from) × (length from ≤ 32)
  unfolding is_list
  list_within =
      let count = and_l (leb 1 (length from) && leb (length from) 32) (are_worksites 0 from to) h in (
        leb-true 1 (length from) (and_l (leb 1 (length from)) (leb (length from) 32) count),
        leb-true (length from) 32 (and_r (leb 1 (length from)) (leb (length from) 32) count),
      )

  pub list_ordered : are_worksites 0 from to ≡ true
  unfolding is_list
  list_ordered = and_r (between 1 32 (length from)) (are_worksites 0 from to) h

-- THEOREM: there is one gap, and so one line, less than worksites
pub one_less : (from to : List ℕ) → is_list from to ≡ true → length (gaps from to) + 1 ≡ length from
unfolding distances
one_less [] to h = absurd (omega (arith, list_within [] to h))
one_less (f ∷ from) to h = go to (sites_paired 0 (f ∷ from) to (list_ordered (f ∷ from) to h))
  where
    go : (to : List ℕ) → length (f ∷ from) ≡ length to → length (gaps (f ∷ from) to) + 1 ≡ length (f ∷ from)
    go [] e = absurd (omega arith)
    go (t ∷ to) e = omega (arith, gaps_count t from to (omega arith))

-- the end of the last worksite, `end` where there is none
unfoldable pub last_end : ℕ → List ℕ → ℕ
last_end end [] = end
last_end end (t ∷ to) = last_end t to

filled : (end : ℕ) (from to : List ℕ) → are_worksites end from to ≡ true
    → sum (distances (end ∷ to) from) + sum (distances from to) + end ≡ last_end end to
unfolding are_worksites distances last_end
filled end [] [] h = omega arith
filled end [] (t ∷ to) h = absurd (false≢true h)
filled end (f ∷ from) [] h = absurd (false≢true h)
filled end (f ∷ from) (t ∷ to) h =
    let s = first_site end f t from to h in
    let before = sum_by-cons (λ x. x) (f - end) (distances (t ∷ to) from) in
    let here = sum_by-cons (λ x. x) (t - f) (distances from to) in
    omega (arith, s.starts, s.ends, filled t from to s.rest, before, here)

-- THEOREM: the gaps and the lengths of the worksites add up to the way from the first's beginning to the last's end
pub stretch_filled : (f t : ℕ) (from to : List ℕ) → is_list (f ∷ from) (t ∷ to) ≡ true
    → sum (gaps (f ∷ from) (t ∷ to)) + sum (distances (f ∷ from) (t ∷ to)) ≡ last_end t to - f
unfolding distances
stretch_filled f t from to h =
    let s = first_site 0 f t from to (list_ordered (f ∷ from) (t ∷ to) h) in
    omega (arith, s.ends, filled t from to s.rest, sum_by-cons (λ x. x) (t - f) (distances from to))

-- ---- the lines

-- each line has 17 bytes
pub gap_lines-length : (kind stated : ℕ) (gs : List ℕ) → stated < 65536 → All (λ gap. gap ≤ 999999) gs
    → length (gap_lines kind stated gs) ≡ 17 * length gs
unfolding gap_lines page_of
gap_lines-length kind stated [] s a = refl
gap_lines-length kind stated (gap ∷ gs) s a =
    let small = All-head (λ gap. gap ≤ 999999) gap gs a in
    let rest = gap_lines-length kind stated gs s (All-tail (λ gap. gap ≤ 999999) gap gs a) in
    length-append (gap_line kind stated gap) (gap_lines kind stated gs)
    ∙ omega (arith, gap_17 kind stated gap s small, rest)

-- THEOREM: the line of gap i stands behind those before it, whatever stands behind the lines
pub gap_at : (kind stated : ℕ) (gs rest : List ℕ) (i : ℕ) → stated < 65536 → All (λ gap. gap ≤ 999999) gs
    → i < length gs
    → take 17 (drop (17 * i) (gap_lines kind stated gs ++ rest)) ≡ gap_line kind stated (get_or gs i 0)
unfolding gap_lines page_of
gap_at kind stated [] rest i s a l = absurd (omega arith)
gap_at kind stated (gap ∷ gs) rest zero s a l =
    let line = gap_line kind stated gap in
    let others = gap_lines kind stated gs in
    rw (append_assoc line others rest)
    (take_at line (others ++ rest) 17 (gap_17 kind stated gap s (All-head (λ gap. gap ≤ 999999) gap gs a)))
gap_at kind stated (gap ∷ gs) rest (suc i) s a l =
    let line = gap_line kind stated gap in
    let others = gap_lines kind stated gs in
    let next : 17 * suc i ≡ 17 + 17 * i = omega arith in
    rw (
      append_assoc line others rest,
      next,
      ← drop-drop (17 * i) 17 (line ++ (others ++ rest)),
      drop_at line (others ++ rest) 17 (gap_17 kind stated gap s (All-head (λ gap. gap ≤ 999999) gap gs a)),
    )
    (gap_at kind stated gs rest i s (All-tail (λ gap. gap ≤ 999999) gap gs a) (omega arith))

-- the officer states 2 at most
stated_most : (kind stated : ℕ) → is_stated kind stated ≡ true → stated ≤ 2
unfolding is_stated
stated_most kind stated h =
    ⊎_elim
    (λ e. leb-true stated 2 (and_r (leb 1 stated) (leb stated 2) (and_r (is_lpa_no kind) (between 1 2 stated) e)))
    (λ e. omega (arith, eqb-true stated 0 (and_r (is_twa_no kind) (eqb stated 0) e)))
    (or_cases (is_lpa_no kind && between 1 2 stated) (is_twa_no kind && eqb stated 0) h)

-- of a list for its kind: there are 31 gaps at most, none is longer than the metres go, and the statement is small
module _ (kind stated : ℕ) (from to : List ℕ) (sent : (is_stated kind stated && is_list from to) ≡ true) where
  list : is_list from to ≡ true
  list = and_r (is_stated kind stated) (is_list from to) sent

  pub sent_gaps : (length (gaps from to) ≤ 31) × All (λ gap. gap ≤ 999999) (gaps from to)
  sent_gaps = (
    omega (arith, one_less from to list, (list_within from to list).1),
    gaps_small 0 from to (list_ordered from to list),
  )

  pub sent_small : stated < 65536
  sent_small = omega (arith, stated_most kind stated (and_l (is_stated kind stated) (is_list from to) sent))

module _ {kind stated : ℕ} {from to buffer : List ℕ} {given lines : ℕ} {after : List ℕ}
    (p : WorksitesPost kind stated from to buffer given lines after) where
  -- THEOREM: a refusal writes nothing, and gives no line
  pub refused_stays : (given ≡ 0 → ⊥) → (lines ≡ 0) × (after ≡ buffer)
  refused_stays h = (p.counted ∙ rw (ne_eqb given 0 h), p.bytes ∙ rw (ne_eqb given 0 h))

  -- THEOREM: where the answer is 0 the lines of the gaps stand at the front, 17 bytes each, and later bytes stay
  pub accepted_lines : given ≡ 0
      → (lines ≡ length (gaps from to))
      × (17 * lines ≤ length buffer)
      × (after ≡ gap_lines kind stated (gaps from to) ++ drop (17 * lines) buffer)
      × (take (17 * lines) after ≡ gap_lines kind stated (gaps from to))
  accepted_lines e =
      let text : List ℕ = gap_lines kind stated (gaps from to) in
      let a = accepted_list kind stated from to (length buffer) (sym p.answered ∙ e) in
      let g = sent_gaps kind stated from to a.1 in
      let count : lines ≡ length (gaps from to) = p.counted ∙ rw e in
      let size : length text ≡ 17 * lines =
      gap_lines-length kind stated (gaps from to) (sent_small kind stated from to a.1) g.1
      ∙ ap (λ n. 17 * n) (sym count) in
      let bytes : after ≡ text ++ drop (17 * lines) buffer = p.bytes ∙ rw (e, size) in (
        count,
        omega (arith, count, g.0, a.0),
        bytes,
        rw bytes (take_at text (drop (17 * lines) buffer) (17 * lines) size),
      )
