-- Laws of writing, for every number and width: which numbers fit, how long a column and a line are, and when a line can
-- be written. Assumes nothing.
use mathlib.Core.Path.{◌≡◌, refl, sym, ap, ap₂, ◌∙◌}
use mathlib.Core.Logic.{inl, inr}
use mathlib.Core.Bool.{Bool, true, false≢true}
use mathlib.Core.List.{List, [], ◌∷◌, ◌++◌, append_assoc, append-nil}
use Prim.Native.Nat.{ℕ, zero, suc, ◌+◌, ◌-◌, ◌*◌, ◌/◌, ◌%◌, ◌^◌, ◌≤◌, ◌<◌}
use native.Mathlib.Omega.{arith}
use native.Mathlib.Nat.{pow-suc, pow-le-pow_right}
use native.Mathlib.Numerals.{add-one}
use borrow.Author.Tests.{leb-true, le-leb, ne_eqb}
use lib.Dec.{leb}
use lib.ListN.{length, take, drop, replicate, length-append, length-replicate, length-drop, replicate-append-replicate}
use lib.ListN.{drop_of_length-le}
use lib.Seq.{length-take-le, take_at}
use borrow.Rule.Slice.PartMut.{mid_of, put_mid, mid_len, Post-is}
use Rattle.lists.proofs.Tests.{lt_or_le, and_l, and_r}
use Rattle.columns.specs.Column.{digits, column, fits, ColumnFilled}
use Rattle.columns.specs.Line.{line, all_fit, writable, with_line, Written, fit_of, line_of}
use Rattle.columns.specs.Steps.{mark}
use Rattle.columns.proofs.Digits.{digits_one, digits_more, count_one, count_more}

-- ---- which numbers fit
-- a number has a digit
pub count_some : (n : ℕ) → 0 < length (digits n)
count_some n = elim (lt_or_le n 10) [ inl h ↦ omega (arith, count_one n h) | inr h ↦ omega (arith, count_more n h) ]

count_below : (w n : ℕ) → n < 10 ^ suc w → length (digits n) ≤ suc w
count_below zero n h = omega (arith, count_one n h)
count_below (suc w) n h =
    let tens : n < 10 ^ suc w * 10 = rw pow-suc at h in
    let tenth = count_below w (n / 10) (omega arith) in
    elim (lt_or_le n 10) [ inl l ↦ omega (arith, count_one n l) | inr l ↦ omega (arith, count_more n l) ]

below_count : (w n : ℕ) → length (digits n) ≤ w → n < 10 ^ w
below_count zero n h = absurd (omega (arith, count_some n))
below_count (suc w) n h =
    rw pow-suc (elim (lt_or_le n 10) [
      | inl l ↦ omega (arith, pow-le-pow_right {n = 10} (omega arith) {i = 0} {j = w} (omega arith))
      | inr l ↦ omega (arith, below_count w (n / 10) (omega (arith, count_more n l)))
    ])

-- a number below ten to the power of the width fits; in no column none does, as 0 has a digit too
pub fits_below : (w n : ℕ) → 0 < w → n < 10 ^ w → fits w n ≡ true
unfolding fits
fits_below zero n p h = absurd (omega arith)
fits_below (suc w) n p h = le-leb (length (digits n)) (suc w) (count_below w n h)

-- and only such a number does
pub below_fits : (w n : ℕ) → fits w n ≡ true → n < 10 ^ w
unfolding fits
below_fits w n e = below_count w n (leb-true (length (digits n)) w e)

-- ---- a column
-- a number that fits takes its columns, no more and no fewer
pub column-length : (w n : ℕ) → fits w n ≡ true → length (column w n) ≡ w
unfolding column fits
column-length w n e = simp (length-append, length-replicate) (omega (arith, leb-true (length (digits n)) w e))

-- a text filled with a number that fits it is the number's column
pub filled_column : (t : List ℕ) (n : ℕ) (after : List ℕ) (answer : Bool) → ColumnFilled t n after answer
    → fits (length t) n ≡ true
    → after ≡ column (length t) n
filled_column t n after answer f e = f.bytes ∙ rw e

-- w columns before the last, where n is left of the number
unfoldable pub front : ℕ → ℕ → List ℕ
front zero n = []
front (suc w) n = front w (n / 10) ++ (mark n ∷ [])

front_blank : (w : ℕ) → front w 0 ≡ replicate w 32
unfolding front
front_blank zero = refl
front_blank (suc w) =
    rw (front_blank w, replicate-append-replicate {A = ℕ} w 1 32) (ap (λ (k : ℕ). replicate k 32) (add-one w))

last_column : (w n : ℕ) → (10 ≤ n → front w (n / 10) ≡ column w (n / 10))
    → column (suc w) n ≡ front w (n / 10) ++ ((48 + n % 10) ∷ [])
unfolding column
last_column w n before = elim (lt_or_le n 10) [ inl h ↦ one h | inr h ↦ more h ]
  where
    one : n < 10 → column (suc w) n ≡ front w (n / 10) ++ ((48 + n % 10) ∷ [])
    one h =
        let tenth : n / 10 ≡ 0 = omega arith in
        let last : n % 10 ≡ n = omega arith in
        let blanks : suc w - 1 ≡ w = omega arith in
        rw (count_one n h, digits_one n h, tenth, last, blanks, front_blank w)

    more : 10 ≤ n → column (suc w) n ≡ front w (n / 10) ++ ((48 + n % 10) ∷ [])
    more h =
        let x = length (digits (n / 10)) in
        let blanks : suc w - (x + 1) ≡ w - x = omega arith in
        rw (count_more n h, digits_more n h, before h, blanks)
        (sym (append_assoc (replicate (w - x) 32) (digits (n / 10)) ((48 + n % 10) ∷ [])))

front-column : (w n : ℕ) → 0 < n → length (digits n) ≤ w → front w n ≡ column w n
unfolding front
front-column zero n p h = absurd (omega (arith, count_some n))
front-column (suc w) n p h =
    rw (ne_eqb n 0 (λ e. omega arith))
    (sym (last_column w n (λ l. front-column w (n / 10) (omega arith) (omega (arith, count_more n l)))))

-- a number that fits has its last digit in the last column, and its tenth in those before it
pub column-front : (w n : ℕ) → fits (suc w) n ≡ true → column (suc w) n ≡ front w (n / 10) ++ ((48 + n % 10) ∷ [])
unfolding fits
column-front w n e =
    let h : length (digits n) ≤ suc w = leb-true (length (digits n)) (suc w) e in
    last_column w n (λ l. front-column w (n / 10) (omega arith) (omega (arith, count_more n l)))

-- ---- w bytes from a to e, lent and come back as f of their number
pub part_length : (a e w : ℕ) (xs : List ℕ) → e ≤ length xs → a + w ≡ e → length (mid_of a (e - a) xs) ≡ w
part_length a e w xs h p = mid_len a e xs h ∙ omega arith

pub part_back : (f : ℕ → List ℕ) (a e w : ℕ) (xs ys : List ℕ) → e ≤ length xs → a + w ≡ e
    → ys ≡ f (length (mid_of a (e - a) xs))
    → put_mid a (e - a) xs ys ≡ take a xs ++ (f w ++ drop e xs)
part_back f a e w xs ys h p q =
    ap₂ (λ (y z : List ℕ). take a xs ++ (y ++ z)) (q ∙ ap f (part_length a e w xs h p)) (Post-is a e xs (omega arith))

-- ---- a text written part by part: x stored in the w bytes from at, with y still to come
pub part_done : (at w : ℕ) (x y t t' : List ℕ) → at + w ≤ length t → length x ≡ w
    → t' ≡ take at t ++ (x ++ drop (at + w) t)
    → take at t ++ (x ++ y) ≡ take (at + w) t' ++ y
part_done at w x y t t' r e p =
    let l : length (take at t ++ x) ≡ at + w = simp (length-append, length-take-le at t (omega arith)) (omega arith) in
    rw (p, ← append_assoc (take at t) x (drop (at + w) t), take_at (take at t ++ x) (drop (at + w) t) (at + w) l)
    (sym (append_assoc (take at t) x y))

-- ---- a line
-- the sum of the widths
unfoldable pub total : List ℕ → ℕ
total [] = 0
total (w ∷ ws) = w + total ws

-- things that fit take their columns, and the line feed one byte; and they are as many as the widths
module _ {A : Type 0} (test : ℕ → A → Bool) where
  pub fit_of-lengths : (ws : List ℕ) (xs : List A) → fit_of test ws xs ≡ true → length ws ≡ length xs
  unfolding fit_of
  fit_of-lengths [] [] e = refl
  fit_of-lengths [] (x ∷ xs) e = absurd (false≢true e)
  fit_of-lengths (w ∷ ws) [] e = absurd (false≢true e)
  fit_of-lengths (w ∷ ws) (x ∷ xs) e = ap suc (fit_of-lengths ws xs (and_r (test w x) (fit_of test ws xs) e))

  module _ (written : ℕ → A → List ℕ) (wide : (w : ℕ) (x : A) → test w x ≡ true → length (written w x) ≡ w) where
    pub line_of-length : (ws : List ℕ) (xs : List A) → fit_of test ws xs ≡ true
        → length (line_of written ws xs) ≡ total ws + 1
    unfolding line_of fit_of total
    line_of-length [] [] e = refl
    line_of-length [] (x ∷ xs) e = absurd (false≢true e)
    line_of-length (w ∷ ws) [] e = absurd (false≢true e)
    line_of-length (w ∷ ws) (x ∷ xs) e =
        let a : test w x ≡ true = and_l (test w x) (fit_of test ws xs) e in
        let b : fit_of test ws xs ≡ true = and_r (test w x) (fit_of test ws xs) e in
        rw (length-append (written w x) (line_of written ws xs), wide w x a, line_of-length ws xs b) (omega arith)

pub line-length : (ws ns : List ℕ) → all_fit ws ns ≡ true → length (line ws ns) ≡ total ws + 1
line-length ws ns e = line_of-length fits column column-length ws ns e

pub fit_lengths : (ws ns : List ℕ) → all_fit ws ns ≡ true → length ws ≡ length ns
fit_lengths ws ns e = fit_of-lengths fits ws ns e

-- a line can be written where its numbers fit and there is room for their columns and the line feed
pub writable-room : (room : ℕ) (ws ns : List ℕ) → all_fit ws ns ≡ true → total ws + 1 ≤ room
    → writable room ws ns ≡ true
unfolding writable
writable-room room ws ns e h = rw (e, line-length ws ns e) (le-leb (total ws + 1) room h)

-- and only there
pub writable_known : (room : ℕ) (ws ns : List ℕ) → writable room ws ns ≡ true
    → (all_fit ws ns ≡ true) × (length (line ws ns) ≤ room)
unfolding writable
writable_known room ws ns e =
    let a = all_fit ws ns in
    let b = leb (length (line ws ns)) room in
    (and_l a b e, leb-true (length (line ws ns)) room (and_r a b e))

-- a line that can be written leaves the buffer as long as it was
pub with_line-length : (ws ns buffer : List ℕ) → writable (length buffer) ws ns ≡ true
    → length (with_line ws ns buffer) ≡ length buffer
unfolding with_line
with_line-length ws ns buffer e =
    simp (length-append, length-drop) (omega (arith, (writable_known (length buffer) ws ns e).1))

-- a buffer as long as the line is the line
pub line_fills : (ws ns before after : List ℕ) (answer : Bool) → Written ws ns before after answer
    → all_fit ws ns ≡ true → length before ≡ total ws + 1 → after ≡ line ws ns
unfolding with_line
line_fills ws ns before after answer w fit size =
    let can = writable-room (length before) ws ns fit (omega arith) in
    w.bytes ∙ rw (can, line-length ws ns fit, drop_of_length-le before {i = total ws + 1} (omega arith))
    (append-nil (line ws ns))
