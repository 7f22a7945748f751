-- The least and the greatest member of a set: what callers cite, and that the zeros at the two ends of a number tell
-- them. Assumes nothing.
use mathlib.Core.Path.{◌≡◌, refl, sym, ◌∙◌}
use mathlib.Core.Logic.{⊎_elim}
use mathlib.Core.Bool.{true, false}
use Prim.Native.Nat.{ℕ, zero, suc, ◌-◌, ◌/◌, ◌%◌, ◌^◌, ◌≤◌, ◌<◌}
use native.Mathlib.Nat.{le_refl, le_of_suc-le-suc, not-suc-le-zero, div-lt_iff_lt-mul, le-div_iff_mul-le, pow-suc}
use native.Mathlib.Omega.{arith}
use borrow.Author.Tests.{eq-eqb}
use lib.Dec.{eqb}
use lib.Pow.{pow_pos}
use lib.Count.{count_leading_zeros, count_trailing_zeros, under, leading_top, trailing_le}
use Rattle.lists.specs.Search.{below}
use Rattle.lists.proofs.Search.{below_none, first_none, first_below, first-most, last_none, last-below, last_most}
use Rattle.lists.proofs.Tests.{lt_or_le}
use Rattle.sets.specs.Sets.{has, is_member, run, least, greatest}
use Rattle.sets.proofs.Bits.{digit, has_odd, has_half, has_high}
use Rattle.sets.proofs.Laws.{run_in, run_out}

-- ---- the least member

-- a member with none below it
pub least_is : (set p : ℕ) → p < 64 → has p set ≡ true → ((q : ℕ) → q < p → has q set ≡ false) → least set ≡ p
unfolding least
least_is set p l h none = last-below 64 64 (is_member set) p l h none

-- 64 where there is no member
pub least_none : (set : ℕ) → ((p : ℕ) → p < 64 → has p set ≡ false) → least set ≡ 64
unfolding least
least_none set none = last_none (is_member set) 64 (below 64) (below_none 64 (is_member set) none)

-- never above 64
pub least_most : (set : ℕ) → least set ≤ 64
unfolding least
least_most set = last_most 64 64 64 (is_member set) (le_refl 64) (le_refl 64)

-- ---- the greatest member

-- a member with none above it
pub greatest_is : (set p : ℕ) → p < 64 → has p set ≡ true → ((q : ℕ) → p < q → q < 64 → has q set ≡ false)
    → greatest set ≡ p
unfolding greatest
greatest_is set p l h none = first_below 64 64 (is_member set) p l h none

-- 64 where there is no member
pub greatest_none : (set : ℕ) → ((p : ℕ) → p < 64 → has p set ≡ false) → greatest set ≡ 64
unfolding greatest
greatest_none set none = first_none (is_member set) 64 (below 64) (below_none 64 (is_member set) none)

-- never above 64
pub greatest_most : (set : ℕ) → greatest set ≤ 64
unfolding greatest
greatest_most set = first-most 64 64 64 (is_member set) (le_refl 64) (le_refl 64)

-- ---- the ends of the run from f to l

-- f is the least
pub least-run : (f l : ℕ) → f ≤ l → l < 64 → least (run f l) ≡ f
least-run f l h k =
    least_is (run f l) f (omega arith) (run_in f l f (le_refl f) h (omega arith))
    (λ q lower. run_out f l q (λ a b. omega arith))

-- and l the greatest
pub greatest-run : (f l : ℕ) → f ≤ l → l < 64 → greatest (run f l) ≡ l
greatest-run f l h k =
    greatest_is (run f l) l k (run_in f l l h (le_refl l) k) (λ q above fits. run_out f l q (λ a b. omega arith))

-- ---- the zeros below the lowest one

-- no number below their count is a member
below_trailing : (k set p : ℕ) → p < count_trailing_zeros k set → has p set ≡ false
unfolding count_trailing_zeros
below_trailing zero set p h = absurd (not-suc-le-zero h)
below_trailing (suc k) set zero h =
    has_odd set
    ∙ digit (λ x. 0 < under x (count_trailing_zeros k (set / 2)) → eqb x 1 ≡ false) (λ l. refl)
    (λ l. absurd (not-suc-le-zero l)) set h
below_trailing (suc k) set (suc p) h =
    has_half p set
    ∙ digit (λ x. suc p < under x (count_trailing_zeros k (set / 2)) → has p (set / 2) ≡ false)
    (λ l. below_trailing k (set / 2) p (le_of_suc-le-suc l)) (λ l. absurd (not-suc-le-zero l)) set h

-- their count is a member, where not all the digits are zeros
at_trailing : (k set : ℕ) → count_trailing_zeros k set < k → has (count_trailing_zeros k set) set ≡ true
unfolding count_trailing_zeros
at_trailing zero set h = absurd (not-suc-le-zero h)
at_trailing (suc k) set h =
    let t = count_trailing_zeros k (set / 2) in
    digit (λ x. has 0 set ≡ eqb x 1 → under x t < suc k → has (under x t) set ≡ true)
    (λ e l. has_half t set ∙ at_trailing k (set / 2) (le_of_suc-le-suc l)) (λ e l. e) set (has_odd set) h

-- so it is the least member
pub least_zeros : (set : ℕ) → count_trailing_zeros 64 set ≡ least set
least_zeros set =
    let t = count_trailing_zeros 64 set in
    ⊎_elim (λ (l : t < 64). sym (least_is set t l (at_trailing 64 set l) (below_trailing 64 set)))
    (λ (l : 64 ≤ t). let e : t ≡ 64 = omega (arith, trailing_le 64 set) in
    e ∙ sym (least_none set (λ p h. below_trailing 64 set p (omega arith)))) (lt_or_le t 64)

-- ---- the zeros above the highest one

-- a number from 2 ^ p on and below 2 ^ (p + 1) has the member p
has_top : (p set : ℕ) → 2 ^ p ≤ set → set < 2 ^ suc p → has p set ≡ true
unfolding has
has_top p set h l =
    let up : set / 2 ^ p < 2 = (div-lt_iff_lt-mul (pow_pos p)).1 (omega (arith, pow-suc 2 p)) in
    let down : 1 ≤ set / 2 ^ p = (le-div_iff_mul-le (pow_pos p)).1 (omega arith) in
    eq-eqb (set / 2 ^ p % 2) 1 (omega arith)

-- 63 less their count is the greatest member
pub greatest_zeros : (set : ℕ) → 0 < set → set < 2 ^ 64 → 63 - count_leading_zeros 64 set ≡ greatest set
greatest_zeros set some h =
    let (p, count, from, to) = leading_top 64 set some h in
    let e : 63 - count_leading_zeros 64 set ≡ p = omega arith in
    e ∙ sym (greatest_is set p (omega arith) (has_top p set from to) (λ q above fits. has_high (suc p) q set to above))
