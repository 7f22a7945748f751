-- Which numbers are members of what the machine's operations make of a set (`&`, `|`, `!`, `>>`, `<<`), digit by digit;
-- and that two sets with the same members are equal. Assumes nothing.
use mathlib.Core.Path.{◌≡◌, refl, sym, ◌∙◌}
use mathlib.Core.Logic.{⊎_elim}
use mathlib.Core.Bool.{false, not, ◌&&◌, ◌||◌, and-true}
use Prim.Native.Nat.{ℕ, zero, suc, suc-le-suc, ◌+◌, ◌-◌, ◌*◌, ◌/◌, ◌%◌, ◌^◌, ◌≤◌, ◌<◌, min, max}
use native.Mathlib.Nat.{div-eq_of_lt, div-one, lt_of_lt_of_le, mul-one, pow-suc, suc-sub-suc, sub-zero, zero-div}
use native.Mathlib.Nat.{le_of_suc-le-suc, not-suc-le-zero, zero-lt-suc}
use native.Mathlib.Numerals.{one-add}
use native.Mathlib.Omega.{arith}
use borrow.Author.Tests.{lt-ltb, le-ltb, le-leb, eq-eqb, ltb-true, leb-true, eqb-true}
use lib.Dec.{eqb, ltb, leb, leb-zero, leb-suc-zero, leb-suc-suc}
use lib.Arith.{digits_mod, lt-one}
use lib.Pow.{pow_pos, pow_mono, shr-shr, ones_lt}
use lib.Bits.{bit_and, bit_or, and_shr, or_shr, and_step, or_step, and_mask, shifted_half, shifted_even}
use Rattle.std.proofs.lemmas.Bool.{and_from}
use Rattle.lists.proofs.Tests.{lt_or_le, same_test, and_l, and_r, clash}
use Rattle.sets.specs.Sets.{has}

-- what holds of both digits holds of a number's last digit; what holds of every two, of the last digits of two numbers
pub digit : (P : ℕ → Type 0) → P 0 → P 1 → (a : ℕ) → P (a % 2)
digit P h0 h1 a = go (a % 2) (omega arith)
  where
    go : (x : ℕ) → x < 2 → P x
    go zero h = h0
    go (suc zero) h = h1
    go (suc (suc x)) h = absurd (omega arith)

digits : (P : ℕ → ℕ → Type 0) → P 0 0 → P 0 1 → P 1 0 → P 1 1 → (a b : ℕ) → P (a % 2) (b % 2)
digits P h00 h01 h10 h11 a b = digit (λ x. P x (b % 2)) (digit (P 0) h00 h01 b) (digit (P 1) h10 h11 b) a

-- `set >> k` takes k from each member
has_down : (p k set : ℕ) → has p (set / 2 ^ k) ≡ has (k + p) set
unfolding has
has_down p k set = rw shr-shr

-- 0 is a member where the number is odd, and p + 1 where p is a member of the half
pub has_odd : (set : ℕ) → has 0 set ≡ eqb (set % 2) 1
unfolding has
has_odd set = rw div-one

pub has_half : (p set : ℕ) → has (suc p) set ≡ has p (set / 2)
has_half p set = sym (has_down p 1 set ∙ rw one-add)

-- no number is a member of 0
pub has_none : (p : ℕ) → has p 0 ≡ false
unfolding has
has_none p = rw zero-div

-- a set of numbers below k has no other member
pub has_high : (k p set : ℕ) → set < 2 ^ k → k ≤ p → has p set ≡ false
unfolding has
has_high k p set h l = rw (div-eq_of_lt (lt_of_lt_of_le h (pow_mono l)))

half_lt : (k set : ℕ) → set < 2 ^ suc k → set / 2 < 2 ^ k
half_lt k set h = omega (arith, pow-suc 2 k)

-- two sets of numbers below k with the same members are equal
pub same_members : (k a b : ℕ) → a < 2 ^ k → b < 2 ^ k → ((p : ℕ) → p < k → has p a ≡ has p b) → a ≡ b
same_members zero a b ha hb e = lt-one ha ∙ sym (lt-one hb)
same_members (suc k) a b ha hb e =
    let upper : a / 2 ≡ b / 2 =
    same_members k (a / 2) (b / 2) (half_lt k a ha) (half_lt k b hb)
    (λ p h. sym (has_half p a) ∙ e (suc p) (suc-le-suc h) ∙ has_half p b) in
    let lower : a % 2 ≡ b % 2 =
    digits (λ x y. eqb x 1 ≡ eqb y 1 → x ≡ y) (λ q. refl) (λ q. clash refl (sym q)) (λ q. clash refl q) (λ q. refl) a b
    (sym (has_odd a) ∙ e 0 (zero-lt-suc k) ∙ has_odd b) in
    omega arith

min_lt : (x y : ℕ) → min (x % 2) (y % 2) < 2
min_lt x y = omega arith

max_lt : (x y : ℕ) → max (x % 2) (y % 2) < 2
max_lt x y = omega arith

-- the members of `a & b` are those of both, and of `a | b` those of either
pub has_and : (p a b : ℕ) → has p (bit_and a b) ≡ has p a && has p b
unfolding has
has_and p a b =
    rw (and_shr, and_step, digits_mod, min_lt)
    (digits (λ x y. eqb (min x y) 1 ≡ eqb x 1 && eqb y 1) refl refl refl refl (a / 2 ^ p) (b / 2 ^ p))

pub has_or : (p a b : ℕ) → has p (bit_or a b) ≡ has p a || has p b
unfolding has
has_or p a b =
    rw (or_shr, or_step, digits_mod, max_lt)
    (digits (λ x y. eqb (max x y) 1 ≡ eqb x 1 || eqb y 1) refl refl refl refl (a / 2 ^ p) (b / 2 ^ p))

-- the members of `!set` in k digits are the numbers below k that are no members of the set
pub has-not : (k p set : ℕ) → set < 2 ^ k → p < k → has p ((2 ^ k - 1) - set) ≡ not (has p set)
has-not zero p set h l = absurd (not-suc-le-zero l)
has-not (suc k) zero set h l =
    let odd : ((2 ^ suc k - 1) - set) % 2 ≡ 1 - set % 2 = omega (arith, pow-suc 2 k) in
    has_odd ((2 ^ suc k - 1) - set) ∙ rw (odd, has_odd) (digit (λ x. eqb (1 - x) 1 ≡ not (eqb x 1)) refl refl set)
has-not (suc k) (suc p) set h l =
    let half : ((2 ^ suc k - 1) - set) / 2 ≡ (2 ^ k - 1) - set / 2 = omega (arith, pow-suc 2 k) in
    has_half p _ ∙ rw (half, has_half) (has-not k p (set / 2) (half_lt k set h) (le_of_suc-le-suc l))

-- a number whose k digits are all 1 has the members below k
has_ones : (k p : ℕ) → has p (2 ^ k - 1) ≡ ltb p k
has_ones k p =
    ⊎_elim (λ (l : p < k). rw lt-ltb (simp (sub-zero, has_none) at (has-not k p 0 (pow_pos k) l)))
    (λ (l : k ≤ p). has_high k p (2 ^ k - 1) (ones_lt k) l ∙ sym (le-ltb p k l)) (lt_or_le p k)

-- a word of k digits keeps the members below k
has_kept : (k p set : ℕ) → p < k → has p (set % 2 ^ k) ≡ has p set
has_kept k p set l = rw (← and_mask, has_and, has_ones, lt-ltb, and-true)

-- `set << k`, in as many digits as it takes, adds k to each member
has_up : (p k set : ℕ) → has p (set * 2 ^ k) ≡ leb k p && has (p - k) set
has_up p zero set = rw (leb-zero, mul-one, sub-zero)
has_up zero (suc k) set = rw (has_odd, shifted_even, leb-suc-zero)
has_up (suc p) (suc k) set = rw (has_half, shifted_half, leb-suc-suc, suc-sub-suc) (has_up p k set)

-- 2 ^ n has the one member n
pub has_power : (p n : ℕ) → has p (1 * 2 ^ n) ≡ eqb p n
has_power p n =
    rw (has_up, has_ones 1)
    (same_test _ _
    (λ h. eq-eqb p n (omega (arith, leb-true n p (and_l _ _ h), ltb-true (p - n) 1 (and_r (leb n p) _ h))))
    (λ h. let e : p ≡ n = eqb-true p n h in
    and_from (leb n p) _ (le-leb n p (omega arith)) (lt-ltb (p - n) 1 (omega arith))))

-- ---- the same in words of 64 digits

-- `1 << p` has the one member p
pub has_single : (p q : ℕ) → q < 64 → has q (1 * 2 ^ p % 2 ^ 64) ≡ eqb q p
has_single p q l = has_kept 64 q (1 * 2 ^ p) l ∙ has_power q p

-- the members of `set << f` are those of the set, each with f added
pub has_shifted : (f p set : ℕ) → p < 64 → has p (set * 2 ^ f % 2 ^ 64) ≡ leb f p && has (p - f) set
has_shifted f p set l = has_kept 64 p (set * 2 ^ f) l ∙ has_up p f set
