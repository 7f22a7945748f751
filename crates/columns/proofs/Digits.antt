-- The digits of a number: one, or those of its tenth and one more. Assumes nothing.
use mathlib.Core.Path.{◌≡◌, refl, sym, ap, ◌∙◌}
use mathlib.Core.Bool.{Bool, true, false}
use mathlib.Core.List.{List, [], ◌∷◌, ◌++◌}
use Prim.Native.Nat.{ℕ, zero, suc, ◌+◌, ◌/◌, ◌%◌, ◌≤◌, ◌<◌}
use native.Mathlib.Omega.{arith}
use borrow.Author.Tests.{lt-ltb, le-ltb, ltb-true, ltb-false}
use lib.Dec.{ltb}
use lib.ListN.{length, length-append}
use Rattle.columns.specs.Column.{digits_in, digits}

in_one : (k n : ℕ) → n < 10 → digits_in (suc k) n ≡ (48 + n) ∷ []
unfolding digits_in
in_one k n h = rw (lt-ltb n 10 h, digits_in)

in_more : (k n : ℕ) → 10 ≤ n → digits_in (suc k) n ≡ digits_in k (n / 10) ++ ((48 + n % 10) ∷ [])
unfolding digits_in
in_more k n h = rw (le-ltb n 10 h, digits_in)

-- how many digits are asked for is no matter, where they are more than the number
enough : (k j n : ℕ) → n < k → n < j → digits_in k n ≡ digits_in j n
enough zero j n h l = absurd (omega arith)
enough (suc k) zero n h l = absurd (omega arith)
enough (suc k) (suc j) n h l = go (ltb n 10) refl (enough k j (n / 10))
  where
    go : (t : Bool) → ltb n 10 ≡ t → (n / 10 < k → n / 10 < j → digits_in k (n / 10) ≡ digits_in j (n / 10))
        → digits_in (suc k) n ≡ digits_in (suc j) n
    go true e ih = let m : n < 10 = ltb-true n 10 e in in_one k n m ∙ sym (in_one j n m)
    go false e ih =
        let m : 10 ≤ n = ltb-false n 10 e in
        in_more k n m ∙ ap (λ (s : List ℕ). s ++ ((48 + n % 10) ∷ [])) (ih (omega arith) (omega arith))
        ∙ sym (in_more j n m)

pub digits_one : (n : ℕ) → n < 10 → digits n ≡ (48 + n) ∷ []
unfolding digits
digits_one n h = in_one n n h

pub digits_more : (n : ℕ) → 10 ≤ n → digits n ≡ digits (n / 10) ++ ((48 + n % 10) ∷ [])
unfolding digits
digits_more n h =
    in_more n n h ∙ ap (λ (s : List ℕ). s ++ ((48 + n % 10) ∷ []))
    (enough n (suc (n / 10)) (n / 10) (omega arith) (omega arith))

-- ---- how many digits there are
pub count_one : (n : ℕ) → n < 10 → length (digits n) ≡ 1
count_one n h = ap length (digits_one n h)

pub count_more : (n : ℕ) → 10 ≤ n → length (digits n) ≡ length (digits (n / 10)) + 1
count_more n h = ap length (digits_more n h) ∙ length-append (digits (n / 10)) ((48 + n % 10) ∷ [])
