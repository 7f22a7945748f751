-- Searches in a list and changes of a list, by a test on one element. Each computes. Assumes nothing.
use Rattle.std.specs.Prelude.{ℕ, zero, suc, Bool, cond, List, [], ◌∷◌, filter}
use Rattle.std.specs.List.{list_any}

module _ {A : Type 0} where
  -- some element passes the test
  abbrev pub any : (A → Bool) → List A → Bool
  any test xs = list_any test xs

  -- the first element that passes the test, or d where none does
  unfoldable pub first : (A → Bool) → A → List A → A
  first test d [] = d
  first test d (x ∷ xs) = cond (test x) x (first test d xs)

  -- the last element that passes the test, or d where none does
  unfoldable pub last : (A → Bool) → A → List A → A
  last test d [] = d
  last test d (x ∷ xs) = last test (cond (test x) x d) xs

  -- the elements that pass the test, in their order
  abbrev pub keep : (A → Bool) → List A → List A
  keep test xs = filter test xs

  -- each element that passes the test is changed by f, in its place; the others stay
  unfoldable pub change : (A → Bool) → (A → A) → List A → List A
  change test f [] = []
  change test f (x ∷ xs) = cond (test x) (f x) x ∷ change test f xs

  -- the first element that passes the test is changed by f, in its place; the others stay
  unfoldable pub change_first : (A → Bool) → (A → A) → List A → List A
  change_first test f [] = []
  change_first test f (x ∷ xs) = cond (test x) (f x ∷ xs) (x ∷ change_first test f xs)

-- the numbers below n, from the greatest on
unfoldable pub below : ℕ → List ℕ
below zero = []
below (suc n) = n ∷ below n
