-- Elements held by ascending number. Assumes nothing.
use Rattle.std.specs.Prelude.{ℕ, ◌<◌, cond, ltb}
use mathlib.Core.List.{List, [], ◌∷◌, Memᴰ}

module _ {A : Type 0} where
  -- the number of each element is below those of all behind it
  unfoldable pub Ascending : (A → ℕ) → List A → Type 0
  Ascending number [] = Unit {0}
  Ascending number (x ∷ xs) = ((y : A) → Memᴰ y xs → number x < number y) × Ascending number xs

  -- the list with x put before the first element with a higher number, or at the end where there is none
  unfoldable pub insert_by : (A → ℕ) → A → List A → List A
  insert_by number x [] = x ∷ []
  insert_by number x (y ∷ ys) = cond (ltb (number x) (number y)) (x ∷ y ∷ ys) (y ∷ insert_by number x ys)
