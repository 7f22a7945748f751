-- Elements that are told apart by a number. Assumes nothing.
use Rattle.std.specs.Prelude.{ℕ, Bool, false, List, [], ◌∷◌, ◌≡◌, eqb}
use Rattle.lists.specs.Search.{any}

module _ {A : Type 0} where
  -- the element's number is n
  abbrev pub numbered : (A → ℕ) → ℕ → A → Bool
  numbered number n x = eqb (number x) n

  -- no two elements have the same number
  unfoldable pub Distinct : (A → ℕ) → List A → Type 0
  Distinct number [] = Unit {0}
  Distinct number (x ∷ xs) = (any (numbered number (number x)) xs ≡ false) × Distinct number xs
