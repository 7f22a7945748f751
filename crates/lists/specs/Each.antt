-- Two lists, element by element. Assumes nothing.
use Rattle.std.specs.Prelude.{◌≡◌, ◌⊎◌, Bool, true, false, List, [], ◌∷◌}
use Rattle.lists.specs.Search.{change_first}

module _ {A : Type 0} where
  -- the lists have one length, and each element of the second is one that the relation gives for the element in its
  -- place in the first
  abbrev pub EachGives : (A → A → Type 0) → List A → List A → Type 0
  EachGives R [] [] = Unit {0}
  EachGives R [] (y ∷ ys) = ⊥
  EachGives R (x ∷ xs) [] = ⊥
  EachGives R (x ∷ xs) (y ∷ ys) = R x y × EachGives R xs ys

  -- an element that the test answers true for became one that F gives, any other is as it was
  abbrev pub ChangesTo : (A → Bool → Type 0) → (A → A → Type 0) → A → A → Type 0
  ChangesTo P F x y = (P x true × F x y) ⊎ (P x false × (y ≡ x))

  pub record ChangedWhere (P : A → Bool → Type 0) (F : A → A → Type 0) (xs ys : List A) : Type 0 where
    pub each : EachGives (ChangesTo P F) xs ys

  -- The first element that the test answers true for became one that F gives; the others stay. Where the test answers
  -- as a function does, and F gives what a function does, the list is the one that these change.
  pub record FirstChanged (P : A → Bool → Type 0) (F : A → A → Type 0) (xs ys : List A) : Type 0 where
    pub by : (test : A → Bool) (f : A → A) → ((x : A) (b : Bool) → P x b → b ≡ test x)
        → ((x y : A) → F x y → y ≡ f x) → ys ≡ change_first test f xs
