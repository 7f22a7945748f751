-- An element put before the first with a higher number. Assumes nothing.
use Rattle.std.proofs.Common.{◌≡◌, refl, ◌≤◌, ℕ, suc, ◌+◌, Bool, true, false, cond, not, ltb, ltb-false, List, [], ◌∷◌}
use Rattle.std.proofs.Common.{length, arith, Some, None}
use Rattle.std.specs.List.{position_or_len, position, insert}
use Rattle.std.specs.Option.{unwrap_or}
use Rattle.std.proofs.lemmas.List.Sums.{prefix_len-le-length}
use Rattle.lists.specs.Order.{insert_by}

-- the first place that passes, or the list's end
module _ {A : Type 0} (p : A → Bool) (xs : List A) where
  place_step : (t : Bool) (i : ℕ) → ltb i (length xs) ≡ t → i ≤ length xs
      → unwrap_or (cond t (Some i) None) (length xs) ≡ i
  place_step true i e h = refl
  place_step false i e h = omega (arith, ltb-false i (length xs) e)

  pub place_of : unwrap_or (position p xs) (length xs) ≡ position_or_len p xs
  place_of =
      place_step (ltb (position_or_len p xs) (length xs)) (position_or_len p xs) refl
      (prefix_len-le-length (λ x. not (p x)) xs)

module _ {A : Type 0} (number : A → ℕ) (x : A) where
  abbrev above : A → Bool
  above z = ltb (number x) (number z)

  step : (y : A) (ys : List A) (t : Bool) → insert_by number x ys ≡ insert ys (position_or_len above ys) x
      → cond t (x ∷ y ∷ ys) (y ∷ insert_by number x ys)
      ≡ insert (y ∷ ys) (cond (not t) (1 + position_or_len above ys) 0) x
  step y ys true ih = refl
  step y ys false ih =
      let more : 1 + position_or_len above ys ≡ suc (position_or_len above ys) = omega arith in rw (ih, more)

  pub insert_by-insert : (xs : List A) → insert_by number x xs ≡ insert xs (position_or_len above xs) x
  unfolding insert_by
  insert_by-insert [] = refl
  insert_by-insert (y ∷ ys) = step y ys (ltb (number x) (number y)) (insert_by-insert ys)
