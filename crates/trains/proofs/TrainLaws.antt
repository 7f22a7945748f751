-- What the answer of a search over the trains says, in the rules' words. Assumes nothing.
use Prim.Native.Nat.{ℕ}
use mathlib.Core.Path.{◌≡◌, sym, refl, ap, ◌∙◌}
use mathlib.Core.Logic.{inl, inr}
use mathlib.Core.Bool.{Bool, true, false, not, ◌&&◌, ◌||◌, or_self, and_assoc, and-or_distrib_left}
use mathlib.Core.Bool.{and-or_distrib_right}
use mathlib.Core.List.{List, [], ◌∷◌}
use Rattle.std.specs.Prelude.{Option, Some, None, find, is_some, eqb}
use Rattle.lists.specs.Search.{any}
use Rattle.lists.proofs.Finds.{found_none, found_is, found_any}
use Rattle.rules.specs.declared.AuthorityNo.{AuthorityNo}
use Rattle.rules.specs.declared.TrainNo.{TrainNo}
use Rattle.rules.specs.declared.Authority.{Authority}
use Rattle.rules.specs.declared.Train.{Train}
use Rattle.sets.specs.Sets.{has}
use Rattle.rules.specs.Board.{Board, touches, touches_portion, is_outside, is_twa, no_train, is_train, on_board, train}
use Rattle.rules.specs.Refusals.{in_the_way, is_other_at}
use Rattle.trains.specs.Trains.{SearchesEnds}

-- ---- the ends of the trains, searched

-- where the test of a train at an end answers `by`, and a train passes where one of its ends does, the search answers
-- the first train that passes
find_by_ends : (Passes : Train → ℕ → Bool → Type 0) (ts : List Train) (r : Option Train) → SearchesEnds Passes ts r
    → (by : Train → ℕ → Bool) (test : Train → Bool)
    → ((t : Train) (end : ℕ) (b : Bool) → Passes t end b → b ≡ by t end)
    → ((t : Train) → (by t t.head || by t t.rear) ≡ test t)
    → r ≡ find test ts
unfolding SearchesEnds
find_by_ends Passes [] r s by test answers either = s
find_by_ends Passes (t ∷ ts) r (inl (head, found)) by test answers either =
    rw (found, ← either t, ← answers t t.head true head)
find_by_ends Passes (t ∷ ts) r (inr (inl (head, rear, found))) by test answers either =
    rw (found, ← either t, ← answers t t.head false head, ← answers t t.rear true rear)
find_by_ends Passes (t ∷ ts) r (inr (inr (head, rear, rest))) by test answers either =
    rw (← either t, ← answers t t.head false head, ← answers t t.rear false rear)
    (find_by_ends Passes ts r rest by test answers either)

-- the tests of a train at an end: it is in the way of a CONTINUE by that end, or is another at the portion by it
abbrev end_in_the_way : AuthorityNo → Authority → Train → ℕ → Bool
end_in_the_way old a t end =
    has end a.limits && (is_twa a.kind || not (eqb t.with.0 old.0) || not (has t.head a.limits))

abbrev end_of_another : TrainNo → ℕ → Train → ℕ → Bool
end_of_another n p t end = not (is_train n t) && not (is_outside p) && eqb end p

-- the four searches, for the check: by what the closure that makes the test answers
module _ (Passes : Train → ℕ → Bool → Type 0) (ts : List Train) (r : Option Train) (searched : SearchesEnds Passes ts r)
  where
    -- some train passes where one is found
    any_by_ends : (by : Train → ℕ → Bool) (test : Train → Bool)
        → ((t : Train) (end : ℕ) (b : Bool) → Passes t end b → b ≡ by t end)
        → ((t : Train) → (by t t.head || by t t.rear) ≡ test t)
        → is_some r ≡ any test ts
    any_by_ends by test answers either =
        ap is_some (find_by_ends Passes ts r searched by test answers either) ∙ found_any test ts

    -- the train with a number
    pub numbered_by_ends : (n : TrainNo) → ((t : Train) (end : ℕ) (b : Bool) → Passes t end b → b ≡ is_train n t)
        → r ≡ find (is_train n) ts
    numbered_by_ends n answers =
        find_by_ends Passes ts r searched (λ t end. is_train n t) (is_train n) answers (λ t. or_self (is_train n t))

    -- one that touches the set
    pub touching_by_ends : (set : ℕ) → ((t : Train) (end : ℕ) (b : Bool) → Passes t end b → b ≡ has end set)
        → is_some r ≡ any (touches set) ts
    unfolding touches
    touching_by_ends set answers = any_by_ends (λ t end. has end set) _ answers (λ t. refl)

    -- one in the way of a CONTINUE
    pub in_the_way_by_ends : (old : AuthorityNo) (a : Authority)
        → ((t : Train) (end : ℕ) (b : Bool) → Passes t end b → b ≡ end_in_the_way old a t end)
        → is_some r ≡ any (in_the_way old a) ts
    unfolding in_the_way touches
    in_the_way_by_ends old a answers = any_by_ends (end_in_the_way old a) _ answers (λ t. rw and-or_distrib_right)

    -- another that touches the portion
    pub another_by_ends : (n : TrainNo) (p : ℕ)
        → ((t : Train) (end : ℕ) (b : Bool) → Passes t end b → b ≡ end_of_another n p t end)
        → is_some r ≡ any (is_other_at n p) ts
    unfolding is_other_at touches_portion
    another_by_ends n p answers =
        any_by_ends (end_of_another n p) _ answers (λ t. simp (and_assoc, and-or_distrib_left))

-- ---- the train with a number, looked for

-- a train with that number is on the board, and it is t
pub record There (b : Board) (n : TrainNo) (t : Train) : Type 0 where
  pub on : on_board b n ≡ true
  pub is : train b n ≡ t

module _ (b : Board) (n : TrainNo) {f : Option Train} (looked : f ≡ find (is_train n) b.trains) where
  pub train_there : {t : Train} → f ≡ Some t → There b n t
  unfolding on_board train
  train_there is = let h = found_is (is_train n) no_train b.trains (sym looked ∙ is) in record { on = h.0; is = h.1 }

  pub train_missing : f ≡ None → on_board b n ≡ false
  unfolding on_board
  train_missing none = found_none (is_train n) b.trains (sym looked ∙ none)
