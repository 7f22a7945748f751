-- Laws of two lists that a relation ties element by element. Assumes nothing.
use Rattle.std.proofs.Common.{◌≡◌, refl, inl, inr, Bool, true, false, cond, ℕ, zero, suc, ◌<◌, List, [], ◌∷◌, take}
use Rattle.std.proofs.Common.{drop, set, length, get_or, arith, subst, take_at, take_all, length-set, ◌≤◌, ◌∙◌, ap, sym}
use Rattle.std.specs.List.{refill}
use borrow.Author.Tests.{eqb-true}
use Rattle.lists.specs.Each.{EachGives, ChangesTo, ChangedWhere, FirstChanged}
use Rattle.lists.specs.Search.{any, change}
use Rattle.lists.specs.Distinct.{numbered, Distinct}
use Rattle.lists.proofs.Search.{Each, change_first_none, change_first_at}
use Rattle.lists.proofs.Distinct.{change_first-change}

module _ {A : Type 0} where
  step : (P : A → Bool → Type 0) (F : A → A → Type 0) (test : A → Bool) (f : A → A)
      → ((x : A) (b : Bool) → P x b → b ≡ test x)
      → ((x y : A) → F x y → y ≡ f x) → (x y : A) → ChangesTo P F x y → y ≡ cond (test x) (f x) x
  step P F test f tests gives x y (inl k) = rw (← tests x true k.0) (gives x y k.1)
  step P F test f tests gives x y (inr k) = rw (← tests x false k.0) k.1

  each_changed : (P : A → Bool → Type 0) (F : A → A → Type 0) (test : A → Bool) (f : A → A)
      → ((x : A) (b : Bool) → P x b → b ≡ test x)
      → ((x y : A) → F x y → y ≡ f x) → (xs ys : List A) → EachGives (ChangesTo P F) xs ys → ys ≡ change test f xs
  unfolding change
  each_changed P F test f tests gives [] [] e = refl
  each_changed P F test f tests gives [] (y ∷ ys) e = absurd e
  each_changed P F test f tests gives (x ∷ xs) [] e = absurd e
  each_changed P F test f tests gives (x ∷ xs) (y ∷ ys) e =
      rw (step P F test f tests gives x y e.0, each_changed P F test f tests gives xs ys e.1)

  -- where the test's answers and the changes are those of two functions, the list is the one that these change
  pub changed-where : {P : A → Bool → Type 0} {F : A → A → Type 0} {xs ys : List A} (test : A → Bool) (f : A → A)
      → ChangedWhere P F xs ys
      → ((x : A) (b : Bool) → P x b → b ≡ test x) → ((x y : A) → F x y → y ≡ f x) → ys ≡ change test f xs
  changed-where {P} {F} {xs} {ys} test f e tests gives = each_changed P F test f tests gives xs ys e.each

  -- a turn of the loop: the first i are changed, the others not yet
  pub each_turn : (R : A → A → Type 0) (i : ℕ) (xs ys : List A) (d v : A) → i < length ys → R (get_or ys i d) v
      → EachGives R (take i xs) (take i ys) → drop i ys ≡ drop i xs
      → EachGives R (take (suc i) xs) (take (suc i) (set ys i v)) × (drop (suc i) (set ys i v) ≡ drop (suc i) xs)
  each_turn R i xs [] d v l gives e rest = absurd (omega arith)
  each_turn R zero [] (y ∷ ys) d v l gives e rest = cc
  each_turn R zero (z ∷ xs) (y ∷ ys) d v l gives e rest =
      let same : y ≡ z = cc in
      let others : ys ≡ xs = cc in
      ((subst (λ (w : A). R w v) same gives, tt), others)
  each_turn R (suc i) [] (y ∷ ys) d v l gives e rest = absurd e
  each_turn R (suc i) (z ∷ xs) (y ∷ ys) d v l gives e rest =
      let later = each_turn R i xs ys d v (omega arith) gives e.1 rest in
      ((e.0, later.0), later.1)

  -- ---- the loop that changes the first and stops

  -- the answers false of the test, on each element
  none_pass : (P : A → Bool → Type 0) (test : A → Bool) → ((x : A) (b : Bool) → P x b → b ≡ test x) → (xs : List A)
      → Each (λ x. P x false) xs → any test xs ≡ false
  none_pass P test tests [] h = refl
  none_pass P test tests (x ∷ xs) h = rw (← tests x false h.0) (none_pass P test tests xs h.1)

  refilled : (xs ys : List A) → length ys ≡ length xs → refill (length xs) xs ys ≡ ys
  refilled xs ys e = take_at ys (drop (length ys) xs) (length xs) e

  -- the loop stops at place i, where nothing is changed yet
  pub first_at : (P : A → Bool → Type 0) (F : A → A → Type 0) (xs ys : List A) (i : ℕ) (d v : A) → i < length ys
      → (ys ≡ xs) × Each (λ x. P x false) (take i xs) → P (get_or ys i d) true → F (get_or ys i d) v
      → FirstChanged P F xs (refill (length xs) xs (set ys i v))
  first_at P F xs ys i d v l (same, before) passes gives = record {
    by =
        λ test f tests changes.
        rw same
        (refilled xs (set xs i v) (length-set xs i v)
        ∙ ap (set xs i) (changes (get_or xs i d) v (rw same at gives))
        ∙ sym (change_first_at test f d xs i (rw same at l) (none_pass P test tests (take i xs) before)
        (sym (tests (get_or xs i d) true (rw same at passes)))));
  }

  -- the loop ends, and none has passed
  pub first_nowhere : (P : A → Bool → Type 0) (F : A → A → Type 0) (xs ys : List A) (i : ℕ) → length ys ≤ i
      → (ys ≡ xs) × Each (λ x. P x false) (take i xs) → FirstChanged P F xs (refill (length xs) xs ys)
  first_nowhere P F xs ys i l (same, before) = record {
    by =
        λ test f tests changes.
        let all : Each (λ x. P x false) xs = rw (take_all i xs (rw same at l)) at before in
        rw same (refilled xs xs refl ∙ sym (change_first_none test f xs (none_pass P test tests xs all)));
  }

  -- where the test passes the elements with number n, and numbers are distinct, the list is the one with each of those
  -- changed
  pub changed-one : {P : A → Bool → Type 0} {F : A → A → Type 0} {xs ys : List A} (number : A → ℕ) (n : ℕ) (f : A → A)
      → FirstChanged P F xs ys → Distinct number xs → ((x : A) (b : Bool) → P x b → b ≡ numbered number n x)
      → ((x y : A) → F x y → y ≡ f x) → ys ≡ change (numbered number n) f xs
  changed-one {xs = xs} number n f e distinct tests gives =
      e.by (numbered number n) f tests gives
      ∙ change_first-change number (numbered number n) f n (λ x h. eqb-true (number x) n h) xs distinct
