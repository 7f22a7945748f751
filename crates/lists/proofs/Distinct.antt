-- Numbers of elements: free, kept by a change, taken; and what distinct numbers tell. Assumes nothing.
use Prim.Native.Nat.{ℕ}
use mathlib.Core.Path.{◌≡◌, refl, sym, ◌∙◌}
use mathlib.Core.Logic.{◌⊎◌, inl, inr, ⊎_elim}
use mathlib.Core.Bool.{Bool, true, false, cond}
use mathlib.Core.List.Memᴰ
use mathlib.Core.List.{List, [], ◌∷◌}
use borrow.Author.Tests.{eq-eqb}
use Rattle.lists.specs.Search.{any, keep, change, change_first}
use Rattle.lists.specs.Distinct.{numbered, Distinct}
use Rattle.lists.proofs.Tests.{truth, clash}
use Rattle.lists.proofs.Search.{Member, any_no, any_none, keeps, changes_to, changed, change_none}

module _ {A : Type 0} (number : A → ℕ) where
  -- no element has the number n
  abbrev pub Free : ℕ → List A → Type 0
  Free n xs = any (numbered number n) xs ≡ false

  -- ---- a change that keeps each number

  module _ (test : A → Bool) (f : A → A) (same : (x : A) → number (f x) ≡ number x) where
    same_step : (x : A) (t : Bool) → number (cond t (f x) x) ≡ number x
    same_step x true = same x
    same_step x false = refl

    pub changed-number : (x : A) → number (changed test f x) ≡ number x
    changed-number x = same_step x (test x)

  -- ---- a number that an element has

  abbrev pub Taken : List A → ℕ → Type 0
  Taken xs n = (x : A) × Member x xs × (number x ≡ n)

  -- it stays taken where each number is kept, and where only others are left out
  pub taken_change : (test : A → Bool) (f : A → A) → ((x : A) → number (f x) ≡ number x) → (xs : List A) (n : ℕ)
      → Taken xs n → Taken (change test f xs) n
  taken_change test f same xs n (x, m, e) =
      (changed test f x, changes_to test f xs x m, changed-number test f same x ∙ e)

  pub taken_keep : (test : A → Bool) (xs : List A) (n : ℕ) → ((x : A) → number x ≡ n → test x ≡ true) → Taken xs n
      → Taken (keep test xs) n
  taken_keep test xs n passes (x, m, e) = (x, keeps test xs x (passes x e) m, e)

  -- ---- what distinct numbers tell: two elements with one number are one element

  same_one : (xs : List A) (x y : A) → Free (number y) xs → Member x xs → number x ≡ number y → x ≡ y
  same_one xs x y h m e = clash (eq-eqb (number x) (number y) e) (any_no (numbered number (number y)) xs h x m)

  pick : (z : A) (zs : List A) → Free (number z) zs → (x y : A) → number x ≡ number y
      → (Member x zs → Member y zs → x ≡ y)
      → (x ≡ z) ⊎ Member x zs → (y ≡ z) ⊎ Member y zs → x ≡ y
  pick z zs h x y e ih (inl p) (inl q) = p ∙ sym q
  pick z zs h x y e ih (inl p) (inr q) = sym (same_one zs y x (rw p h) q (sym e))
  pick z zs h x y e ih (inr p) (inl q) = same_one zs x y (rw q h) p e
  pick z zs h x y e ih (inr p) (inr q) = ih p q

  pub one_of_number : (xs : List A) → Distinct number xs → (x y : A) → Member x xs → Member y xs → number x ≡ number y
      → x ≡ y
  unfolding Distinct
  one_of_number [] u x y m k e = elim m [ ]
  one_of_number (z ∷ zs) u x y m k e =
      pick z zs u.0 x y e (λ p q. one_of_number zs u.1 x y p q e) (Memᴰ.cases_cons m) (Memᴰ.cases_cons k)

  -- ---- and where a test passes only the elements with one number, the first that it passes is the only one

  module _ (test : A → Bool) (f : A → A) (n : ℕ) (only : (x : A) → test x ≡ true → number x ≡ n) where
    none_behind : (x : A) (xs : List A) → Free (number x) xs → test x ≡ true → any test xs ≡ false
    none_behind x xs h e =
        any_none test xs
        (λ y m. ⊎_elim (λ k. absurd (other y m (only y k ∙ sym (only x e)))) (λ k. k) (truth (test y)))
      where
        other : (y : A) → Member y xs → number y ≡ number x → ⊥
        other y m k = clash (eq-eqb (number y) (number x) k) (any_no (numbered number (number x)) xs h y m)

    stops_step : (x : A) (xs : List A) (t : Bool) → test x ≡ t → Free (number x) xs
        → change_first test f xs ≡ change test f xs
        → cond t (f x ∷ xs) (x ∷ change_first test f xs) ≡ cond t (f x) x ∷ change test f xs
    stops_step x xs true e h ih = rw (change_none test f xs (none_behind x xs h e)) refl
    stops_step x xs false e h ih = rw ih refl

    -- THEOREM: to change the first and stop is to change each
    pub change_first-change : (xs : List A) → Distinct number xs → change_first test f xs ≡ change test f xs
    unfolding Distinct change change_first
    change_first-change [] u = refl
    change_first-change (x ∷ xs) u = stops_step x xs (test x) refl u.0 (change_first-change xs u.1)
