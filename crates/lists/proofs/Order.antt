-- Elements held by ascending number: what keeps them so, and what it tells; and who stands where one has been inserted.
-- Assumes nothing.
use Prim.Native.Nat.{ℕ, zero, suc, ◌<◌}
use native.Mathlib.Omega.{arith}
use mathlib.Core.Path.{◌≡◌, refl, ap}
use mathlib.Core.Logic.{◌⊎◌, inl, inr, ⊎_elim}
use mathlib.Core.Bool.{Bool, true, false, cond, ◌||◌}
use mathlib.Core.List.Memᴰ
use mathlib.Core.List.{List, [], ◌∷◌, ◌++◌}
use lib.ListN.{length, get_or}
use lib.Dec.{ltb}
use borrow.Author.Tests.{eqb-false, ne_eqb, ltb-true, ltb-false}
use Rattle.lists.specs.Search.{any, keep, change}
use Rattle.lists.specs.Distinct.{numbered, Distinct}
use Rattle.lists.specs.Order.{Ascending, insert_by}
use Rattle.lists.proofs.Tests.{clash, or_no_l, or_no_r}
use Rattle.lists.proofs.Search.{Member, any_none, member_at, kept, changes_from}
use Rattle.lists.proofs.Distinct.{Free, changed-number}

module _ {A : Type 0} (number : A → ℕ) where
  -- every element has a number above n
  abbrev pub Above : ℕ → List A → Type 0
  Above n xs = (y : A) → Member y xs → n < number y

  -- ---- what ascending numbers tell: no two are the same

  pub ascending_distinct : (xs : List A) → Ascending number xs → Distinct number xs
  unfolding Ascending Distinct
  ascending_distinct [] u = tt
  ascending_distinct (x ∷ xs) u = (
    any_none (numbered number (number x)) xs (λ y m. ne_eqb (number y) (number x) (λ e. omega (arith, u.0 y m))),
    ascending_distinct xs u.1,
  )

  -- and of two places the first has the lower number
  pub ascending_at : (d : A) (xs : List A) → Ascending number xs → (i j : ℕ) → i < j → j < length xs
      → number (get_or xs i d) < number (get_or xs j d)
  unfolding Ascending
  ascending_at d [] u i j l k = absurd (omega arith)
  ascending_at d (x ∷ xs) u i zero l k = absurd (omega arith)
  ascending_at d (x ∷ xs) u zero (suc j) l k = u.0 (get_or xs j d) (member_at d xs j (omega arith))
  ascending_at d (x ∷ xs) u (suc i) (suc j) l k = ascending_at d xs u.1 i j (omega arith) (omega arith)

  -- ---- what keeps the numbers ascending

  -- one with a number above all others, put at the end
  pub ascending_append : (xs : List A) (x : A) → Ascending number xs → ((y : A) → Member y xs → number y < number x)
      → Ascending number (xs ++ (x ∷ []))
  unfolding Ascending
  ascending_append [] x u h = (λ y m. elim m [ ], tt)
  ascending_append (z ∷ zs) x u h = (
    λ y m.
        ⊎_elim (λ k. u.0 y k) (λ e. omega (arith, ap number (Memᴰ.eq_of_singleton e), h z (Memᴰ.head refl)))
        (Memᴰ.append_cases zs m),
    ascending_append zs x u.1 (λ y m. h y (Memᴰ.tail m)),
  )

  keep_step : (test : A → Bool) (x : A) (xs : List A) (t : Bool) → Above (number x) xs → Ascending number (keep test xs)
      → Ascending number (cond t (x ∷ keep test xs) (keep test xs))
  unfolding Ascending
  keep_step test x xs true h u = (λ y m. h y (kept test xs y m).member, u)
  keep_step test x xs false h u = u

  -- some of them
  pub ascending_keep : (test : A → Bool) (xs : List A) → Ascending number xs → Ascending number (keep test xs)
  unfolding Ascending
  ascending_keep test [] u = tt
  ascending_keep test (x ∷ xs) u = keep_step test x xs (test x) u.0 (ascending_keep test xs u.1)

  -- a change that keeps each number
  pub ascending_change : (test : A → Bool) (f : A → A) → ((x : A) → number (f x) ≡ number x)
      → (xs : List A) → Ascending number xs
      → Ascending number (change test f xs)
  unfolding Ascending change
  ascending_change test f same [] u = tt
  ascending_change test f same (x ∷ xs) u = (
    λ y m.
        let (z, mz, e) = changes_from test f xs y m in
        omega (arith, changed-number number test f same x, ap number e, changed-number number test f same z, u.0 z mz),
    ascending_change test f same xs u.1,
  )

  -- ---- one more, inserted

  module _ (x : A) where
    -- a number above that of x
    abbrev pub higher : A → Bool
    higher y = ltb (number x) (number y)

    from_step : (y z : A) (zs : List A) (t : Bool) → (Member y (insert_by number x zs) → (y ≡ x) ⊎ Member y zs)
        → Member y (cond t (x ∷ z ∷ zs) (z ∷ insert_by number x zs)) → (y ≡ x) ⊎ Member y (z ∷ zs)
    from_step y z zs true ih m = Memᴰ.cases_cons m
    from_step y z zs false ih m =
        ⊎_elim (λ e. inr (Memᴰ.head e)) (λ k. ⊎_elim (λ e. inl e) (λ l. inr (Memᴰ.tail l)) (ih k)) (Memᴰ.cases_cons m)

    -- what stands in the list then is x, or was there
    pub inserted_from : (xs : List A) (y : A) → Member y (insert_by number x xs) → (y ≡ x) ⊎ Member y xs
    unfolding insert_by
    inserted_from [] y m = inl (Memᴰ.eq_of_singleton m)
    inserted_from (z ∷ zs) y m = from_step y z zs (higher z) (inserted_from zs y) m

    into_step : (y z : A) (zs : List A) (t : Bool) → ((y ≡ x) ⊎ Member y zs → Member y (insert_by number x zs))
        → (y ≡ x) ⊎ ((y ≡ z) ⊎ Member y zs) → Member y (cond t (x ∷ z ∷ zs) (z ∷ insert_by number x zs))
    into_step y z zs true ih (inl e) = Memᴰ.head e
    into_step y z zs true ih (inr (inl e)) = Memᴰ.tail (Memᴰ.head e)
    into_step y z zs true ih (inr (inr m)) = Memᴰ.tail (Memᴰ.tail m)
    into_step y z zs false ih (inl e) = Memᴰ.tail (ih (inl e))
    into_step y z zs false ih (inr (inl e)) = Memᴰ.head e
    into_step y z zs false ih (inr (inr m)) = Memᴰ.tail (ih (inr m))

    -- x and each that was there stand in it
    pub inserted_into : (xs : List A) (y : A) → (y ≡ x) ⊎ Member y xs → Member y (insert_by number x xs)
    unfolding insert_by
    inserted_into [] y (inl e) = Memᴰ.head e
    inserted_into [] y (inr m) = elim m [ ]
    inserted_into (z ∷ zs) y (inl e) = into_step y z zs (higher z) (inserted_into zs y) (inl e)
    inserted_into (z ∷ zs) y (inr m) = into_step y z zs (higher z) (inserted_into zs y) (inr (Memᴰ.cases_cons m))

    length_step : (z : A) (zs : List A) (t : Bool) → length (insert_by number x zs) ≡ suc (length zs)
        → length (cond t (x ∷ z ∷ zs) (z ∷ insert_by number x zs)) ≡ suc (suc (length zs))
    length_step z zs true ih = refl
    length_step z zs false ih = ap suc ih

    pub length_insert : (xs : List A) → length (insert_by number x xs) ≡ suc (length xs)
    unfolding insert_by
    length_insert [] = refl
    length_insert (z ∷ zs) = length_step z zs (higher z) (length_insert zs)

    insert_step : (z : A) (zs : List A) (t : Bool) → higher z ≡ t → (number z ≡ number x → ⊥) → Above (number z) zs
        → Ascending number zs
        → Ascending number (insert_by number x zs) → Ascending number (cond t (x ∷ z ∷ zs) (z ∷ insert_by number x zs))
    unfolding Ascending
    insert_step z zs true e ne h u ih =
        let low : number x < number z = ltb-true (number x) (number z) e in
        (λ y m. ⊎_elim (λ q. omega (arith, ap number q)) (λ k. omega (arith, h y k)) (Memᴰ.cases_cons m), (h, u))
    insert_step z zs false e ne h u ih =
        let low : number z < number x = omega (arith, ltb-false (number x) (number z) e, ne) in
        (λ y m. ⊎_elim (λ q. omega (arith, ap number q)) (λ k. h y k) (inserted_from zs y m), ih)

    -- one with a free number, put in its place
    pub ascending_insert : (xs : List A) → Ascending number xs → Free number (number x) xs
        → Ascending number (insert_by number x xs)
    unfolding Ascending insert_by
    ascending_insert [] u free = (λ y m. elim m [ ], tt)
    ascending_insert (z ∷ zs) u free =
        insert_step z zs (higher z) refl
        (eqb-false (number z) (number x)
        (or_no_l (numbered number (number x) z) (any (numbered number (number x)) zs) free))
        u.0 u.1
        (ascending_insert zs u.1 (or_no_r (numbered number (number x) z) (any (numbered number (number x)) zs) free))

    -- ---- its place, looked for from the front

    behind_step : (y z : A) (zs : List A) (t : Bool)
        → (t ≡ false → insert_by number x (zs ++ (y ∷ [])) ≡ insert_by number x zs ++ (y ∷ []))
        → cond t (x ∷ z ∷ (zs ++ (y ∷ []))) (z ∷ insert_by number x (zs ++ (y ∷ [])))
        ≡ (cond t (x ∷ z ∷ zs) (z ∷ insert_by number x zs)) ++ (y ∷ [])
    behind_step y z zs true ih = refl
    behind_step y z zs false ih = ap (λ (l : List A). z ∷ l) (ih refl)

    -- where y or one before it has a higher number, y stays the last
    pub insert_behind : (xs : List A) (y : A) → any higher (xs ++ (y ∷ [])) ≡ true
        → insert_by number x (xs ++ (y ∷ [])) ≡ insert_by number x xs ++ (y ∷ [])
    unfolding insert_by
    insert_behind [] y h = first (higher y) h
      where
        first : (t : Bool) → (t || false) ≡ true → cond t (x ∷ y ∷ []) (y ∷ x ∷ []) ≡ x ∷ y ∷ []
        first true e = refl
        first false e = clash e refl
    insert_behind (z ∷ zs) y h = behind_step y z zs (higher z) (λ e. insert_behind zs y (rw e at h))

    -- where none has, x is the last
    pub insert_last : (xs : List A) → any higher xs ≡ false → insert_by number x xs ≡ xs ++ (x ∷ [])
    unfolding insert_by
    insert_last [] h = refl
    insert_last (z ∷ zs) h =
        rw (or_no_l (higher z) (any higher zs) h)
        (ap (λ (l : List A). z ∷ l) (insert_last zs (or_no_r (higher z) (any higher zs) h)))
