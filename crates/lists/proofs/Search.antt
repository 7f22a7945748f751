-- Laws of the searches and changes of specs/Search.antt: by membership, and for two lists one behind the other. Assumes
-- nothing.
use Prim.Native.Nat.{ℕ, zero, suc, ◌≤◌, ◌<◌}
use native.Mathlib.Nat.{eq-or-lt_of_le, le_of_suc-le-suc}
use native.Mathlib.Omega.{arith}
use native.Mathlib.Decide.{ℕ_discrete}
use mathlib.Core.Path.{◌≡◌, refl, sym, ap, subst, ◌∙◌}
use mathlib.Core.Logic.{◌⊎◌, inl, inr, ⊎_elim}
use mathlib.Core.Bool.{Bool, true, false, cond, ◌||◌, false≢true, or_assoc}
use mathlib.Core.List.Memᴰ
use mathlib.Core.List.{List, [], ◌∷◌, ◌++◌, Memᴰ}
use lib.ListN.{length, get_or, take, set}
use Rattle.lists.specs.Search.{any, first, last, keep, change, change_first, below}
use Rattle.std.proofs.lemmas.Bool.{cond_both, or_from}
use Rattle.lists.proofs.Tests.{truth, clash, or_no_l, or_no_r}

-- two tests on an element, or on those behind it, in either order
or_each : (a b c d : Bool) → ((a || c) || (b || d)) ≡ ((a || b) || (c || d))
or_each true b c d = refl
or_each false b false d = refl
or_each false true true d = refl
or_each false false true d = refl

module _ {A : Type 0} where
  abbrev pub Member : A → List A → Type 0
  Member x xs = Memᴰ x xs

  -- ---- some element passes

  pub any_no : (test : A → Bool) (xs : List A) → any test xs ≡ false → (x : A) → Member x xs → test x ≡ false
  any_no test [] h x m = elim m [ ]
  any_no test (y ∷ ys) h x (Memᴰ.head e) = ap test e ∙ or_no_l (test y) (any test ys) h
  any_no test (y ∷ ys) h x (Memᴰ.tail m) = any_no test ys (or_no_r (test y) (any test ys) h) x m

  pub any_yes : (test : A → Bool) (xs : List A) (x : A) → Member x xs → test x ≡ true → any test xs ≡ true
  any_yes test xs x m h = ⊎_elim (λ e. e) (λ e. clash h (any_no test xs e x m)) (truth (any test xs))

  pub any_none : (test : A → Bool) (xs : List A) → ((x : A) → Member x xs → test x ≡ false) → any test xs ≡ false
  any_none test [] h = refl
  any_none test (x ∷ xs) h =
      or_from (test x) (any test xs) (h x (Memᴰ.head refl)) (any_none test xs (λ y m. h y (Memᴰ.tail m)))

  pub any_append : (test : A → Bool) (xs ys : List A) → any test (xs ++ ys) ≡ (any test xs || any test ys)
  any_append test [] ys = refl
  any_append test (x ∷ xs) ys =
      ap (λ (b : Bool). test x || b) (any_append test xs ys) ∙ sym (or_assoc (test x) (any test xs) (any test ys))

  -- an element passes one of two tests where one passes the test that is either of them
  pub any_or : (f g test : A → Bool) (xs : List A) → ((x : A) → (f x || g x) ≡ test x)
      → (any f xs || any g xs) ≡ any test xs
  any_or f g test [] e = refl
  any_or f g test (x ∷ xs) e = or_each (f x) (g x) (any f xs) (any g xs) ∙ rw (e x, any_or f g test xs e)

  -- ---- the first that passes

  -- an element of the list that passes the test
  pub record Passes (test : A → Bool) (xs : List A) (x : A) : Type 0 where
    pub member : Member x xs
    pub passes : test x ≡ true

  first_step : (test : A → Bool) (d y : A) (ys : List A) → (any test ys ≡ true → Passes test ys (first test d ys))
      → (t : Bool) → test y ≡ t → (t || any test ys) ≡ true → Passes test (y ∷ ys) (cond t y (first test d ys))
  first_step test d y ys ih true e h = record { member = Memᴰ.head refl; passes = e }
  first_step test d y ys ih false e h = record { member = Memᴰ.tail (ih h).member; passes = (ih h).passes }

  pub first_found : (test : A → Bool) (d : A) (xs : List A) → any test xs ≡ true → Passes test xs (first test d xs)
  unfolding first
  first_found test d [] h = absurd (false≢true h)
  first_found test d (y ∷ ys) h = first_step test d y ys (first_found test d ys) (test y) refl h

  none_step : (d y z : A) (t b : Bool) → (t || b) ≡ false → (b ≡ false → z ≡ d) → cond t y z ≡ d
  none_step d y z true b h ih = clash refl h
  none_step d y z false b h ih = ih h

  pub first_none : (test : A → Bool) (d : A) (xs : List A) → any test xs ≡ false → first test d xs ≡ d
  unfolding first
  first_none test d [] h = refl
  first_none test d (y ∷ ys) h = none_step d y (first test d ys) (test y) (any test ys) h (first_none test d ys)

  -- ---- the last that passes

  pub last_none : (test : A → Bool) (d : A) (xs : List A) → any test xs ≡ false → last test d xs ≡ d
  unfolding last
  last_none test d [] h = refl
  last_none test d (y ∷ ys) h =
      rw (or_no_l (test y) (any test ys) h) (last_none test d ys (or_no_r (test y) (any test ys) h))

  -- ---- those that pass

  kept_step : (test : A → Bool) (x y : A) (ys : List A) → (Member x (keep test ys) → Passes test ys x)
      → (t : Bool) → test y ≡ t
      → Member x (cond t (y ∷ keep test ys) (keep test ys)) → Passes test (y ∷ ys) x
  kept_step test x y ys ih true e m =
      ⊎_elim (λ q. record { member = Memᴰ.head q; passes = ap test q ∙ e })
      (λ k. record { member = Memᴰ.tail (ih k).member; passes = (ih k).passes }) (Memᴰ.cases_cons m)
  kept_step test x y ys ih false e m = record { member = Memᴰ.tail (ih m).member; passes = (ih m).passes }

  -- what is kept was there and passes
  pub kept : (test : A → Bool) (xs : List A) (x : A) → Member x (keep test xs) → Passes test xs x
  kept test [] x m = elim m [ ]
  kept test (y ∷ ys) x m = kept_step test x y ys (kept test ys x) (test y) refl m

  keeps_step : (test : A → Bool) (x y : A) (ys : List A) → (Member x ys → Member x (keep test ys)) → test x ≡ true
      → (t : Bool) → test y ≡ t
      → (x ≡ y) ⊎ Member x ys → Member x (cond t (y ∷ keep test ys) (keep test ys))
  keeps_step test x y ys ih h true e (inl q) = Memᴰ.head q
  keeps_step test x y ys ih h true e (inr m) = Memᴰ.tail (ih m)
  keeps_step test x y ys ih h false e (inl q) = clash h (ap test q ∙ e)
  keeps_step test x y ys ih h false e (inr m) = ih m

  -- what was there and passes is kept
  pub keeps : (test : A → Bool) (xs : List A) (x : A) → test x ≡ true → Member x xs → Member x (keep test xs)
  keeps test [] x h m = elim m [ ]
  keeps test (y ∷ ys) x h m = keeps_step test x y ys (keeps test ys x h) h (test y) refl (Memᴰ.cases_cons m)

  length_step : (t : Bool) (x : A) (xs : List A) (n : ℕ) → length xs ≤ n → length (cond t (x ∷ xs) xs) ≤ suc n
  length_step true x xs n h = omega arith
  length_step false x xs n h = omega arith

  any_keep_step : (has test : A → Bool) (x : A) (xs : List A) → (test x ≡ false → has x ≡ false) → (t : Bool)
      → test x ≡ t
      → any has (cond t (x ∷ keep test xs) (keep test xs)) ≡ (has x || any has (keep test xs))
  any_keep_step has test x xs h true e = refl
  any_keep_step has test x xs h false e = sym (ap (λ (b : Bool). b || any has (keep test xs)) (h e))

  -- where what is left out fails another test, some element passes that one as before
  pub any_keep : (has test : A → Bool) (xs : List A) → ((x : A) → Member x xs → test x ≡ false → has x ≡ false)
      → any has (keep test xs) ≡ any has xs
  any_keep has test [] h = refl
  any_keep has test (x ∷ xs) h =
      any_keep_step has test x xs (h x (Memᴰ.head refl)) (test x) refl
      ∙ ap (λ (b : Bool). has x || b) (any_keep has test xs (λ y m. h y (Memᴰ.tail m)))

  pub length-keep : (test : A → Bool) (xs : List A) → length (keep test xs) ≤ length xs
  length-keep test [] = omega arith
  length-keep test (x ∷ xs) = length_step (test x) x (keep test xs) (length xs) (length-keep test xs)

  -- ---- each that passes, changed

  -- what becomes of one element
  abbrev pub changed : (A → Bool) → (A → A) → A → A
  changed test f x = cond (test x) (f x) x

  -- what stands in the changed list came of an element that was there
  pub changes_from : (test : A → Bool) (f : A → A) (xs : List A) (y : A) → Member y (change test f xs)
      → (x : A) × Member x xs × (y ≡ changed test f x)
  unfolding change
  changes_from test f [] y m = elim m [ ]
  changes_from test f (x ∷ xs) y m =
      ⊎_elim (λ q. (x, Memᴰ.head refl, q))
      (λ k. let (o, mo, e) = changes_from test f xs y k in (o, Memᴰ.tail mo, e))
      (Memᴰ.cases_cons m)

  pub changes_to : (test : A → Bool) (f : A → A) (xs : List A) (x : A) → Member x xs
      → Member (changed test f x) (change test f xs)
  unfolding change
  changes_to test f [] x m = elim m [ ]
  changes_to test f (y ∷ ys) x (Memᴰ.head e) = Memᴰ.head (ap (changed test f) e)
  changes_to test f (y ∷ ys) x (Memᴰ.tail m) = Memᴰ.tail (changes_to test f ys x m)

  each_step : (P : A → Type 0) (f : A → A) (x : A) (t : Bool) → (t ≡ false → P x) → (t ≡ true → P (f x))
      → P (cond t (f x) x)
  each_step P f x true old new = new refl
  each_step P f x false old new = old refl

  -- what holds of each element that the test leaves, and of f of each that passes it, holds of each element of the
  -- changed list
  pub change_each : (P : A → Type 0) (test : A → Bool) (f : A → A) (xs : List A)
      → ((x : A) → Member x xs → test x ≡ false → P x) → ((x : A) → Member x xs → test x ≡ true → P (f x))
      → (y : A) → Member y (change test f xs) → P y
  change_each P test f xs old new y m =
      let (x, mx, e) = changes_from test f xs y m in
      subst P (sym e) (each_step P f x (test x) (old x mx) (new x mx))

  pub change_append : (test : A → Bool) (f : A → A) (xs ys : List A)
      → change test f (xs ++ ys) ≡ change test f xs ++ change test f ys
  unfolding change
  change_append test f [] ys = refl
  change_append test f (x ∷ xs) ys = ap (λ (l : List A). changed test f x ∷ l) (change_append test f xs ys)

  -- where f keeps another test of what it changes, some element passes that one as before
  pub any_change : (has test : A → Bool) (f : A → A) (xs : List A)
      → ((x : A) → Member x xs → test x ≡ true → has (f x) ≡ has x)
      → any has (change test f xs) ≡ any has xs
  unfolding change
  any_change has test f [] same = refl
  any_change has test f (x ∷ xs) same =
      ap (λ (b : Bool). b || any has (change test f xs))
      (cond_both (test x) (f x) x (λ y. has y ≡ has x) (same x (Memᴰ.head refl)) (λ e. refl))
      ∙ ap (λ (b : Bool). has x || b) (any_change has test f xs (λ y m. same y (Memᴰ.tail m)))

  pub length-change : (test : A → Bool) (f : A → A) (xs : List A) → length (change test f xs) ≡ length xs
  unfolding change
  length-change test f [] = refl
  length-change test f (x ∷ xs) = ap suc (length-change test f xs)

  -- where none passes
  pub change_none : (test : A → Bool) (f : A → A) (xs : List A) → any test xs ≡ false → change test f xs ≡ xs
  unfolding change
  change_none test f [] h = refl
  change_none test f (x ∷ xs) h =
      rw (or_no_l (test x) (any test xs) h, change_none test f xs (or_no_r (test x) (any test xs) h))

  -- ---- the first that passes, changed

  pub change_first_none : (test : A → Bool) (f : A → A) (xs : List A) → any test xs ≡ false
      → change_first test f xs ≡ xs
  unfolding change_first
  change_first_none test f [] h = refl
  change_first_none test f (x ∷ xs) h =
      rw (or_no_l (test x) (any test xs) h, change_first_none test f xs (or_no_r (test x) (any test xs) h))

  -- by its place: none before it passes
  pub change_first_at : (test : A → Bool) (f : A → A) (d : A) (xs : List A) (i : ℕ) → i < length xs
      → any test (take i xs) ≡ false → test (get_or xs i d) ≡ true
      → change_first test f xs ≡ set xs i (f (get_or xs i d))
  unfolding change_first
  change_first_at test f d [] i l before h = absurd (omega arith)
  change_first_at test f d (x ∷ xs) zero l before h = rw h refl
  change_first_at test f d (x ∷ xs) (suc i) l before h =
      rw (or_no_l (test x) (any test (take i xs)) before)
      (ap (λ (ys : List A). x ∷ ys)
      (change_first_at test f d xs i (omega arith) (or_no_r (test x) (any test (take i xs)) before) h))

-- ---- every element, by its place

pub member_at : {A : Type 0} (d : A) (xs : List A) (i : ℕ) → i < length xs → Member (get_or xs i d) xs
member_at d [] i l = absurd (omega arith)
member_at d (x ∷ xs) zero l = Memᴰ.head refl
member_at d (x ∷ xs) (suc i) l = Memᴰ.tail (member_at d xs i (omega arith))

module _ {A : Type 0} (P : A → Type 0) where
  -- P holds of each element
  abbrev pub Each : List A → Type 0
  Each [] = Unit {0}
  Each (x ∷ xs) = P x × Each xs

  pub each_at : (d : A) (xs : List A) → Each xs → (n : ℕ) → n < length xs → P (get_or xs n d)
  each_at d [] h n l = absurd (omega arith)
  each_at d (x ∷ xs) h zero l = h.0
  each_at d (x ∷ xs) h (suc n) l = each_at d xs h.1 n (omega arith)

-- ---- the numbers below n

below_step : (n k : ℕ) → k < suc n → (k < n → Member k (below n)) → Dec (k ≡ n) → Member k (n ∷ below n)
below_step n k h ih (yes e) = Memᴰ.head e
below_step n k h ih (no e) = Memᴰ.tail (ih (omega arith))

pub below_has : (n k : ℕ) → k < n → Member k (below n)
unfolding below
below_has zero k h = absurd (omega arith)
below_has (suc n) k h = below_step n k h (below_has n k) (ℕ_discrete k n)

pub has_below : (n k : ℕ) → Member k (below n) → k < n
unfolding below
has_below zero k m = elim m [ ]
has_below (suc n) k m = ⊎_elim (λ e. omega arith) (λ t. omega (arith, has_below n k t)) (Memᴰ.cases_cons m)

-- none below n passes, and each fails; some number below n passes, and there is one
pub none_below : (n : ℕ) (test : ℕ → Bool) → any test (below n) ≡ false → (p : ℕ) → p < n → test p ≡ false
none_below n test e p l = any_no test (below n) e p (below_has n p l)

pub below_none : (n : ℕ) (test : ℕ → Bool) → ((p : ℕ) → p < n → test p ≡ false) → any test (below n) ≡ false
below_none n test h = any_none test (below n) (λ p m. h p (has_below n p m))

pub some_below : (n : ℕ) (test : ℕ → Bool) → any test (below n) ≡ true → (p : ℕ) × (p < n) × (test p ≡ true)
some_below n test e =
    let f = first_found test 0 (below n) e in
    (first test 0 (below n), has_below n (first test 0 (below n)) f.member, f.passes)

pub below_some : (n : ℕ) (test : ℕ → Bool) (p : ℕ) → p < n → test p ≡ true → any test (below n) ≡ true
below_some n test p l h = any_yes test (below n) p (below_has n p l) h

-- they stand from the greatest on: the first that passes is p where p does and none above it
pub first_below : (n d : ℕ) (test : ℕ → Bool) (p : ℕ) → p < n → test p ≡ true
    → ((q : ℕ) → p < q → q < n → test q ≡ false)
    → first test d (below n) ≡ p
unfolding first below
first_below zero d test p l h none = absurd (omega arith)
first_below (suc n) d test p l h none =
    ⊎_elim (λ (e : p ≡ n). rw (← e, h))
    (λ (g : p < n). rw (none n g (omega arith)) (first_below n d test p g h (λ q a b. none q a (omega arith))))
    (eq-or-lt_of_le (le_of_suc-le-suc l))

-- and the last that passes is p where p does and none below it
pub last-below : (n d : ℕ) (test : ℕ → Bool) (p : ℕ) → p < n → test p ≡ true → ((q : ℕ) → q < p → test q ≡ false)
    → last test d (below n) ≡ p
unfolding last below
last-below zero d test p l h none = absurd (omega arith)
last-below (suc n) d test p l h none =
    ⊎_elim (λ (e : p ≡ n). rw (← e, h) (last_none test p (below p) (below_none p test none)))
    (λ (g : p < n). last-below n (cond (test n) n d) test p g h none) (eq-or-lt_of_le (le_of_suc-le-suc l))

-- neither is above m, where no number below n is and what stands for none is not
pub first-most : (n d m : ℕ) (test : ℕ → Bool) → n ≤ m → d ≤ m → first test d (below n) ≤ m
unfolding first below
first-most zero d m test l h = h
first-most (suc n) d m test l h =
    cond_both (test n) n _ (λ x. x ≤ m) (λ e. omega arith) (λ e. first-most n d m test (omega arith) h)

pub last_most : (n d m : ℕ) (test : ℕ → Bool) → n ≤ m → d ≤ m → last test d (below n) ≤ m
unfolding last below
last_most zero d m test l h = h
last_most (suc n) d m test l h =
    last_most n (cond (test n) n d) m test (omega arith)
    (cond_both (test n) n d (λ x. x ≤ m) (λ e. omega arith) (λ e. h))
