-- What a search answers, in the words of `any` and `first`: any that gives what it makes of the first element that
-- passes its test, and std's `find`. Assumes nothing.
use mathlib.Core.Path.{◌≡◌, refl, sym, ◌∙◌}
use mathlib.Core.Bool.{Bool, true, false, cond, ◌||◌, true≢false}
use mathlib.Core.List.{List, [], ◌∷◌}
use Rattle.std.specs.Prelude.{Option, Some, None, find, is_some}
use Rattle.std.specs.Option.{unwrap_or}
use Rattle.lists.specs.Search.{any, first}
use Rattle.lists.proofs.Tests.{or_no_l, or_no_r}

-- ---- a search

-- the answer on a list is `found` of the first that passes the test, and `none` where none passes
pub record Searches {A R : Type 0} (test : A → Bool) (found : A → R) (none : R) (answer : List A → R) : Type 0 where
  pub of_none : answer [] ≡ none
  pub of_one : (x : A) (xs : List A) → answer (x ∷ xs) ≡ cond (test x) (found x) (answer xs)

as_step : {A R : Type 0} (a b : Bool) (found : A → R) (none r : R) (x y : A) → r ≡ cond b (found y) none
    → cond a (found x) r ≡ cond (a || b) (found (cond a x y)) none
as_step true b found none r x y e = refl
as_step false b found none r x y e = e

-- in the words of `any` and `first`
pub search_as : {A R : Type 0} {test : A → Bool} {found : A → R} {none : R} {answer : List A → R}
    → Searches test found none answer
    → (d : A) (l : List A) → answer l ≡ cond (any test l) (found (first test d l)) none
unfolding first
search_as s d [] = s.of_none
search_as {test = test} {found = found} {none = none} {answer = answer} s d (x ∷ xs) =
    s.of_one x xs ∙ as_step (test x) (any test xs) found none (answer xs) x (first test d xs) (search_as s d xs)

-- a test that tells `found` from `none` is true of the answer where any passes
pub search_any : {A R : Type 0} {test : A → Bool} {found : A → R} {none : R} {answer : List A → R}
    → Searches test found none answer → (told : R → Bool) → told none ≡ false → ((x : A) → told (found x) ≡ true)
    → (d : A) (l : List A) → told (answer l) ≡ any test l
search_any {test = test} {found = found} {none = none} s told no_one one d l = rw (search_as s d l) (go (any test l))
  where
    go : (t : Bool) → told (cond t (found (first test d l)) none) ≡ t
    go true = one (first test d l)
    go false = no_one

-- `found` and `none` are told apart, and `found` tells its element
pub record Tells {A R : Type 0} (found : A → R) (none : R) : Type 0 where
  pub apart : (x : A) → found x ≡ none → true ≡ false
  pub same : (x y : A) → found x ≡ found y → x ≡ y

-- then an answer that is `found a` says that some element passes, and a is the first; `none` says that none passes
module _ {A R : Type 0} {test : A → Bool} {found : A → R} {none : R} {answer : List A → R}
    (s : Searches test found none answer) (k : Tells found none) (d : A) (l : List A) where
  pub search_is : {a : A} → answer l ≡ found a → (any test l ≡ true) × (first test d l ≡ a)
  search_is {a} e = go (any test l) (sym (search_as s d l) ∙ e)
    where
      go : (t : Bool) → cond t (found (first test d l)) none ≡ found a → (t ≡ true) × (first test d l ≡ a)
      go true i = (refl, k.same (first test d l) a i)
      go false i = absurd (true≢false (k.apart a (sym i)))

  pub search_none : answer l ≡ none → any test l ≡ false
  search_none e = go (any test l) (sym (search_as s d l) ∙ e)
    where
      go : (t : Bool) → cond t (found (first test d l)) none ≡ none → t ≡ false
      go true i = k.apart (first test d l) i
      go false i = refl

-- ---- std's `find`

pub some_tells : {A : Type 0} → Tells {A = A} Some None
some_tells = record { apart = λ x e. cc; same = λ x y e. cc }

module _ {A : Type 0} (test : A → Bool) where
  pub find_searches : Searches test Some None (find test)
  find_searches = record { of_none = refl; of_one = λ x xs. refl }

  -- it finds a: some element passes, and a is the first that does
  pub found_is : (d : A) (l : List A) {a : A} → find test l ≡ Some a → (any test l ≡ true) × (first test d l ≡ a)
  found_is d l = search_is find_searches some_tells d l

  -- it finds none: no element passes
  pub found_none : (l : List A) → find test l ≡ None → any test l ≡ false
  found_none [] e = refl
  found_none (x ∷ xs) e = search_none find_searches some_tells x (x ∷ xs) e

  -- no element passes: it finds none
  pub finds_none : (l : List A) → any test l ≡ false → None ≡ find test l
  finds_none [] e = refl
  finds_none (x ∷ xs) e =
      rw (or_no_l (test x) (any test xs) e) (finds_none xs (or_no_r (test x) (any test xs) e))

  -- it finds one just where some element passes
  pub found_any : (l : List A) → is_some (find test l) ≡ any test l
  found_any [] = refl
  found_any (x ∷ xs) = search_any find_searches is_some refl (λ x. refl) x (x ∷ xs)

  -- the first that passes, or d, is what is found, or d
  first_step : (d x f : A) (t : Bool) (o : Option A) → f ≡ unwrap_or o d → cond t x f ≡ unwrap_or (cond t (Some x) o) d
  first_step d x f true o e = refl
  first_step d x f false o e = e

  pub first-find : (d : A) (l : List A) → first test d l ≡ unwrap_or (find test l) d
  unfolding first
  first-find d [] = refl
  first-find d (x ∷ xs) = first_step d x (first test d xs) (test x) (find test xs) (first-find d xs)
