-- The laws of sets of numbers below 64, by membership: what callers cite. Assumes nothing.
use mathlib.Core.Path.{◌≡◌, refl, sym, ap, ◌∙◌}
use mathlib.Core.Logic.{◌⊎◌, inl, inr, ⊎_elim}
use mathlib.Core.Bool.{Bool, true, false, cond, not, ◌&&◌, ◌||◌, and-true, and-false, or-false}
use mathlib.Core.List.{List, ◌∷◌}
use Prim.Native.Nat.{ℕ, zero, suc, ◌+◌, ◌*◌, ◌/◌, ◌%◌, ◌^◌, ◌≤◌, ◌<◌}
use native.Mathlib.Nat.{zero-add, one-mul, le_refl, le_of_suc-le-suc, not-suc-le-zero, pow-suc, eq-or-lt_of_le}
use native.Mathlib.Nat.{lt_of_lt_of_le, lt_of_le_of_lt}
use native.Mathlib.Nat.{mod-one, mod-lt, mod-eq_of_lt}
use native.Mathlib.Numerals.{add-one, one-add}
use native.Mathlib.Omega.{arith}
use borrow.Author.Tests.{leb-true, eqb-true, lt-ltb, le-ltb, le-leb, eq-eqb, ne_eqb, eqb-false}
use lib.Dec.{eqb, ltb, leb}
use lib.Pow.{pow_pos, pow_mono, mod-pow-add}
use lib.Bits.{bit_and, bit_or, or_shifted, and_le_l}
use lib.Count.{ones, ones_cat, ones-ones}
use lib.ListN.{length}
use Rattle.lists.specs.Search.{keep, below}
use Rattle.lists.proofs.Search.{none_below, below_none, some_below, below_some}
use Rattle.std.proofs.lemmas.Bool.{and_from, or_cases, not-true, not-false}
use Rattle.lists.proofs.Tests.{told, lt_or_le, truth, clash, same_test, and_l, and_r, and_no_r}
use Rattle.sets.specs.Sets.{has, set_of, between, run, is_or_in, insert, is_not_and_in, remove, in_both, shares}
use Rattle.sets.specs.Sets.{in_first_only, subset}
use Rattle.sets.specs.Sets.{in_either, union, difference, is_member, size}
use Rattle.sets.proofs.Bits.{digit, same_members, has_none, has_high, has_and, has_or, has_power}

-- ---- the set of the numbers below n that pass the test

next_lt : (b : Bool) (n set : ℕ) → set < 2 ^ n → cond b (2 ^ n) 0 + set < 2 ^ suc n
next_lt true n set h = omega (arith, pow-suc 2 n)
next_lt false n set h = omega (arith, pow-suc 2 n)

-- it is a set of numbers below n
pub set_of_lt : (n : ℕ) (test : ℕ → Bool) → set_of n test < 2 ^ n
unfolding set_of
set_of_lt zero test = pow_pos 0
set_of_lt (suc n) test = next_lt (test n) n (set_of n test) (set_of_lt n test)

add_next : (b : Bool) (n set p : ℕ) → set < 2 ^ n → has p (cond b (2 ^ n) 0 + set) ≡ (eqb p n && b) || has p set
add_next true n set p h =
    let whole : bit_or (1 * 2 ^ n) set ≡ 2 ^ n + set = or_shifted 1 n set h ∙ rw one-mul in
    rw (← whole, has_or, has_power, and-true)
add_next false n set p h = rw (zero-add, and-false)

-- one number more: n is a member where it passes, and the others stay
has_next : (n : ℕ) (test : ℕ → Bool) (p : ℕ)
    → has p (set_of (suc n) test) ≡ (eqb p n && test n) || has p (set_of n test)
unfolding set_of
has_next n test p = add_next (test n) n (set_of n test) p (set_of_lt n test)

-- a number below n is a member where it passes
pub in_set_of : (n : ℕ) (test : ℕ → Bool) (p : ℕ) → p < n → has p (set_of n test) ≡ test p
in_set_of zero test p l = absurd (not-suc-le-zero l)
in_set_of (suc n) test p l =
    has_next n test p
    ∙ ⊎_elim (λ (e : p ≡ n). rw (e, eq-eqb n n refl, has_high n n _ (set_of_lt n test) (le_refl n), or-false))
    (λ (g : p < n). rw (ne_eqb p n (λ e. omega arith)) (in_set_of n test p g)) (eq-or-lt_of_le (le_of_suc-le-suc l))

-- its members are the numbers below n that pass
pub has-set_of : (n : ℕ) (test : ℕ → Bool) (p : ℕ) → has p (set_of n test) ≡ ltb p n && test p
has-set_of n test p =
    ⊎_elim (λ (l : p < n). in_set_of n test p l ∙ rw lt-ltb)
    (λ (l : n ≤ p). has_high n p _ (set_of_lt n test) l ∙ rw le-ltb) (lt_or_le p n)

-- a set of numbers below n that has each where it passes is this one
pub is_set_of : (n set : ℕ) (test : ℕ → Bool) → set < 2 ^ n → ((p : ℕ) → p < n → has p set ≡ test p)
    → set ≡ set_of n test
is_set_of n set test h same =
    same_members n set (set_of n test) h (set_of_lt n test) (λ p l. same p l ∙ sym (in_set_of n test p l))

-- tests that agree below n give the same set
pub set_of_agree : (n : ℕ) (f g : ℕ → Bool) → ((p : ℕ) → p < n → f p ≡ g p) → set_of n f ≡ set_of n g
set_of_agree n f g same = is_set_of n (set_of n f) g (set_of_lt n f) (λ p l. in_set_of n f p l ∙ same p l)

-- where no number from n on passes, every member is known by the test alone
pub closed_set_of : (n : ℕ) (test : ℕ → Bool) (p : ℕ) → (n ≤ p → test p ≡ false) → has p (set_of n test) ≡ test p
closed_set_of n test p out =
    ⊎_elim (in_set_of n test p) (λ (l : n ≤ p). has_high n p (set_of n test) (set_of_lt n test) l ∙ sym (out l))
    (lt_or_le p n)

-- ---- the run from f to l

-- it is a set of numbers below 64
pub run_lt : (f l : ℕ) → run f l < 2 ^ 64
unfolding run
run_lt f l = set_of_lt 64 (between f l)

-- its members are the numbers below 64 from f to l
pub has-run : (f l p : ℕ) → has p (run f l) ≡ ltb p 64 && between f l p
unfolding run
has-run f l p = has-set_of 64 (between f l) p

-- a number below 64 from f to l is a member
pub run_in : (f l p : ℕ) → f ≤ p → p ≤ l → p < 64 → has p (run f l) ≡ true
run_in f l p hf hl h = has-run f l p ∙ and_from _ _ (lt-ltb p 64 h) (and_from _ _ (le-leb f p hf) (le-leb p l hl))

-- a member is a number from f to l
pub in_run : (f l p : ℕ) → has p (run f l) ≡ true → (f ≤ p) × (p ≤ l)
in_run f l p e =
    let h : between f l p ≡ true = and_r (ltb p 64) _ (sym (has-run f l p) ∙ e) in
    (leb-true f p (and_l _ _ h), leb-true p l (and_r (leb f p) _ h))

-- a number that is not from f to l is no member
pub run_out : (f l p : ℕ) → (f ≤ p → p ≤ l → ⊥) → has p (run f l) ≡ false
run_out f l p out =
    ⊎_elim (λ e. let b = in_run f l p e in absurd (out b.0 b.1)) (λ e. e) (truth (has p (run f l)))

-- with no number below 64 from f to l it is empty
pub no_run : (f l : ℕ) → ((p : ℕ) → p < 64 → f ≤ p → p ≤ l → ⊥) → 0 ≡ run f l
no_run f l out =
    same_members 64 0 (run f l) (pow_pos 64) (run_lt f l) (λ p h. has_none p ∙ sym (run_out f l p (out p h)))

-- ---- one member more, one less

-- of any set: a number below 64 is a member of the set with p where it is p or was a member, of the set without p where
-- it isn't p and was one
pub insert_below : (p set q : ℕ) → q < 64 → has q (insert p set) ≡ (eqb q p || has q set)
unfolding insert
insert_below p set q l = in_set_of 64 (is_or_in p set) q l

pub remove_below : (p set q : ℕ) → q < 64 → has q (remove p set) ≡ (not (eqb q p) && has q set)
unfolding remove
remove_below p set q l = in_set_of 64 (is_not_and_in p set) q l

-- and a member of them, of any size
pub in_insert : (p set q : ℕ) → has q (insert p set) ≡ true → (q ≡ p) ⊎ (has q set ≡ true)
unfolding insert
in_insert p set q e =
    ⊎_elim (λ k. inl (eqb-true q p k)) inr
    (or_cases (eqb q p) (has q set) (and_r (ltb q 64) (is_or_in p set q) (sym (has-set_of 64 (is_or_in p set) q) ∙ e)))

pub in_remove : (p set q : ℕ) → has q (remove p set) ≡ true → (q ≡ p → ⊥) × (has q set ≡ true)
unfolding remove
in_remove p set q e =
    let k : (ltb q 64 && is_not_and_in p set q) ≡ true = sym (has-set_of 64 (is_not_and_in p set) q) ∙ e in
    (eqb-false q p (search (told, k)), search (told, k))

-- ---- the members of two sets

-- a number below 64 is a member where one of the two has it
pub has-union : (a b p : ℕ) → p < 64 → has p (union a b) ≡ (has p a || has p b)
unfolding union
has-union a b p l = in_set_of 64 (in_either a b) p l

-- and of the first without the second where the first alone has it
pub has-difference : (a b p : ℕ) → p < 64 → has p (difference a b) ≡ (has p a && not (has p b))
unfolding difference
has-difference a b p l = in_set_of 64 (in_first_only a b) p l

-- ---- a loop that builds the set of the numbers that pass, one number a turn

-- before the first number it is empty
pub set_of_start : (test : ℕ → Bool) → set_of 0 test ≡ 0
unfolding set_of
set_of_start test = refl

-- n passes: it is put in
pub set_of_next_in : (n : ℕ) (test : ℕ → Bool) → n < 64 → test n ≡ true → insert n (set_of n test) ≡ set_of (n + 1) test
unfolding insert
set_of_next_in n test l e =
    rw add-one
    (sym (is_set_of 64 (set_of (suc n) test) (is_or_in n (set_of n test))
    (lt_of_lt_of_le (set_of_lt (suc n) test) (pow_mono l))
    (λ p h. has_next n test p ∙ rw (e, and-true))))

-- n does not pass: the set stays
pub set_of_next_out : (n : ℕ) (test : ℕ → Bool) → test n ≡ false → set_of n test ≡ set_of (n + 1) test
unfolding set_of
set_of_next_out n test e = rw (add-one, e, zero-add)

-- ---- a member in common

-- a common member: the two sets share
pub shares_some : (a b p : ℕ) → p < 64 → has p a ≡ true → has p b ≡ true → shares a b ≡ true
unfolding shares
shares_some a b p l ha hb = below_some 64 (in_both a b) p l (and_from _ _ ha hb)

-- the two sets share: there is a common member
pub some_shares : (a b : ℕ) → shares a b ≡ true → (p : ℕ) × (p < 64) × (has p a ≡ true) × (has p b ≡ true)
unfolding shares
some_shares a b e =
    let w = some_below 64 (in_both a b) e in
    (w.0, w.1, and_l _ _ w.2, and_r (has w.0 a) _ w.2)

-- they share just where `&` is not 0
pub shares_and : (a b : ℕ) → a < 2 ^ 64 → shares a b ≡ not (eqb (bit_and a b) 0)
unfolding shares
shares_and a b h =
    let none : shares a b ≡ false → bit_and a b ≡ 0 =
    λ e. same_members 64 (bit_and a b) 0 (lt_of_le_of_lt (and_le_l a b) h) (pow_pos 64)
    (λ p l. has_and p a b ∙ none_below 64 (in_both a b) e p l ∙ sym (has_none p)) in
    let member : (p : ℕ) → has p a ≡ true → has p b ≡ true → bit_and a b ≡ 0 → ⊥ =
    λ p ha hb z. clash (and_from _ _ ha hb) (sym (has_and p a b) ∙ ap (has p) z ∙ has_none p) in
    same_test _ _ (λ e. let w = some_shares a b e in ap not (ne_eqb _ 0 (member w.0 w.2 w.3)))
    (λ e. ⊎_elim (λ q. q) (λ q. absurd (eqb-false _ 0 (not-true _ e) (none q))) (truth (shares a b)))

-- the order of the two does not matter
pub shares_comm : (a b : ℕ) → shares a b ≡ shares b a
shares_comm a b = same_test _ _ (turned a b) (turned b a)
  where
    turned : (x y : ℕ) → shares x y ≡ true → shares y x ≡ true
    turned x y e = let w = some_shares x y e in shares_some y x w.0 w.1 w.3 w.2

-- ---- every member of a in b

-- a is a subset: each member of a is one of b
pub subset_each : (a b : ℕ) → subset a b ≡ true → (p : ℕ) → p < 64 → has p a ≡ true → has p b ≡ true
unfolding subset
subset_each a b e p l h = not-false _ (and_no_r _ _ (none_below 64 (in_first_only a b) (not-true _ e) p l) h)

-- each member of a is one of b: a is a subset
pub each_subset : (a b : ℕ) → ((p : ℕ) → p < 64 → has p a ≡ true → has p b ≡ true) → subset a b ≡ true
unfolding subset
each_subset a b each =
    ap not (below_none 64 (in_first_only a b)
    (λ p l. ⊎_elim (λ (q : has p a ≡ true). rw (q, each p l q)) (λ (q : has p a ≡ false). rw q) (truth (has p a))))

-- a is a subset just where `&` leaves it as it is
pub subset_and : (a b : ℕ) → a < 2 ^ 64 → subset a b ≡ eqb (bit_and a b) a
subset_and a b h =
    same_test _ _
    (λ e. eq-eqb _ a (same_members 64 _ a (lt_of_le_of_lt (and_le_l a b) h) h
    (λ p l. has_and p a b ∙ same_test _ _ (and_l _ _) (λ q. and_from _ _ q (subset_each a b e p l q)))))
    (λ e. each_subset a b (λ p l q. and_r (has p a) _ (sym (has_and p a b) ∙ ap (has p) (eqb-true _ a e) ∙ q)))

-- ---- how many members

-- a digit adds itself to the count of ones, and its number to the members
count_next : (set n : ℕ) (l : List ℕ) → ones (set / 2 ^ n % 2) + length l ≡ length (cond (has n set) (n ∷ l) l)
unfolding has ones
count_next set n l =
    digit (λ x. ones x + length l ≡ length (cond (eqb x 1) (n ∷ l) l)) (zero-add (length l)) (one-add (length l))
    (set / 2 ^ n)

-- the ones among the digits below n are the members below n
ones_below : (n set : ℕ) → ones (set % 2 ^ n) ≡ length (keep (is_member set) (below n))
unfolding below
ones_below zero set = rw mod-one (ones-ones 0)
ones_below (suc n) set =
    rw (← one-add n, mod-pow-add, ones_cat n (set / 2 ^ n % 2) (set % 2 ^ n) (mod-lt set (pow_pos n)), ones_below n set)
    (count_next set n _)

-- the count of ones is the number of members
pub size-ones : (set : ℕ) → set < 2 ^ 64 → ones set ≡ size set
unfolding size
size-ones set h = ap ones (sym (mod-eq_of_lt h)) ∙ ones_below 64 set
