-- Sets of numbers below 64, each held as one number: p is a member where the binary digit of 2 ^ p is 1.
-- Every set is given by which numbers are members, and every definition computes at numerals of 64 bits. Assumes
-- nothing.
use Rattle.std.specs.Prelude.{ℕ, zero, suc, ◌+◌, ◌/◌, ◌%◌, ◌^◌, Bool, cond, not, ◌&&◌, ◌||◌, eqb, leb, length}
use Rattle.lists.specs.Search.{any, first, last, keep, below}

-- p is a member of the set
unfoldable pub has : ℕ → ℕ → Bool
has p s = eqb (s / 2 ^ p % 2) 1

-- the set of the numbers below n that pass the test
unfoldable pub set_of : ℕ → (ℕ → Bool) → ℕ
set_of zero test = 0
set_of (suc n) test = cond (test n) (2 ^ n) 0 + set_of n test

-- the run from low to high: both, and all between; no number where high is below low
abbrev pub between : ℕ → ℕ → ℕ → Bool
between low high p = leb low p && leb p high

unfoldable pub run : ℕ → ℕ → ℕ
run low high = set_of 64 (between low high)

-- "all portions up to n": "0 to n and no other" (02, order 3)
unfoldable pub up_to : ℕ → ℕ
up_to n = run 0 n

-- the set with p in it; a number from 64 on is left out
abbrev pub is_or_in : ℕ → ℕ → ℕ → Bool
is_or_in p s q = eqb q p || has q s

unfoldable pub insert : ℕ → ℕ → ℕ
insert p s = set_of 64 (is_or_in p s)

-- the set without p
abbrev pub is_not_and_in : ℕ → ℕ → ℕ → Bool
is_not_and_in p s q = not (eqb q p) && has q s

unfoldable pub remove : ℕ → ℕ → ℕ
remove p s = set_of 64 (is_not_and_in p s)

-- the two sets share a member
abbrev pub in_both : ℕ → ℕ → ℕ → Bool
in_both a b p = has p a && has p b

unfoldable pub shares : ℕ → ℕ → Bool
shares a b = any (in_both a b) (below 64)

-- every member of a is a member of b
abbrev pub in_first_only : ℕ → ℕ → ℕ → Bool
in_first_only a b p = has p a && not (has p b)

unfoldable pub subset : ℕ → ℕ → Bool
subset a b = not (any (in_first_only a b) (below 64))

-- the members of a and those of b
abbrev pub in_either : ℕ → ℕ → ℕ → Bool
in_either a b p = has p a || has p b

unfoldable pub union : ℕ → ℕ → ℕ
union a b = set_of 64 (in_either a b)

-- the members of a that b has not
unfoldable pub difference : ℕ → ℕ → ℕ
difference a b = set_of 64 (in_first_only a b)

-- how many members the set has
abbrev pub is_member : ℕ → ℕ → Bool
is_member s p = has p s

unfoldable pub size : ℕ → ℕ
size s = length (keep (is_member s) (below 64))

-- the least and the greatest member, 64 where there is none: the numbers below 64 stand from the greatest on
unfoldable pub least : ℕ → ℕ
least s = last (is_member s) 64 (below 64)

unfoldable pub greatest : ℕ → ℕ
greatest s = first (is_member s) 64 (below 64)
