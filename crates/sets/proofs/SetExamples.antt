-- Worked examples, computed. Assumes nothing.
use mathlib.Core.Path.{◌≡◌, refl}
use mathlib.Core.Bool.{true, false}
use Rattle.lists.specs.Search.{first, last, below}
use Rattle.sets.specs.Sets.{has, set_of, run, up_to, insert, remove, shares, subset, union, size, least, greatest}

-- all the numbers below 64; the last alone; a run that ends before it starts; runs that go past 63
all : run 0 63 ≡ 18446744073709551615
unfolding run set_of
all = refl

last_alone : run 63 63 ≡ 9223372036854775808
unfolding run set_of
last_alone = refl

backwards : run 5 3 ≡ 0
unfolding run set_of
backwards = refl

past_the_end : run 62 99 ≡ 13835058055282163712
unfolding run set_of
past_the_end = refl

out_of_range : run 64 99 ≡ 0
unfolding run set_of
out_of_range = refl

-- up to 0, to 31, to 63, and past the end
up_to_0 : up_to 0 ≡ 1
unfolding up_to run set_of
up_to_0 = refl

up_to_31 : up_to 31 ≡ 4294967295
unfolding up_to run set_of
up_to_31 = refl

up_to_63 : up_to 63 ≡ 18446744073709551615
unfolding up_to run set_of
up_to_63 = refl

up_to_99 : up_to 99 ≡ run 0 63
unfolding up_to run set_of
up_to_99 = refl

-- 63 is a member, and 99, outside, never is
last_in : has 63 (run 0 63) ≡ true
unfolding has run set_of
last_in = refl

outside : has 99 (run 0 63) ≡ false
unfolding has run set_of
outside = refl

-- neighbours share nothing; runs with 1 in common do
neighbours : shares (run 0 0) (run 1 1) ≡ false
unfolding shares below has run set_of
neighbours = refl

touching : shares (run 0 1) (run 1 2) ≡ true
unfolding shares below has run set_of
touching = refl

-- 63 put in and taken out; 64 is put in nowhere
put_in : insert 63 (run 0 62) ≡ run 0 63
unfolding insert has run set_of
put_in = refl

taken_out : remove 63 (run 0 63) ≡ run 0 62
unfolding remove has run set_of
taken_out = refl

left_out : insert 64 (run 0 63) ≡ run 0 63
unfolding insert has run set_of
left_out = refl

-- a part is in the whole, and the whole not in the part
part : subset (run 5 40) (run 0 63) ≡ true
unfolding subset below has run set_of
part = refl

whole : subset (run 0 63) (run 5 40) ≡ false
unfolding subset below has run set_of
whole = refl

-- runs that overlap, joined
joined : union (run 0 1) (run 1 2) ≡ run 0 2
unfolding union has run set_of
joined = refl

-- how many: all 64 of them, and none
size_all : size (run 0 63) ≡ 64
unfolding size below has run set_of
size_all = refl

size_none : size 0 ≡ 0
unfolding size below has
size_none = refl

-- the least and the greatest: of a run, of one member, and 64 of no member
least_of_run : least (run 5 40) ≡ 5
unfolding least last below has run set_of
least_of_run = refl

greatest_of_run : greatest (run 5 40) ≡ 40
unfolding greatest first below has run set_of
greatest_of_run = refl

least_of_one : least (run 63 63) ≡ 63
unfolding least last below has run set_of
least_of_one = refl

greatest_of_one : greatest (run 63 63) ≡ 63
unfolding greatest first below has run set_of
greatest_of_one = refl

least_of_none : least 0 ≡ 64
unfolding least last below has
least_of_none = refl

greatest_of_none : greatest 0 ≡ 64
unfolding greatest first below has
greatest_of_none = refl
