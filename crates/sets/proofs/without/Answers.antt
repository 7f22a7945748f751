-- `sets::without` meets its contract: the set that it returns has the members of `remove`. Assumes nothing.
use Rattle.std.proofs.Common.{◌∙◌, ℕ, ◌-◌, ◌*◌, ◌%◌, ◌^◌, mod-lt, lt_of_le_of_lt, arith, ne_eqb, pow_pos}
use mathlib.Core.Bool.{and_comm}
use lib.Bits.{and_le_l}
use Rattle.sets.specs.Sets.{has, remove, is_not_and_in}
use Rattle.sets.proofs.Bits.{has_and, has-not, has_single}
use Rattle.sets.proofs.Laws.{is_set_of}
use Rattle.sets.proofs.without.Goals as goal

pub returns-then-p-lt64 : goal.returns-then-p-lt64
unfolding remove
returns-then-p-lt64 c =
    let p = c.args.p in
    let set = c.args.set in
    let one : ℕ = 1 * 2 ^ p % 2 ^ 64 in
    is_set_of 64 _ (is_not_and_in p set) (lt_of_le_of_lt (and_le_l set _) c.ranges.set.fits)
    (λ q l. has_and q set ((2 ^ 64 - 1) - one)
    ∙ rw (has-not 64 q one (mod-lt _ (pow_pos 64)) l, has_single, and_comm (has q set)))

pub returns-else-p-lt64 : goal.returns-else-p-lt64
unfolding remove
returns-else-p-lt64 c =
    let p = c.args.p in
    let set = c.args.set in
    is_set_of 64 set (is_not_and_in p set) c.ranges.set.fits (λ q l. rw (ne_eqb q p (λ e. omega arith)))
