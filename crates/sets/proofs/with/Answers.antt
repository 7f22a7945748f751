-- `sets::with` meets its contract: the set that it returns has the members of `insert`. Assumes nothing.
use Rattle.std.proofs.Common.{◌∙◌, ℕ, ◌*◌, ◌%◌, ◌^◌, mod-lt, arith, ne_eqb, pow_pos}
use mathlib.Core.Bool.{or_comm}
use lib.Bits.{or_lt}
use Rattle.sets.specs.Sets.{has, insert, is_or_in}
use Rattle.sets.proofs.Bits.{has_or, has_single}
use Rattle.sets.proofs.Laws.{is_set_of}
use Rattle.sets.proofs.with.Goals as goal

pub returns-then-p-lt64 : goal.returns-then-p-lt64
unfolding insert
returns-then-p-lt64 c =
    let p = c.args.p in
    let set = c.args.set in
    let one : ℕ = 1 * 2 ^ p % 2 ^ 64 in
    is_set_of 64 _ (is_or_in p set) (or_lt 64 set one c.ranges.set.fits (mod-lt _ (pow_pos 64)))
    (λ q l. has_or q set one ∙ rw (has_single, or_comm (has q set)))

pub returns-else-p-lt64 : goal.returns-else-p-lt64
unfolding insert
returns-else-p-lt64 c =
    let p = c.args.p in
    let set = c.args.set in
    is_set_of 64 set (is_or_in p set) c.ranges.set.fits (λ q l. rw (ne_eqb q p (λ e. omega arith)))
