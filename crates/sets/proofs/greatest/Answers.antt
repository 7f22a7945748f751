-- `sets::greatest` meets its contract. Assumes nothing.
use Rattle.std.proofs.Common.{◌≡◌, sym, ap, ◌∙◌, arith}
use lib.Count.{leading_top}
use Rattle.sets.specs.Sets.{has}
use Rattle.sets.proofs.Bits.{has_none}
use Rattle.sets.proofs.Ends.{greatest_none, greatest_zeros}
use Rattle.sets.proofs.greatest.Goals as goal

pub returns-then-set-eq0 : goal.returns-then-set-eq0
returns-then-set-eq0 c =
    let e : c.args.set ≡ 0 = omega arith in
    sym (greatest_none c.args.set (λ p l. ap (has p) e ∙ has_none p))

pub overflow_sub-result : goal.overflow_sub-result
overflow_sub-result c = omega (arith, (leading_top 64 c.args.set (omega arith) c.ranges.set.fits).1)

pub returns : goal.returns
returns c = greatest_zeros c.args.set (omega arith) c.ranges.set.fits
