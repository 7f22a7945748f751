-- `sets::has` meets its contract. Assumes nothing.
use Rattle.std.proofs.Common.{refl, sym}
use Rattle.sets.specs.Sets.{has}
use Rattle.sets.proofs.Bits.{has_high}
use Rattle.sets.proofs.has.Goals as goal

pub returns-then-p-lt64 : goal.returns-then-p-lt64
unfolding has
returns-then-p-lt64 c = refl

pub returns-else-p-lt64 : goal.returns-else-p-lt64
returns-else-p-lt64 c =
    sym (has_high 64 c.args.p c.args.set c.ranges.set.fits c.if-p-lt64.false)
