-- `sets::union` meets its contract: the set that it returns has the members of `union`. Assumes nothing.
use lib.Bits.{or_lt}
use Rattle.sets.specs.Sets.{in_either, union}
use Rattle.sets.proofs.Bits.{has_or}
use Rattle.sets.proofs.Laws.{is_set_of}
use Rattle.sets.proofs.union.Goals as goal

pub returns : goal.returns
unfolding union
returns c =
    let a = c.args.a in
    let b = c.args.b in
    is_set_of 64 _ (in_either a b) (or_lt 64 a b c.ranges.a.fits c.ranges.b.fits) (λ p l. has_or p a b)
