-- `sets::size` meets its contract. Assumes nothing.
use Rattle.sets.proofs.Laws.{size-ones}
use Rattle.sets.proofs.size.Goals as goal

pub returns : goal.returns
returns c = size-ones c.args.set c.ranges.set.fits
