use Rattle.std.specs.Iterator.Adapters.{zip_first, zip_second}
use Rattle.std.specs.Slice.Iter.{iter_rest}
use Rattle.worksites.proofs.GapSteps.{SoFar}
use Rattle.worksites.proofs.gaps.gaps_of.Given as goal

abbrev pub invariant-loop-last_end : goal.invariant-loop-last_end
invariant-loop-last_end l =
    SoFar l.from l.to l.gaps.items (iter_rest (zip_first l.last_end-iterator))
    (iter_rest (zip_second l.last_end-iterator))
