use Rattle.std.specs.Iterator.Adapters.{zip_first, zip_second}
use Rattle.std.specs.Slice.Iter.{iter_rest}
use Rattle.worksites.proofs.SiteSteps.{ToCome}
use Rattle.worksites.proofs.list.are_worksites.Given as goal

abbrev pub invariant-loop-start : goal.invariant-loop-start
invariant-loop-start l =
    ToCome l.from l.to l.last_end (iter_rest (zip_first l.start-iterator)) (iter_rest (zip_second l.start-iterator))
