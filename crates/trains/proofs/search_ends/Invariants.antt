use Rattle.std.proofs.Common.{◌≡◌, false, Option, None, ◌<◌, drop}
use Rattle.rules.specs.declared.Train.{Train}
use Rattle.trains.specs.Trains.{SearchesEnds}
use Rattle.trains.proofs.search_ends.Given as goal

-- no train before this one passes: the answer on those from here on is the answer on all
abbrev pub invariant-search : goal.invariant-search
invariant-search g l =
    let answers = SearchesEnds (goal.F-post g l.passes) in
    (l.found ≡ None) × ((r : Option Train) → answers (drop l.t-index l.trains) r → answers l.trains r)

-- nor does this train by its ends before this one
abbrev pub invariant-loop-end : goal.invariant-loop-end
invariant-loop-end g l =
    (l.found ≡ None)
    × (0 < l.end-index → goal.F-post g l.passes l.t l.t.head false)
    × (1 < l.end-index → goal.F-post g l.passes l.t l.t.rear false)
