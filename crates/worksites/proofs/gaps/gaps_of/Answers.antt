-- `worksites::gaps::gaps_of` meets its contract. The loop's invariant: the gaps so far, and those between the ends and
-- the starts still to come, are all. Assumes nothing.
use Rattle.std.proofs.Common.{◌∷◌, arith}
use Rattle.std.specs.Iterator.Adapters.{zip_first, zip_second}
use Rattle.std.specs.Slice.Iter.{iter_rest}
use Rattle.std.proofs.lemmas.Slice.Zip.{Zip-more, either_empty_from_Zip}
use Rattle.worksites.proofs.GapSteps.{SoFar, gap_room, gap_next, gaps_end}
use Rattle.worksites.proofs.gaps.gaps_of.Goals as goal
use Rattle.worksites.proofs.gaps.gaps_of.Goals.{In-Some}

-- the end and the start of this turn, and those after them
turn : (c : In-Some) → let t = c.next.new.self in
    SoFar c.args.from.now c.args.to.now c.loop-last_end.gaps.items (c.in-Some.last_end.now ∷ iter_rest (zip_first t))
    (c.in-Some.next_start.now ∷ iter_rest (zip_second t))
turn c =
    let z = Zip-more c.loop-last_end.last_end-iterator c.next.new.self c.next.result
    (c.in-Some.last_end, c.in-Some.next_start) c.in-Some.is c.next.ensures.steps in
    rw (z.0, z.1) at c.loop-last_end.invariant

pub push-requires : goal.push-requires
push-requires c = omega (arith, gap_room _ _ _ _ _ _ _ (turn (goal.at.push-requires c).In-Some))

pub loop-last_end-preserved : goal.loop-last_end-preserved
loop-last_end-preserved c =
    rw (c.push.ensures.items, c.saturating_sub.ensures)
    (gap_next _ _ _ _ _ _ _ (turn (goal.at.loop-last_end-preserved c).In-Some))

pub returns : goal.returns
returns c =
    gaps_end _ _ _ _ _ c.loop-last_end.invariant
    (either_empty_from_Zip c.loop-last_end.last_end-iterator c.next.new.self c.next.result c.in-None.is
    c.next.ensures.steps)
