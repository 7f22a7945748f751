-- `worksites::list::are_worksites` meets its contract. The loop's invariant: the answer is that of the worksites still
-- to come. Assumes nothing.
use Rattle.std.proofs.Common.{◌∷◌}
use Rattle.std.specs.Iterator.Adapters.{zip_first, zip_second}
use Rattle.std.specs.Slice.Iter.{iter_rest}
use Rattle.std.proofs.lemmas.Slice.Zip.{Zip-more}
use Rattle.std.proofs.lemmas.Iterator.{empty_from_Zip}
use Rattle.worksites.proofs.SiteSteps.{ToCome, sites_unpaired, site_no, site_next, sites_end}
use Rattle.worksites.proofs.list.are_worksites.Goals as goal
use Rattle.worksites.proofs.list.are_worksites.Goals.{In-Some}

pub returns-then-from-to : goal.returns-then-from-to
returns-then-from-to c = sites_unpaired _ _ c.if-from-to.true

-- the worksite of this turn, and those after it
turn : (c : In-Some) → let t = c.next.new.self in
    ToCome c.args.from.now c.args.to.now c.loop-start.last_end (c.in-Some.start.now ∷ iter_rest (zip_first t))
    (c.in-Some.end.now ∷ iter_rest (zip_second t))
turn c =
    let z = Zip-more c.loop-start.start-iterator c.next.new.self c.next.result (c.in-Some.start, c.in-Some.end)
    c.in-Some.is c.next.ensures.steps in
    rw (z.0, z.1) at c.loop-start.invariant

pub returns-then-not-is_worksite : goal.returns-then-not-is_worksite
returns-then-not-is_worksite c =
    let t = turn (goal.at.returns-then-not-is_worksite c).In-Some in
    site_no _ _ _ _ _ _ _ t c.if-not-is_worksite.true

pub loop-start-preserved : goal.loop-start-preserved
loop-start-preserved c =
    let t = turn (goal.at.loop-start-preserved c).In-Some in
    site_next _ _ _ _ _ _ _ t c.if-not-is_worksite.false

pub returns : goal.returns
returns c =
    let z = empty_from_Zip c.loop-start.start-iterator c.next.new.self c.next.result c.in-None.is
    c.next.ensures.steps c.loop-start.invariant.0 in
    sites_end _ _ _ _ _ c.loop-start.invariant z.0 z.1
