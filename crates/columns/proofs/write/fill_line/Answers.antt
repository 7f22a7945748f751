-- `columns::write::fill_line` meets its contract. The loop's invariant: the numbers still to come fit, there is room
-- for them from `at` on, and the line is what stands before `at` and then their line. Assumes nothing.
use Rattle.std.proofs.Common.{◌≡◌, refl, sym, ◌∙◌, ◌∷◌, arith}
use Rattle.std.specs.Iterator.Adapters.{zip_first, zip_second}
use Rattle.std.specs.Slice.Iter.{iter_rest}
use Rattle.std.proofs.lemmas.Slice.Zip.{Zip-more}
use Rattle.std.proofs.lemmas.Iterator.{empty_from_Zip}
use Rattle.columns.proofs.Writing.{line-length, fit_lengths}
use Rattle.columns.proofs.Filling.{Next, next_of, line_step, line_end}
use Rattle.columns.proofs.write.fill_line.Goals as goal
use Rattle.columns.proofs.write.fill_line.Goals.{In-Some}

pub loop-width-init : goal.loop-width-init
loop-width-init c =
    let z = c.zip-width-items.ensures in
    let f = c.requires.0 in
    let l = line-length c.args.widths.now c.args.numbers.now f in
    rw (c.into_iter-width-iterator.ensures.into_iter_gives, z.first, c.iter.ensures.rest, z.second.0)
    (omega arith, f, refl)

-- the number of this turn, and those after it
turn : (c : In-Some) → let s = c.loop-width.width-iterator in
    let t = c.next.new.self in
    (iter_rest (zip_first s) ≡ c.in-Some.width.now ∷ iter_rest (zip_first t))
    × (iter_rest (zip_second s) ≡ c.in-Some.number.now ∷ iter_rest (zip_second t))
turn c =
    Zip-more c.loop-width.width-iterator c.next.new.self c.next.result (c.in-Some.width, c.in-Some.number) c.in-Some.is
    c.next.ensures.steps

next : (c : In-Some) → let t = c.next.new.self in
    Next c.in-Some.width.now c.in-Some.number.now (iter_rest (zip_first t)) (iter_rest (zip_second t))
next c = let z = turn c in next_of _ _ _ _ (rw (z.0, z.1) at c.loop-width.invariant.1)

pub put-requires : goal.put-requires
put-requires c =
    let z = turn (goal.at.put-requires c).In-Some in
    let n = next (goal.at.put-requires c).In-Some in
    let l = rw z.0 at c.loop-width.invariant.0 in
    (omega arith, rw c.from-width.ensures n.fit)

pub overflow_add-at : goal.overflow_add-at
overflow_add-at c =
    let z = turn (goal.at.overflow_add-at c).In-Some in
    let n = next (goal.at.overflow_add-at c).In-Some in
    let l = rw z.0 at c.loop-width.invariant.0 in
    omega arith

pub loop-width-preserved : goal.loop-width-preserved
loop-width-preserved c =
    let z = turn (goal.at.loop-width-preserved c).In-Some in
    let n = next (goal.at.loop-width-preserved c).In-Some in
    let h = c.loop-width in
    let l = rw z.0 at h.invariant.0 in
    let p = c.put in (
      p.auto.t ∙ omega arith,
      n.rest,
      h.invariant.2 ∙ rw (z.0, z.1, c.from-width.ensures)
          (line_step h.at _ _ _ _ h.t _ (omega arith) n.fit (rw c.from-width.ensures at p.ensures)),
    )

pub returns : goal.returns
returns c =
    let h = c.loop-width in
    let z = empty_from_Zip h.width-iterator c.next.new.self c.next.result c.in-None.is
    c.next.ensures.steps (fit_lengths _ _ h.invariant.1) in
    line_end h.at h.t _ _ z.0 h.invariant.0 ∙ sym h.invariant.2
