-- `columns::write::line_size` meets its contract. The loop's invariant: the answer is that of the numbers still to
-- come, with `size` bytes counted. Assumes nothing.
use Rattle.std.proofs.Common.{◌≡◌, sym, ◌∙◌, ◌∷◌, arith}
use Rattle.std.specs.Iterator.Adapters.{zip_first, zip_second}
use Rattle.std.specs.Slice.Iter.{iter_rest}
use Rattle.std.proofs.lemmas.Slice.Zip.{Zip-more}
use Rattle.std.proofs.lemmas.Iterator.{empty_from_Zip}
use Rattle.columns.proofs.Writing.{fit_lengths}
use Rattle.columns.proofs.Filling.{size_start, size_none, size_step, size_unfit, size_full, size_end}
use Rattle.columns.proofs.write.line_size.Goals as goal
use Rattle.columns.proofs.write.line_size.Goals.{In-Some}

pub returns-then-widths-numbers : goal.returns-then-widths-numbers
returns-then-widths-numbers c =
    let a = c.args in
    let ws = a.widths.now in
    let ns = a.numbers.now in
    sym (size_start a.room ws ns ∙ size_none _ _ _ _ (λ e. omega (arith, fit_lengths ws ns e)))

pub returns-then-room-eq0 : goal.returns-then-room-eq0
returns-then-room-eq0 c =
    let a = c.args in
    sym (size_start a.room a.widths.now a.numbers.now ∙ size_none _ _ _ _ (λ e. omega arith))

pub loop-width-init : goal.loop-width-init
loop-width-init c =
    let z = c.zip-width-items.ensures in
    rw (c.into_iter-width-iterator.ensures.into_iter_gives, z.first, c.iter.ensures.rest, z.second.0)
    (omega arith, omega arith, size_start _ _ _)

-- the number of this turn, and those after it
turn : (c : In-Some) → let s = c.loop-width.width-iterator in
    let t = c.next.new.self in
    (iter_rest (zip_first s) ≡ c.in-Some.width.now ∷ iter_rest (zip_first t))
    × (iter_rest (zip_second s) ≡ c.in-Some.number.now ∷ iter_rest (zip_second t))
turn c =
    Zip-more c.loop-width.width-iterator c.next.new.self c.next.result (c.in-Some.width, c.in-Some.number) c.in-Some.is
    c.next.ensures.steps

pub returns-then-not-is_fitting : goal.returns-then-not-is_fitting
returns-then-not-is_fitting c =
    let z = turn (goal.at.returns-then-not-is_fitting c).In-Some in
    sym (c.loop-width.invariant.2
    ∙ rw (z.0, z.1, ← c.from-width.ensures)
    (size_unfit _ _ _ _ _ _ (sym c.is_fitting.ensures ∙ c.if-not-is_fitting.true)))

pub returns-then-room-size : goal.returns-then-room-size
returns-then-room-size c =
    let z = turn (goal.at.returns-then-room-size c).In-Some in
    sym (c.loop-width.invariant.2 ∙ rw (z.0, z.1) (size_full _ _ _ _ _ _ (omega arith)))

pub loop-width-preserved : goal.loop-width-preserved
loop-width-preserved c =
    let z = turn (goal.at.loop-width-preserved c).In-Some in
    let v = c.loop-width.invariant in
    let l = rw (z.0, z.1) at v.1 in (
      omega arith,
      omega arith,
      v.2 ∙ rw (z.0, z.1, ← c.from-width.ensures)
          (size_step _ _ _ _ _ _ (sym c.is_fitting.ensures ∙ c.if-not-is_fitting.false)),
    )

pub returns : goal.returns
returns c =
    let v = c.loop-width.invariant in
    let z = empty_from_Zip c.loop-width.width-iterator c.next.new.self c.next.result c.in-None.is
    c.next.ensures.steps v.1 in
    sym (v.2 ∙ size_end _ _ _ _ z.0 z.1 v.0)
