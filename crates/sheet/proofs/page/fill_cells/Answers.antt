-- `sheet::page::fill_cells` meets its contract. The loop's invariant: some cells stand in the line, in `at` bytes.
-- Assumes nothing.
use Rattle.std.proofs.Common.{◌∷◌, ◌+◌, ◌<◌, length, rules}
use Rattle.std.specs.Iterator.Adapters.{zip_first, zip_second}
use Rattle.std.specs.Slice.Iter.{iter_rest}
use Rattle.std.proofs.lemmas.Slice.Zip.{Zip-more}
use Rattle.std.proofs.lemmas.Iterator.{empty_from_Zip}
use Rattle.columns.specs.Cells.{cell_line}
use Rattle.columns.proofs.CellsLaws.{cells_lengths}
use Rattle.sheet.proofs.LineCells.{Begun, begun, begun_room, begun_next, begun_end}
use Rattle.sheet.proofs.page.fill_cells.Goals as goal
use Rattle.sheet.proofs.page.fill_cells.Given.{Over}
use Rattle.sheet.proofs.page.fill_cells.Goals.{In-Some}

pub loop-width-init : goal.loop-width-init
loop-width-init g c =
    let z = c.zip-width-items.ensures in
    rw (c.into_iter-width-iterator.ensures.into_iter_gives, z.first, c.iter.ensures.rest, z.second.0)
    (begun _ _ _ c.requires.0 c.requires.1)

-- the cell of this turn, and those after it
turn : (g : Over) (c : In-Some g) → let t = c.next.new.self in
    Begun (c.in-Some.width.now ∷ iter_rest (zip_first t)) (c.in-Some.cell.now ∷ iter_rest (zip_second t))
    (cell_line c.args.widths.now c.args.cells.now) c.loop-width.at c.loop-width.line
turn g c =
    let z = Zip-more c.loop-width.width-iterator c.next.new.self c.next.result (c.in-Some.width, c.in-Some.cell)
    c.in-Some.is c.next.ensures.steps in
    rw (z.0, z.1) at c.loop-width.invariant

-- there is room for it, and for the line feed
room : (g : Over) (c : In-Some g) → c.loop-width.at + c.in-Some.width.now < length c.loop-width.line
room g c = begun_room _ _ _ _ _ _ _ (turn g c)

pub overflow_add-at : goal.overflow_add-at
overflow_add-at g c = let r = room g (goal.at.overflow_add-at g c).In-Some in search rules

pub slice_bounds-fill_cell-end : goal.slice_bounds-fill_cell-end
slice_bounds-fill_cell-end g c = let r = room g (goal.at.slice_bounds-fill_cell-end g c).In-Some in search rules

pub loop-width-preserved : goal.loop-width-preserved
loop-width-preserved g c =
    begun_next _ _ _ _ _ _ _ (turn g (goal.at.loop-width-preserved g c).In-Some) _ _ c.fill_cell.ensures

pub returns : goal.returns
returns g c =
    let l = c.loop-width in
    let z = empty_from_Zip l.width-iterator c.next.new.self c.next.result c.in-None.is c.next.ensures.steps
    (cells_lengths _ _ l.invariant.fit) in
    begun_end _ _ _ _ _ z.0 l.invariant
