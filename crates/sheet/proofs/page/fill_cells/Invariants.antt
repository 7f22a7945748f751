use Rattle.std.specs.Iterator.Adapters.{zip_first, zip_second}
use Rattle.std.specs.Slice.Iter.{iter_rest}
use Rattle.columns.specs.Cells.{cell_line}
use Rattle.sheet.proofs.LineCells.{Begun}
use Rattle.sheet.proofs.page.fill_cells.Given as goal

abbrev pub invariant-loop-width : goal.invariant-loop-width
invariant-loop-width g l =
    let ws = iter_rest (zip_first l.width-iterator) in
    let cells = iter_rest (zip_second l.width-iterator) in
    Begun ws cells (cell_line l.widths l.cells) l.at l.line
