use Rattle.std.proofs.Common.{Some, None, ◌≡◌, cond, ◌≤◌, length}
use Rattle.std.specs.Iterator.Adapters.{zip_first, zip_second}
use Rattle.std.specs.Slice.Iter.{iter_rest}
use Rattle.columns.specs.Line.{line, writable}
use Rattle.columns.proofs.Filling.{size_from}
use Rattle.columns.proofs.write.line_size.Given as goal

abbrev pub invariant-loop-width : goal.invariant-loop-width
invariant-loop-width l =
    let ws = iter_rest (zip_first l.width-iterator) in
    let ns = iter_rest (zip_second l.width-iterator) in
    (l.size ≤ l.room) × (length ws ≡ length ns)
    × (cond (writable l.room l.widths l.numbers) (Some (length (line l.widths l.numbers))) None
    ≡ size_from l.room l.size ws ns)
