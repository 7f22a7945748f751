use Rattle.std.proofs.Common.{◌≡◌, true, ◌++◌, ◌+◌, length, take}
use Rattle.std.specs.Iterator.Adapters.{zip_first, zip_second}
use Rattle.std.specs.Slice.Iter.{iter_rest}
use Rattle.columns.specs.Line.{line, all_fit}
use Rattle.columns.proofs.Writing.{total}
use Rattle.columns.proofs.write.fill_line.Given as goal

abbrev pub invariant-loop-width : goal.invariant-loop-width
invariant-loop-width l =
    let ws = iter_rest (zip_first l.width-iterator) in
    let ns = iter_rest (zip_second l.width-iterator) in
    (length l.t ≡ l.at + (total ws + 1)) × (all_fit ws ns ≡ true)
    × (line l.widths l.numbers ≡ take l.at l.t ++ line ws ns)
