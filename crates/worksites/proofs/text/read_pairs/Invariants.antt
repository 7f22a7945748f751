use Rattle.std.proofs.Common.{◌≡◌, ◌-◌, ◌*◌, length, drop}
use Rattle.std.specs.Iterator.Adapters.{take_source, take_count}
use Rattle.std.specs.Slice.Iter.{chunks_exact_rest, chunks_exact_size}
use Rattle.columns.proofs.LinesRead.{ReadSoFar}
use Rattle.worksites.specs.ListText.{pair_in}
use Rattle.worksites.proofs.text.read_pairs.Given as goal

abbrev pub invariant-loop-line : goal.invariant-loop-line
invariant-loop-line l =
    let read = length l.pairs.items in
    ReadSoFar pair_in 17 34 l.text l.pairs.items
    × (chunks_exact_rest (take_source l.line-iterator) ≡ drop (17 * read) l.text)
    × (chunks_exact_size (take_source l.line-iterator) ≡ 17)
    × (take_count l.line-iterator ≡ 34 - read)
