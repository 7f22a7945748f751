use Rattle.std.proofs.Common.{◌≡◌, ◌-◌, ◌*◌, length, drop}
use Rattle.std.specs.Iterator.Adapters.{take_source, take_count}
use Rattle.std.specs.Slice.Iter.{chunks_exact_rest, chunks_exact_size}
use Rattle.plan.proofs.PlanTexts.{SoFar}
use Rattle.plan.proofs.text.read_gates.Given as goal

abbrev pub invariant-loop-line : goal.invariant-loop-line
invariant-loop-line l =
    let read = length l.gates.items in
    SoFar l.portions l.count l.text read l.gates.items
    × (chunks_exact_rest (take_source l.line-iterator) ≡ drop (19 * read) l.text)
    × (chunks_exact_size (take_source l.line-iterator) ≡ 19)
    × (take_count l.line-iterator ≡ l.count - read)
