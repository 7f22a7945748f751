use Rattle.std.proofs.Common.{◌≡◌, ◌-◌, ◌*◌, ◌/◌, length, drop}
use Rattle.std.specs.Iterator.Adapters.{take_source, take_count}
use Rattle.std.specs.Slice.Iter.{chunks_exact_rest, chunks_exact_size}
use Rattle.rules.specs.Board.{board_of}
use Rattle.rules.specs.Step.{Kept}
use Rattle.calls.proofs.Running.{SoFar}
use Rattle.calls.proofs.piece.run_lines.Given as goal

abbrev pub invariant-loop-line : goal.invariant-loop-line
invariant-loop-line l =
    Kept l.register
    × SoFar (length l.fn.out / 55) (board_of l.fn.register) l.text l.fn.out l.lines (board_of l.register) l.out
    × (chunks_exact_rest (take_source l.line-iterator) ≡ drop (43 * l.lines) l.text)
    × (chunks_exact_size (take_source l.line-iterator) ≡ 43)
    × (take_count l.line-iterator ≡ length l.fn.out / 55 - l.lines)
