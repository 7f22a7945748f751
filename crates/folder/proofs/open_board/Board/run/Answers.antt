-- A run makes no more calls than there is room for their lines, and its journal has 55 bytes for each of them.
use Rattle.std.proofs.Common.{arith, sym, ap, ◌*◌, ◌∙◌}
use lib.ListN.{take}
use lib.Seq.{take_at}
use Rattle.calls.proofs.Counting.{lines_most}
use Rattle.calls.proofs.Lengths.{run_length}
use Rattle.folder.proofs.open_board.Board.run.Goals as goal

pub returns-clause-journal : goal.returns-clause-journal
returns-clause-journal c =
    let ran = c.run-ran.ensures in
    rw (← c.self.view_is)
    (ap (take _) ran.bytes ∙ take_at _ _ _ (run_length _ _ _ c.self.invariant.once ∙ ap (λ n. 55 * n) (sym ran.lines)))

pub returns-clause-within : goal.returns-clause-within
returns-clause-within c = omega (arith, lines_most c.run-ran.ensures)
