-- `sets::run` meets its contract: the table's entry, shifted, is the run. Assumes nothing.
use Rattle.std.proofs.Common.{ap, ◌∙◌, ℕ, ◌*◌, ◌%◌, ◌^◌, arith}
use Rattle.sets.proofs.Laws.{no_run}
use Rattle.sets.proofs.Entries.{run_shifted}
use Rattle.sets.proofs.run.Goals as goal

pub returns-then-first-gt63 : goal.returns-then-first-gt63
returns-then-first-gt63 c = no_run c.args.first c.args.last (λ p h from to. omega arith)

pub returns-then-last-first : goal.returns-then-last-first
returns-then-last-first c = no_run c.args.first c.args.last (λ p h from to. omega arith)

pub returns : goal.returns
returns c =
    let f = c.args.first in
    ap (λ (set : ℕ). set * 2 ^ f % 2 ^ 64) c.up_to.ensures
    ∙ run_shifted f c.args.last (omega arith)
