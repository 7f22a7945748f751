-- What a read gave stands behind what the reads before it gave.
use Rattle.std.proofs.Common.{rules, arith, sym}
use mathlib.Core.Bool.{false≢true}
use Rattle.folder.proofs.PartRead.{filled-more}
use Rattle.folder.proofs.input.fill.Goals as goal

pub loop-bytes-preserved : goal.loop-bytes-preserved
loop-bytes-preserved g c = (
  search rules,
  filled-more _ _ _ _ _ _ _ _ c.loop-bytes.invariant.0 c.in-Ok.ensures.bound.0 c.loop-bytes.invariant.1
      c.in-Ok.ensures.bytes.0,
)

-- a read that failed is told, and a loop that ends by its test has filled the buffer
pub returns-in-Err-clause-end : goal.returns-in-Err-clause-end
returns-in-Err-clause-end g c = λ none less. absurd (false≢true (sym none))

pub returns-after-loop-bytes-clause-end : goal.returns-after-loop-bytes-clause-end
returns-after-loop-bytes-clause-end g c = λ none less. absurd (omega (arith, less, c.loop-bytes-test.false))
