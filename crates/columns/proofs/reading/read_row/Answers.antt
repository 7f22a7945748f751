-- `columns::reading::read_row` meets its contract. The loop's invariant, `SoFar`: the row is the numbers read so far,
-- and then the row of the columns left. Assumes nothing.
use Rattle.std.proofs.Common.{sym, ◌∙◌, arith}
use lib.ListN.{length-replicate}
use Rattle.columns.proofs.ReadingLaws.{read_most}
use Rattle.columns.proofs.Rows.{more_or_fewer, none_yet, row_short, row_bad, row_next, row_whole, row_other}
use Rattle.columns.proofs.reading.read_row.Goals as goal

pub returns-then-widths : goal.returns-then-widths
returns-then-widths g c = more_or_fewer _ _ _ _ c.if-widths.true

pub loop-place-init : goal.loop-place-init
loop-place-init g c = none_yet _ _ _ _ _ c.if-widths.false (length-replicate _ _)

pub returns-in_err-column : goal.returns-in_err-column
returns-in_err-column g c =
    c.from_residual.ensures
    ∙ row_short _ _ _ _ _ _ _ c.loop-place.invariant _ c.from.ensures (omega arith) c.in_err-column.ensures.cases

pub returns-in_err-numbers : goal.returns-in_err-numbers
returns-in_err-numbers g c =
    c.from_residual-in_err-numbers.ensures
    ∙ row_bad _ _ _ _ _ _ _ c.loop-place.invariant _ c.from.ensures
    (omega arith) _ _ c.in_ok-column.ensures.cases (rw c.from-in-loop-place.ensures at c.in_err-numbers.ensures)

-- a number that is at most `most` has 16 bits
pub overflow_cast-numbers : goal.overflow_cast-numbers
overflow_cast-numbers g c =
    let few = read_most _ _ _ (sym c.in_ok-numbers.ensures) in
    omega (arith, few, c.from-in-loop-place.ensures, c.ranges.most)

pub loop-place-preserved : goal.loop-place-preserved
loop-place-preserved g c =
    row_next _ _ _ _ _ _ _ c.loop-place.invariant _ c.from.ensures
    (omega arith) _ _ c.in_ok-column.ensures.cases _ (rw c.from-in-loop-place.ensures at c.in_ok-numbers.ensures)

pub returns-then-is_line_feed : goal.returns-then-is_line_feed
returns-then-is_line_feed g c =
    row_whole _ _ _ _ _ _ _ c.loop-place.invariant (omega arith) (sym c.is_line_feed.ensures ∙ c.if-is_line_feed.true)

pub returns-else-is_line_feed : goal.returns-else-is_line_feed
returns-else-is_line_feed g c =
    row_other _ _ _ _ _ _ _ c.loop-place.invariant (omega arith) (sym c.is_line_feed.ensures ∙ c.if-is_line_feed.false)
