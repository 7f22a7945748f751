-- `columns::write::write_line` meets its contract: no length tells that nothing is to be written, and any how many
-- bytes to lend. Assumes nothing.
use Rattle.std.proofs.Common.{sym, ap, ◌∙◌, ◌++◌, List, ℕ, length, drop, rules}
use lib.Seq.{length-take-le}
use Rattle.columns.proofs.Filling.{Sized, size_zero, size_some, written}
use Rattle.columns.proofs.write.write_line.Goals as goal
use Rattle.columns.proofs.write.write_line.Goals.{In-Some}

pub returns-in_default : goal.returns-in_default
returns-in_default c = size_zero _ _ _ (rw c.in_default.is at c.line_size.ensures)

sized : (c : In-Some) → let a = c.args in
    Sized c.in-Some.size (length a.buf.now) a.widths.now a.numbers.now
sized c = size_some _ _ _ _ (rw c.in-Some.is at c.line_size.ensures)

pub slice_bounds-fill_line-end : goal.slice_bounds-fill_line-end
slice_bounds-fill_line-end c = let s = sized c in search rules

pub slice_bounds-fill_line-end-2 : goal.slice_bounds-fill_line-end-2
slice_bounds-fill_line-end-2 c =
    let s = sized (goal.at.slice_bounds-fill_line-end-2 c).In-Some in
    sym (length-take-le _ _ s.within)

pub fill_line-requires : goal.fill_line-requires
fill_line-requires c =
    let s = sized (goal.at.fill_line-requires c).In-Some in
    (s.fit, length-take-le _ _ s.within ∙ s.long)

pub returns : goal.returns
returns c =
    let s = sized (goal.at.returns c).In-Some in
    written _ _ _ _ _ s (ap (λ (t : List ℕ). t ++ drop c.in-Some.size c.args.buf.now) c.fill_line.ensures)
