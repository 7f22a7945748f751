-- The lines that `write_gaps` left are printed, or the answer that it gave.
use Rattle.std.proofs.Common.{rules, ◌*◌, ◌≤◌, arith, refl, length-take, subst, OnOk}
use Rattle.std.specs.Io.KnownBytes.{Appends}
use Rattle.rules.proofs.Gaps.{accepted_lines}
use Rattle.folder.proofs.GapTexts.{lines_text, refusal_text}
use Rattle.folder.proofs.gaps.print_lines.Goals as goal
use Rattle.folder.proofs.gaps.print_lines.Given.{Over}
use Rattle.folder.proofs.gaps.print_lines.Goals.{In-Ok}

-- the lines are within the buffer
within : (g : Over) (c : In-Ok g) → 17 * c.in-Ok.count ≤ 527
within g c = (accepted_lines (rw c.in-Ok.is at c.write_gaps.ensures) refl).1

pub overflow_mul-lines : goal.overflow_mul-lines
overflow_mul-lines g c = let few = within g (goal.at.overflow_mul-lines g c).In-Ok in omega arith

pub slice_bounds-lines-end : goal.slice_bounds-lines-end
slice_bounds-lines-end g c =
    omega (arith, within g (goal.at.slice_bounds-lines-end g c).In-Ok, c.write_gaps.auto.lines)

pub slice_bounds-print-end : goal.slice_bounds-print-end
slice_bounds-print-end g c =
    let few = within g (goal.at.slice_bounds-print-end g c).In-Ok in
    omega (arith, few, c.write_gaps.auto.lines, length-take (17 * c.in-Ok.count) c.write_gaps.new.lines)

pub returns-in-Ok-clause-written : goal.returns-in-Ok-clause-written
returns-in-Ok-clause-written g c =
    let held = g.W.Write.contents in
    let is = lines_text (rw (c.in-Ok.is, c.deref.ensures.0, c.deref-2.ensures.0) at c.write_gaps.ensures) (search rules)
    refl in
    subst
    (λ l. OnOk c.print.result (Appends (held c.args.output.now) (held c.print.new.output) l))
    is c.print.ensures.written

pub returns-in-Err-clause-written : goal.returns-in-Err-clause-written
returns-in-Err-clause-written g c =
    let held = g.W.Write.contents in
    let is = refusal_text (rw (c.in-Err.is, c.deref.ensures.0, c.deref-2.ensures.0) at c.write_gaps.ensures)
    (search rules) c.in-Err.refusal refl in
    subst
    (λ l. OnOk c.print_number.result (Appends (held c.args.output.now) (held c.print_number.new.output) l))
    is (rw c.from.ensures at c.print_number.ensures.written)
