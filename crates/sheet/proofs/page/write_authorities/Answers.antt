-- `sheet::page::write_authorities` meets its contract. The loop's invariant: the lines of the first i authorities stand
-- on the page. Assumes nothing.
use Rattle.std.proofs.Common.{refl, sym, ◌∙◌, ◌+◌, ◌*◌, ◌≤◌, arith, length, rules}
use Rattle.columns.proofs.Writing.{part_length}
use Rattle.sheet.proofs.Fitting.{authority_73, now_small}
use Rattle.rules.proofs.PrintedLines.{printed_none}
use Rattle.sheet.proofs.Pages.{few, starts_at, listed_room, line_written}
use Rattle.sheet.proofs.page.write_authorities.Goals as goal
use Rattle.sheet.proofs.page.write_authorities.Goals.{In-loop-i}

pub loop-i-init : goal.loop-i-init
loop-i-init c = printed_none _

pub authority_cells-requires : goal.authority_cells-requires
authority_cells-requires c =
    let xs = c.deref-authority-items in (
      starts_at c.args.register.now c.requires.0 _ xs.ensures.0 c.loop-i.i _ c.loop-i-test.true,
      rw c.minute_of-now.ensures (now_small _ _ (search rules) (search rules)),
    )

-- there is room for one line more
room : (c : In-loop-i) → 73 * c.loop-i.i + 73 ≤ length c.loop-i.page
room c =
    let xs = c.deref-authority-items in
    listed_room xs.result.now c.minute_of-now.result c.loop-i.i _ _ c.loop-i.invariant c.loop-i-test.true
    (few c.args.register.now c.requires.0 _ xs.ensures.0) c.requires.1

pub fill_cells-requires : goal.fill_cells-requires
fill_cells-requires c =
    let k = goal.at.fill_cells-requires c in
    let fit = c.authority_cells.ensures.1 in
    (omega arith, (omega arith, (part_length _ _ 73 _ (room k.In-loop-i) refl ∙ sym (authority_73 _ fit), fit)))

pub loop-i-preserved : goal.loop-i-preserved
loop-i-preserved c =
    let xs = c.deref-authority-items in
    line_written xs.result.now c.minute_of-now.result c.loop-i.i _ _ c.loop-i.invariant c.loop-i-test.true
    (few c.args.register.now c.requires.0 _ xs.ensures.0) c.requires.1 _ _ _ c.authority_cells.ensures
    c.fill_cells.ensures
