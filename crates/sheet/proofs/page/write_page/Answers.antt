-- `sheet::page::write_page` meets its contract. Assumes nothing.
use Rattle.std.proofs.Common.{refl, sym, ap, ◌+◌, ◌∙◌, arith}
use Rattle.columns.proofs.Writing.{part_length}
use Rattle.sheet.proofs.Fitting.{total_73}
use Rattle.sheet.proofs.Pages.{page_room, sheet_printed, lines_live}
use Rattle.sheet.proofs.page.write_page.Goals as goal

pub fill_cells-requires : goal.fill_cells-requires
fill_cells-requires c =
    let fit = c.total_cells.ensures.1 in
    let room = page_room _ _ _ c.requires.0 c.requires.1 c.write_authorities.auto.page _ c.len-live.ensures.value in
    (omega arith, (omega arith, (part_length _ _ 73 _ room refl ∙ sym (total_73 _ fit), fit)))

pub returns-clause-lines : goal.returns-clause-lines
returns-clause-lines c = ap (λ n. n + 1) c.len-live.ensures.value ∙ sym (lines_live _)

pub returns-clause-size : goal.returns-clause-size
returns-clause-size c =
    let a = c.write_authorities in
    (sheet_printed _ _ _ c.requires.0 c.requires.1 a.auto.page _ c.len-live.ensures.value a.ensures _ _
    c.total_cells.ensures c.fill_cells.ensures).0

pub returns-clause-bytes : goal.returns-clause-bytes
returns-clause-bytes c =
    let a = c.write_authorities in
    (sheet_printed _ _ _ c.requires.0 c.requires.1 a.auto.page _ c.len-live.ensures.value a.ensures _ _
    c.total_cells.ensures c.fill_cells.ensures).1
