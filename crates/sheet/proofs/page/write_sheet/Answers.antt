-- `sheet::page::write_sheet` meets its contract. Assumes nothing.
use Rattle.sheet.proofs.Pages.{sheet_short}
use Rattle.sheet.proofs.page.write_sheet.Goals as goal

pub returns-then-page-lt-PAGE_SIZE : goal.returns-then-page-lt-PAGE_SIZE
returns-then-page-lt-PAGE_SIZE c = sheet_short _ _ c.if-page-lt-PAGE_SIZE.true
