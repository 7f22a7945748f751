-- What the run and the page promise is what this function does.
use Rattle.std.proofs.Common.{rules}
use Rattle.folder.proofs.page.print_page_after.Goals as goal

pub returns : goal.returns
returns g c = search rules

pub returns-in_err-board : goal.returns-in_err-board
returns-in_err-board g c = search rules
