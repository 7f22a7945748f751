-- A page of a kept register has 33 lines at most.
use Rattle.sheet.proofs.Pages.{lines_few}
use Rattle.folder.proofs.open_board.Board.write_sheet.Goals as goal

pub returns-clause-within : goal.returns-clause-within
returns-clause-within c = lines_few c.self.invariant c.write_sheet.ensures
