-- `folder::open_board::Board::call` meets its contract. Assumes nothing.
use Rattle.folder.proofs.open_board.Board.call.Goals as goal

pub returns : goal.returns
returns c = rw (c.new.ensures, ← c.self.view_is) c.call-called.ensures
