-- `folder::open_board::Board::open` meets its contract. Assumes nothing.
use Rattle.folder.proofs.open_board.Board.open.Goals as goal

pub returns : goal.returns
returns c = rw c.new.ensures c.open-opened.ensures
