-- `board::entry::open` meets its contract. Assumes nothing.
use Rattle.board.proofs.OpeningBoard.{opened_post, refused_post}
use Rattle.board.proofs.entry.open.Goals as goal

pub returns-in-Some : goal.returns-in-Some
returns-in-Some c = opened_post _ c.in-Some.plan _ c.in-Some.ensures c.fresh.ensures

pub returns-in-None : goal.returns-in-None
returns-in-None c = refused_post _ _ c.in-None.ensures c.closed.ensures
