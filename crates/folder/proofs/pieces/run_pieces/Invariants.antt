-- The pieces so far are made, and their journal is written.
use Rattle.rules.specs.Board.{board_of}
use Rattle.folder.proofs.FileRuns.{SoFar}
use Rattle.folder.proofs.pieces.run_pieces.Given as goal

abbrev pub invariant-loop-piece : goal.invariant-loop-piece
invariant-loop-piece g l =
    SoFar (board_of l.fn.opened) (board_of l.board) l.piece (g.F.Read.remaining l.initial.file)
    (g.F.Read.remaining l.file) (g.W.Write.contents l.initial.output) (g.W.Write.contents l.output)
