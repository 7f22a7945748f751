-- One piece of a file of calls: what its run leaves, and how the file goes on behind it. Assumes nothing.
use Rattle.std.specs.Prelude.{ℕ, ◌+◌, ◌*◌, ◌≡◌, cond, List, length, take, eqb, ltb}
use Rattle.rules.specs.declared.Register.{Register}
use Rattle.rules.specs.Board.{Board, board_of}
use Rattle.calls.specs.Run.{run_of}
use Rattle.folder.specs.declared.piece.Rest.{Rest}
use Rattle.folder.specs.declared.piece.Rest.TheVariants.{More, End, Malformed}

-- how the file goes on behind a piece of so many bytes, read into so much room, of which so many lines were calls that
-- were made, and which has so many lines before it: bytes behind these lines are a malformed line, the next one, and a
-- piece that does not fill the room is the last
abbrev pub behind : ℕ → ℕ → ℕ → ℕ → Rest
behind before lines got room =
    cond (eqb (43 * lines) got) (cond (ltb got room) End More) (Malformed (before + lines + 1))

-- what making the calls of a piece on a board leaves, 1024 of them at most: the board, how many were made, how the
-- file goes on, and their journal at the front of the buffer
pub record PieceRan (before room : ℕ) (b : Board) (text : List ℕ) (register : Register) (count : ℕ) (on : Rest)
    (buffer : List ℕ) : Type 0 where
  pub board : board_of register ≡ (run_of 1024 b text).board
  pub lines : count ≡ (run_of 1024 b text).lines
  pub rest : on ≡ behind before count (length text) room
  pub journal : take (55 * count) buffer ≡ (run_of 1024 b text).text
