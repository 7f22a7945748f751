-- The run of a text of calls: the journal's lines, and the board after the last call (01, "The journal"). Assumes
-- nothing.
use Rattle.std.specs.Prelude.{ℕ, ◌+◌, ◌*◌, ◌/◌, ◌≡◌, Bool, not, cond, List, [], ◌∷◌, ◌++◌, map, length, drop, eqb}
use Rattle.rules.specs.declared.Seven.{Seven}
use Rattle.rules.specs.declared.Register.{Register}
use Rattle.rules.specs.Board.{Board, board_of}
use Rattle.rules.specs.Refusals.{answer}
use Rattle.rules.specs.Journal.{journal_line}
use Rattle.rules.specs.Step.{Made, Kept, after, allotted, final}
use Rattle.calls.specs.CallsIn.{calls_in}

-- a call made with room for its line, 55 bytes
abbrev pub made : Seven → Made
made s = record { seven = s; room = 55 }

-- the journal of a list of calls: a line for each, each call on the board that the call before it returned
unfoldable pub journal : Board → List Seven → List ℕ
journal b [] = []
journal b (s ∷ rest) = journal_line s (answer b s 55) (allotted b s 55) ++ journal (after b s 55) rest

-- a run: the board after it, its journal, how many calls it made, and whether it stopped before as many as it might
-- have made
pub record Run : Type 0 where
  pub board : Board
  pub text : List ℕ
  pub lines : ℕ
  pub stopped : Bool

-- the run of at most n calls of a text
abbrev pub run_over : ℕ → Board → List Seven → Run
run_over n b sevens = record {
  board = final b (map made sevens);
  text = journal b sevens;
  lines = length sevens;
  stopped = not (eqb (length sevens) n);
}

unfoldable pub run_of : ℕ → Board → List ℕ → Run
run_of n b text = run_over n b (calls_in n text)

-- a run, and after it, unless it stopped, another
infixl 20 ◌then_run◌
abbrev pub ◌then_run◌ : Run → Run → Run
r then_run s = cond r.stopped r (record {
  board = s.board;
  text = r.text ++ s.text;
  lines = r.lines + s.lines;
  stopped = s.stopped;
})

-- what a run over a text leaves, with a buffer for the lines: as many calls are made at most as the buffer has room for
-- lines of 55 bytes, their lines are at its front, and its later bytes stay
pub record RunPost
    (before : Register) (text buffer : List ℕ) (register : Register) (count : ℕ) (buffer' : List ℕ) : Type 0 where
  pub board : board_of register ≡ (run_of (length buffer / 55) (board_of before) text).board
  pub lines : count ≡ (run_of (length buffer / 55) (board_of before) text).lines
  pub bytes : buffer' ≡ (run_of (length buffer / 55) (board_of before) text).text ++ drop (55 * count) buffer
  pub kept : Kept register
