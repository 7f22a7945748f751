-- One call as a whole, a list of calls, and the whole results of the functions `open` and `call`. Assumes nothing.
use Rattle.std.specs.Prelude.{ℕ, ◌*◌, ◌≤◌, ◌<◌, ◌≡◌, cond, ◌&&◌, length, eqb, IsErr}
use mathlib.Core.List.{List, [], ◌∷◌, Memᴰ}
use Rattle.lists.specs.Order.{Ascending}
use Rattle.rules.specs.declared.Authority.{Authority}
use Rattle.rules.specs.declared.Register.{Register}
use Rattle.rules.specs.declared.Seven.{Seven}
use Rattle.rules.specs.declared.Opened.{Opened}
use Rattle.rules.specs.declared.Called.{Called}
use Rattle.rules.specs.Board.{Board, board_of, with_stamp, authority_no, train_no}
use Rattle.rules.specs.Call.{named}
use Rattle.rules.specs.Refusals.{answer}
use Rattle.rules.specs.Effects.{effect, next_no}
use Rattle.rules.specs.Stored.{Stored, SortsApart}
use Rattle.rules.specs.Plan.{open_board, open_answer}
use Rattle.rules.specs.Journal.{line_after}
use Rattle.rules.specs.Answer.{answer_no, number_no, is_numbered}

-- ---- one call

-- the board that a call returns: the effect and the call's stamp where it is accepted, else the same board
unfoldable pub after : Board → Seven → ℕ → Board
after b s room = cond (eqb (answer b s room) 0) (with_stamp s.day s.time (effect b (named s))) b

-- the number allotted by REQUEST, else 0; "A refused call returns authority number 0."
unfoldable pub allotted : Board → Seven → ℕ → ℕ
allotted b s room = cond (eqb (answer b s room) 0 && eqb s.call 1) (next_no b).0 0

-- ---- a list of calls

-- a call that is made: its seven numbers, and the length of the buffer for its line
pub record Made : Type 0 where
  pub seven : Seven
  pub room : ℕ

-- a call that was answered: its seven numbers and its answer
pub record Answered : Type 0 where
  pub seven : Seven
  pub answer : ℕ

-- the answers to a list of calls, and the board after it: each call is handed the board that the call before it
-- returned
unfoldable pub trace : Board → List Made → List Answered
trace b [] = []
trace b (m ∷ ms) =
    record { seven = m.seven; answer = answer b m.seven m.room } ∷ trace (after b m.seven m.room) ms

unfoldable pub final : Board → List Made → Board
final b [] = b
final b (m ∷ ms) = final (after b m.seven m.room) ms

-- ---- the functions

-- 02, order 5: "Hold live authorities and trains by ascending number after every call", so that "each live authority
-- and each train on the board is held once" (theorem `held_once`); "at most 32 are live", "At most 32 are on the
-- board"; "Numbers are allotted 1, 2, 3 up to 9999"
pub record Once (b : Board) : Type 0 where
  pub authorities : Ascending authority_no b.authorities
  pub trains : Ascending train_no b.trains
  pub live : length b.authorities ≤ 32
  pub running : length b.trains ≤ 32
  pub last : b.last.0 ≤ 9999
  pub allotted : (a : Authority) → Memᴰ a b.authorities → (1 ≤ authority_no a) × (authority_no a ≤ b.last.0)

-- a register's portions and gates fit a set, and its lists are within what they can hold
pub record Bounds (r : Register) : Type 0 where
  pub portions : r.portions ≤ 64
  pub gates : length r.gates.items ≤ 64
  pub booked : length r.bookings.items ≤ 64
  pub live : length r.authorities.items ≤ 32
  pub running : length r.trains.items ≤ 32

-- "Day is 0 to 9999": a term starts in a minute of those 10,000 days of 1440 minutes
abbrev pub Starts : Board → Type 0
Starts b = (a : Authority) → Memᴰ a b.authorities → a.start < 10000 * 1440

-- what holds of every register that opening or a call returned: its lists are within what they can hold, what they hold
-- is held once, by ascending number, terms start within the days; and the three sets (02, order 8) are those that the
-- live authorities give, of which two in force of one sort share no portion
pub record Kept (r : Register) : Type 0 where
  pub bounds : Bounds r
  pub once : Once (board_of r)
  pub starts : Starts (board_of r)
  pub stored : Stored r
  pub sorts : SortsApart (board_of r)

-- the whole result of `open` for a plan's text
pub record OpenPost (text : List ℕ) (r : Opened) : Type 0 where
  pub board : board_of r.register ≡ open_board text
  pub answered : answer_no r.answer ≡ open_answer text
  pub kept : Kept r.register

-- the whole result of `call` for a register, seven numbers and a buffer
pub record CallPost (before : Register) (s : Seven) (buffer : List ℕ) (r : Called) (buffer' : List ℕ) : Type 0 where
  pub board : board_of r.register ≡ after (board_of before) s (length buffer)
  pub answered : answer_no r.answer ≡ answer (board_of before) s (length buffer)
  pub number : number_no r.answer ≡ allotted (board_of before) s (length buffer)
  pub numbered : is_numbered r.answer ≡ (eqb (answer (board_of before) s (length buffer)) 0 && eqb s.call 1)
  pub line : buffer' ≡ line_after s (answer_no r.answer) (number_no r.answer) buffer
  -- a refused call "leaves the register as before": the very one that it was handed
  pub unchanged : IsErr r.answer → r.register ≡ before
  pub kept : Kept r.register
