-- The room that an effect asks for. Assumes nothing.
use Rattle.std.specs.Prelude.{◌<◌, ◌≡◌, true, length, ltb, Bool}
use Rattle.rules.specs.declared.TrainNo.{TrainNo}
use Rattle.rules.specs.declared.GateNo.{GateNo}
use Rattle.rules.specs.declared.Train.{Train}
use Rattle.rules.specs.declared.Call.{Call}
use Rattle.rules.specs.declared.Call.TheVariants.{Request, Move}
use Rattle.rules.specs.Board.{Board, is_outside, gate_at, train_no}

-- a REQUEST: a place for one more authority, and a number for it
pub record HasPlace (b : Board) : Type 0 where
  pub place : length b.authorities < 32
  pub number : b.last.0 < 9999

-- a gate from outside has room for one more train behind it
pub record HasRoom (b : Board) (g : GateNo) : Type 0 where
  pub room : is_outside (gate_at b.gates g).from ≡ true → length b.trains < 32

-- the train has a higher number
abbrev pub is_above : TrainNo → Train → Bool
is_above n t = ltb n.0 (train_no t)

-- REQUEST and MOVE ask for room, the other calls for nothing
abbrev pub RoomFor : Board → Call → Type 0
RoomFor b (Request kind low high officer) = HasPlace b
RoomFor b (Move t g n officer) = HasRoom b g
RoomFor b c = Unit {0}
