-- The room that an accepted REQUEST or MOVE has. Assumes nothing.
use Rattle.std.proofs.Common.{◌≡◌, refl, ℕ, ◌<◌, Bool, true, false, List, ◌∷◌, length, leb, leb-false, arith, Some}
use Rattle.lists.proofs.Tests.{told, and_no_r}
use Rattle.rules.specs.declared.Seven.{Seven}
use Rattle.rules.specs.declared.Call.{Call}
use Rattle.rules.specs.declared.Call.TheVariants.{Request, Withdraw, Agree, Block, Unblock, Grant, Clear, Reoccupy}
use Rattle.rules.specs.declared.Call.TheVariants.{HandOver, Fulfil, Continue, Move, Passed, Term, Join, BookOut, BookIn}
use Rattle.rules.specs.Board.{Board}
use Rattle.rules.specs.Refusals.{Refusal, ◌when◌, lowest, full, no_room, own}
use Rattle.effects.specs.Room.{HasPlace}
use Rattle.effects.specs.Room.{RoomFor}

-- the first condition of a call that is not refused does not hold
off : (n : ℕ) (t : Bool) (rs : List Refusal) → 0 < n → lowest (n when t ∷ rs) ≡ 0 → t ≡ false
unfolding lowest
off n true rs p e = absurd (omega arith)
off n false rs p e = refl

has_place : (b : Board) → full b ≡ false → HasPlace b
unfolding full
has_place b h =
    let few : leb 32 (length b.authorities) ≡ false = search (told, h) in
    let numbers-left : leb 9999 b.last.0 ≡ false = search (told, h) in
    record { place = leb-false 32 (length b.authorities) few; number = leb-false 9999 b.last.0 numbers-left }

pub room_for : (b : Board) (s : Seven) (c : Call) → lowest (own b s (Some c)) ≡ 0 → RoomFor b c
unfolding own no_room
room_for b s (Request kind low high officer) e = has_place b (off 9 _ _ (omega arith) e)
room_for b s (Withdraw n officer) e = tt
room_for b s (Agree toa twa officer) e = tt
room_for b s (Block g) e = tt
room_for b s (Unblock g) e = tt
room_for b s (Grant n officer) e = tt
room_for b s (Clear n officer) e = tt
room_for b s (Reoccupy n officer) e = tt
room_for b s (HandOver n out into) e = tt
room_for b s (Fulfil n officer assurances) e = tt
room_for b s (Continue old new officer_old officer_new) e = tt
room_for b s (Move t g n officer) e =
    record { room = λ out. leb-false 32 (length b.trains) (and_no_r _ _ (off 9 _ _ (omega arith) e) out) }
room_for b s (Passed t) e = tt
room_for b s (Term n day time minutes) e = tt
room_for b s (Join twa toa officer distance) e = tt
room_for b s (BookOut g paper) e = tt
room_for b s (BookIn g paper certified new) e = tt
