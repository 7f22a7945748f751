-- `board::taking::take` meets its contract: a refused call keeps its register, an accepted one gets its effect, its
-- stamp and its number. Assumes nothing.
use Rattle.std.proofs.Common.{sym}
use Rattle.effects.proofs.Rooms.{room_for}
use Rattle.board.proofs.Deciding.{taken_none, taken_request, taken_other}
use Rattle.board.proofs.taking.take.Goals as goal

pub returns-in_err-call : goal.returns-in_err-call
returns-in_err-call c =
    taken_none _ _ _ c.requires (rw c.in_err-call.was at c.allow.ensures).answered c.from_residual.ensures.1

pub carry_out-requires-clause-room : goal.carry_out-requires-clause-room
carry_out-requires-clause-room c = room_for _ _ _ (rw c.in_ok-call.was at c.allow.ensures).free

pub carry_out-requires-clause-once : goal.carry_out-requires-clause-once
carry_out-requires-clause-once c = c.requires.once

pub returns-in-Request : goal.returns-in-Request
returns-in-Request c =
    let a = rw c.in_ok-call.was at c.allow.ensures in
    taken_request _ _ _ _ _ _ _ c.requires (rw c.in-Request.is at a.named) (sym a.answered)
    (rw c.in-Request.is at c.carry_out.ensures)

pub returns-in_default : goal.returns-in_default
returns-in_default c =
    let a = rw c.in_ok-call.was at c.allow.ensures in
    taken_other _ _ _ _ c.requires a.named (sym a.answered) c.carry_out.ensures c.in_default.not-Request
