-- `board::taking::allow` meets its contract: 2 and 3 by the decoded call, then 4, then the call's own. Assumes nothing.
use Rattle.std.proofs.Common.{sym, ◌∙◌}
use Rattle.rules.specs.Board.{board_of}
use Rattle.board.proofs.Deciding.{Decoded, is_decoded, fault_answer, early_answer, own_answer, allowed_none}
use Rattle.board.proofs.Deciding.{allowed_one}
use Rattle.board.proofs.taking.allow.Goals as goal
use Rattle.board.proofs.taking.allow.Goals.{After-decode}

-- what the decoded call says of the answer
known : (c : After-decode) → Decoded (board_of c.args.register.now) c.args.s c.decode.result
known c = is_decoded c.args.register.now c.args.s c.decode.ensures c.len.ensures.value

pub returns-in_err-call : goal.returns-in_err-call
returns-in_err-call c =
    allowed_none _ _
    (fault_answer (known (goal.at.returns-in_err-call c).After-decode) c.in_err-call.was) c.from_residual.ensures.1

pub returns-then-is_early : goal.returns-then-is_early
returns-then-is_early c = record {
  answered =
      early_answer (known (goal.at.returns-then-is_early c).After-decode) c.in_ok-call.was
      (sym c.is_early.ensures ∙ c.if-is_early.true);
  named = tt;
  free = tt;
}

pub returns-in_err-answer_of : goal.returns-in_err-answer_of
returns-in_err-answer_of c =
    let k = known (goal.at.returns-in_err-answer_of c).After-decode in
    allowed_none _ _
    (rw c.in_err-answer_of.was at c.answer_of.ensures
    ∙ own_answer k c.in_ok-call.was (sym c.is_early.ensures ∙ c.if-is_early.false))
    c.from_residual-in_err-answer_of.ensures.1

pub returns : goal.returns
returns c =
    let k = known (goal.at.returns c).After-decode in
    allowed_one k c.in_ok-call.was (sym c.is_early.ensures ∙ c.if-is_early.false)
    (rw c.in_ok-answer_of.was at c.answer_of.ensures)
