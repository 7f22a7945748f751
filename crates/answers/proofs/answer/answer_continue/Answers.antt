-- `answers::answer::answer_continue` meets its contract. Assumes nothing.
use Rattle.rules.specs.Board.{board_of}
use Rattle.rules.specs.Refusals.{not_officer}
use Rattle.authorities.proofs.AuthorityLaws.{found}
use Rattle.authorities.proofs.Finding.{both_live}
use Rattle.answers.proofs.Waiting.{named_live}
use Rattle.answers.proofs.answer.answer_continue.Goals as goal

pub decide_continue-requires-clause-live : goal.decide_continue-requires-clause-live
unfolding board_of
decide_continue-requires-clause-live c =
    let y = found (board_of c.args.register.now) c.args.new (cc) c.in_ok-y.ensures.ok_part in
    named_live c.args.register.now c.args.new y.0 y.1

pub returns : goal.returns
unfolding not_officer board_of
returns c =
    let b = board_of c.args.register.now in
    both_live b _ _ _ (cc) c.in_ok-x.ensures.ok_part (cc) c.in_ok-y.ensures.ok_part
    (λ p q. rw (p, q) c.decide_continue.ensures)
