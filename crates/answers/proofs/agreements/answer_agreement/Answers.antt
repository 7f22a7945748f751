-- `answers::agreements::answer_agreement` meets its contract, where both are found. Assumes nothing.
use Rattle.rules.specs.Board.{board_of}
use Rattle.authorities.proofs.AuthorityLaws.{found}
use Rattle.answers.proofs.agreements.answer_agreement.Goals as goal

pub returns : goal.returns
unfolding board_of
returns c =
    let b = board_of c.args.register.now in
    let x = found b c.args.n (cc) c.in_ok-x.ensures.ok_part in
    let y = found b c.args.m (cc) c.in_ok-y.ensures.ok_part in
    rw (x.0, y.0, x.1, y.1) c.decide_agreement.ensures
