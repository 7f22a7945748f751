-- `answers::agreements::answer_join` meets its contract, where its agreement is refused. Assumes nothing.
use Rattle.std.proofs.lemmas.Result.{err_from_is_err_and}
use Rattle.rules.specs.Refusals.{lowest, not_to_join, not_officer}
use Rattle.answers.proofs.Agreeing.{refused}
use Rattle.answers.proofs.agreements.answer_join.Goals as goal

pub returns-in_err-answer_agreement : goal.returns-in_err-answer_agreement
unfolding lowest not_to_join not_officer
returns-in_err-answer_agreement c =
    let p = err_from_is_err_and c.from_residual.result c.from_residual.ensures.1 in
    rw (p.1, p.2) (refused _ _ _ _ _ _ c.in_err-answer_agreement.ensures)
