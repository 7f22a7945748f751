-- `answers::agreements::answer_agree` meets its contract. Assumes nothing.
use Rattle.rules.specs.Refusals.{lowest, not_to_agree, not_officer}
use Rattle.answers.proofs.Agreeing.{agreed}
use Rattle.answers.proofs.agreements.answer_agree.Goals as goal

pub returns : goal.returns
unfolding lowest not_to_agree not_officer
returns c = agreed _ _ _ _ _ c.answer_agreement.ensures
