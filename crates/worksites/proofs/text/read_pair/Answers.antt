-- `worksites::text::read_pair` meets its contract, column by column. Assumes nothing.
use Rattle.std.proofs.Common.{sym, ◌∙◌}
use Rattle.worksites.proofs.PairLines.{first_cut, second_cut, not_fed, first_bad, second_bad, both_read}
use Rattle.worksites.proofs.text.read_pair.Goals as goal

pub returns-in_err-first : goal.returns-in_err-first
returns-in_err-first c = c.from_residual.ensures ∙ first_cut _ c.in_err-first.ensures.cases

pub returns-in_err-second : goal.returns-in_err-second
returns-in_err-second c =
    c.from_residual-in_err-second.ensures
    ∙ second_cut _ _ _ c.in_ok-first.ensures.cases c.in_err-second.ensures.cases

pub returns-then-not-is_line_feed : goal.returns-then-not-is_line_feed
returns-then-not-is_line_feed c =
    not_fed _ _ _ c.in_ok-first.ensures.cases _ _ c.in_ok-second.ensures.cases
    (sym c.is_line_feed.ensures ∙ c.if-not-is_line_feed.true)

pub returns-in_err-first-2 : goal.returns-in_err-first-2
returns-in_err-first-2 c =
    c.from_residual-in_err-first-2.ensures
    ∙ first_bad _ _ _ c.in_ok-first.ensures.cases _ _ c.in_ok-second.ensures.cases c.in_err-first-2.ensures

pub returns-in_err-second-2 : goal.returns-in_err-second-2
returns-in_err-second-2 c =
    c.from_residual-in_err-second-2.ensures
    ∙ second_bad _ _ _ c.in_ok-first.ensures.cases _ _ c.in_ok-second.ensures.cases c.in_err-second-2.ensures

pub returns : goal.returns
returns c =
    both_read _ _ _ c.in_ok-first.ensures.cases _ _ c.in_ok-second.ensures.cases
    (sym c.is_line_feed.ensures ∙ c.if-not-is_line_feed.false) _ _ c.in_ok-first-2.ensures c.in_ok-second-2.ensures
