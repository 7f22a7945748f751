-- `worksites::lines::write_gaps` meets its contract. Assumes nothing.
use Rattle.std.proofs.Common.{◌≡◌, ◌∙◌, ap, length}
use Rattle.rules.specs.Worksites.{gaps}
use Rattle.worksites.proofs.GapAnswers.{short_of_lines, not_a_list, too_far, lines_written, some_worksites, lines_due}
use Rattle.worksites.proofs.lines.write_gaps.Goals as goal

pub returns-then-lines-lt-LINES_SIZE : goal.returns-then-lines-lt-LINES_SIZE
returns-then-lines-lt-LINES_SIZE c = short_of_lines _ _ _ _ _ c.if-lines-lt-LINES_SIZE.true

pub returns-then-not-is_stated-is_list : goal.returns-then-not-is_stated-is_list
returns-then-not-is_stated-is_list c =
    not_a_list _ _ _ _ _ c.if-lines-lt-LINES_SIZE.false
    (rw (c.is_stated.ensures, c.is_list.ensures) at c.if-not-is_stated-is_list.true)

pub gaps_of-gaps-requires : goal.gaps_of-gaps-requires
gaps_of-gaps-requires c =
    some_worksites _ _ _ _ (rw (c.is_stated.ensures, c.is_list.ensures) at c.if-not-is_stated-is_list.false)

pub returns-then-is_twa-is_any_too_far : goal.returns-then-is_twa-is_any_too_far
returns-then-is_twa-is_any_too_far c =
    too_far _ _ _ _ _ c.if-lines-lt-LINES_SIZE.false
    (rw (c.is_stated.ensures, c.is_list.ensures) at c.if-not-is_stated-is_list.false)
    (rw (c.is_twa.ensures, c.is_any_too_far.ensures, c.deref.ensures.0, c.gaps_of-gaps.ensures) at
    c.if-is_twa-is_any_too_far.true)

pub write_lines-requires : goal.write_lines-requires
write_lines-requires c =
    lines_due _ _ _ _ (rw (c.is_stated.ensures, c.is_list.ensures) at c.if-not-is_stated-is_list.false) _
    (c.deref-2.ensures.0 ∙ c.gaps_of-gaps.ensures) _ c.if-lines-lt-LINES_SIZE.false

pub returns : goal.returns
returns c =
    let gathered : c.deref-2.result.now ≡ gaps c.args.from.now c.args.to.now =
    c.deref-2.ensures.0 ∙ c.gaps_of-gaps.ensures in
    rw (c.len.ensures.value ∙ ap length c.gaps_of-gaps.ensures)
    (lines_written _ _ _ _ _ c.if-lines-lt-LINES_SIZE.false
    (rw (c.is_stated.ensures, c.is_list.ensures) at c.if-not-is_stated-is_list.false)
    (rw (c.is_twa.ensures, c.is_any_too_far.ensures, c.deref.ensures.0, c.gaps_of-gaps.ensures) at
    c.if-is_twa-is_any_too_far.false)
    _
    (rw gathered at c.write_lines.ensures))
