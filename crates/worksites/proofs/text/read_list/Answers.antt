-- `worksites::text::read_list` meets its contract. Assumes nothing.
use Rattle.std.proofs.Common.{◌∙◌, ◌+◌, ap, sym, arith}
use Rattle.worksites.proofs.ListTexts.{no_line, bytes_left, all_read, first_sent, worksites_sent}
use Rattle.worksites.proofs.text.read_list.Goals as goal

pub returns-in_default : goal.returns-in_default
returns-in_default c = no_line _ _ (c.deref.ensures.0 ∙ c.read_pairs-pairs.ensures) c.in_default.ensures.cases

pub returns-then-len-min : goal.returns-then-len-min
returns-then-len-min c =
    let left = bytes_left _ _ c.read_pairs-pairs.ensures
    (λ e. c.if-len-min.true (omega (arith, e, c.len.ensures.value, c.min.ensures))) in
    (left.0, ap (λ n. n + 1) c.len-then-len-min.ensures.value ∙ left.1)

pub returns : goal.returns
returns c =
    let p = c.read_pairs-pairs.ensures in
    let e = sym c.deref.ensures.0 ∙ c.in-Some.ensures.cases.0 in
    let f = first_sent _ _ p _ _ e in
    let w = worksites_sent _ _ p _ _ e in (
      all_read _ _ p _ _ e (omega (arith, c.if-len-min.false, c.len.ensures.value, c.min.ensures)),
      c.narrowed.ensures ∙ f.0,
      c.narrowed-2.ensures ∙ f.1,
      c.worksites_on-from.ensures.from ∙ w.0,
      c.worksites_on-from.ensures.to ∙ w.1,
    )
