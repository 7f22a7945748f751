-- `sheet::rows::authority_cells` meets its contract. Assumes nothing.
use Rattle.std.proofs.Common.{◌∙◌, rules}
use Rattle.sheet.proofs.Fitting.{authority_line_lem}
use Rattle.sheet.proofs.rows.authority_cells.Goals as goal

pub returns : goal.returns
returns c =
    authority_line_lem c.args.now c.args.a _ _ _ _ _ _ _ _ _ (search rules) (search rules) (search rules) c.from.ensures
    (c.from-3.ensures ∙ c.from-2.ensures) c.least.ensures c.greatest.ensures c.from-4.ensures c.stage_no.ensures
    c.site_no.ensures c.minutes_in_hand.ensures c.from-5.ensures
