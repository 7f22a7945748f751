-- `sheet::rows::total_cells` meets its contract. Assumes nothing.
use Rattle.std.proofs.Common.{ap, ◌∙◌}
use Rattle.sets.specs.Sets.{size}
use Rattle.sheet.proofs.Fitting.{total_line_lem}
use Rattle.sheet.proofs.rows.total_cells.Goals as goal

pub returns : goal.returns
returns c = total_line_lem _ c.requires _ _ (c.size.ensures ∙ ap size c.union-held.ensures) c.size-2.ensures
