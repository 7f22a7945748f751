-- `authorities::stored::held_as` meets its contract: the closure adds the limits of each authority in force of the
-- sort. Assumes nothing.
use Rattle.std.proofs.Common.{◌∙◌, rules, tests}
use Rattle.std.proofs.lemmas.Iterator.{YieldsList-from_slice}
use Rattle.std.proofs.lemmas.Iterator.Consumers.{fold_from_yields_List}
use Rattle.authorities.specs.Sorts.{kind_test}
use Rattle.authorities.proofs.Gathered.{more, held_gathered}
use Rattle.authorities.proofs.stored.held_as.Goals as goal

pub returns : goal.returns
returns c =
    let sort = kind_test c.args.sort in
    fold_from_yields_List _ (more sort) 0 _ c.fold.ensures.ran (YieldsList-from_slice c.args.authorities.now cc)
    (λ held a r f k. search (rules, tests))
    ∙ held_gathered sort _
