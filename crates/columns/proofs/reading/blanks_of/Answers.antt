-- `columns::reading::blanks_of` meets its contract: the blanks are as many as are taken from the text's front. Assumes
-- nothing.
use Rattle.std.proofs.Common.{◌∙◌, sym, ◌==◌, rules, tests}
use Rattle.std.proofs.lemmas.Iterator.{YieldsList-from_slice}
use Rattle.std.proofs.lemmas.Iterator.Consumers.{count_from_yields_List}
use Rattle.std.proofs.lemmas.Iterator.Search.{YieldsList-from_take_while}
use Rattle.std.proofs.lemmas.List.Folds.{length-prefix_len}
use Rattle.columns.proofs.Scan.{blanks_taken}
use Rattle.columns.proofs.reading.blanks_of.Goals as goal

pub returns : goal.returns
returns c =
    count_from_yields_List c.take_while.result _ c.count.ensures.ran
    (YieldsList-from_take_while _ (λ b. b == 32)
    (YieldsList-from_slice c.args.text.now (cc)) c.take_while.ensures.closure
    c.take_while.ensures.done (λ x b q k. search (rules, tests)))
    ∙ length-prefix_len (λ b. b == 32) c.args.text.now ∙ sym (blanks_taken c.args.text.now)
