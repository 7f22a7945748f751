-- `sheet::rows::minutes_in_hand` meets its contract. Assumes nothing.
use Rattle.std.proofs.Common.{rules}
use Rattle.sheet.proofs.Fitting.{minutes_none, minutes_some}
use Rattle.sheet.proofs.rows.minutes_in_hand.Goals as goal

pub returns-then-a-eq0 : goal.returns-then-a-eq0
returns-then-a-eq0 c = minutes_none _ _ c.if-a-eq0.true

pub returns : goal.returns
returns c =
    minutes_some c.args.now c.args.a _ _ c.if-a-eq0.false c.from.ensures c.difference.ensures c.requires.0
    (search rules)
    c.requires.1
