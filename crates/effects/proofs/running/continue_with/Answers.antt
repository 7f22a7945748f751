-- `effects::running::continue_with` meets its contract. Assumes nothing.
use Rattle.std.proofs.Common.{rules}
use Rattle.lists.proofs.Each.{changed-where}
use Rattle.rules.specs.Effects.{is_with, continued_with}
use Rattle.effects.proofs.running.continue_with.Goals as goal

pub returns : goal.returns
returns c =
    changed-where (is_with c.args.old) (continued_with c.args.new c.args.limits) c.change.ensures
    (λ x b k. search rules)
    (λ x y k. search rules)
