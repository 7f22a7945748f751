-- `effects::running::free` meets its contract. Assumes nothing.
use Rattle.std.proofs.Common.{rules}
use Rattle.lists.proofs.Each.{changed-where}
use Rattle.rules.specs.Call.{authority_of}
use Rattle.rules.specs.Effects.{is_with, with_authority}
use Rattle.effects.proofs.running.free.Goals as goal

pub returns : goal.returns
returns c =
    changed-where (is_with c.args.n) (with_authority (authority_of 0)) c.change.ensures (λ x b k. search rules)
    (λ x y k. search rules)
