-- `effects::running::head_of` meets its contract. Assumes nothing.
use Rattle.std.proofs.Common.{◌≡◌, refl, rules}
use Rattle.std.specs.Option.{unwrap_or}
use Rattle.lists.proofs.Finds.{first-find}
use Rattle.rules.specs.Board.{is_train, no_train}
use Rattle.effects.proofs.running.head_of.Goals as goal

pub returns : goal.returns
returns c =
    let found : c.unwrap_or_default.result ≡ unwrap_or c.find_train.result no_train = search rules in
    rw (first-find (is_train c.args.t) no_train, ← c.find_train.ensures, ← found) refl
