-- `authorities::limits_of` meets its contract. Assumes nothing.
use Rattle.std.proofs.Common.{◌≡◌, refl, rules}
use Rattle.std.specs.Option.{unwrap_or}
use Rattle.lists.proofs.Finds.{first-find}
use Rattle.rules.specs.Board.{is_authority, no_authority}
use Rattle.authorities.proofs.limits_of.Goals as goal

pub returns : goal.returns
returns c =
    let found : c.unwrap_or_default.result ≡ unwrap_or c.find.result no_authority = search rules in
    rw (first-find (is_authority c.args.n) no_authority, ← c.find.ensures, ← found) refl
