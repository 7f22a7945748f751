-- `authorities::overlap::limits_as` meets its contract. Assumes nothing.
use Rattle.std.proofs.Common.{rules, ◌≡◌, sym, ◌∙◌}
use Rattle.std.specs.Prelude.{find}
use Rattle.std.specs.Option.{unwrap_or}
use Rattle.rules.specs.Board.{board_of, is_authority, no_authority}
use Rattle.authorities.specs.Sorts.{kind_test}
use Rattle.authorities.proofs.Excepted.{limits_found}
use Rattle.authorities.proofs.overlap.limits_as.Goals as goal

pub returns : goal.returns
unfolding board_of
returns c =
    let found : c.unwrap_or_default.result ≡ unwrap_or c.find.result no_authority = search rules in
    let looked : c.unwrap_or_default.result
    ≡ unwrap_or (find (is_authority c.args.n) c.args.register.now.authorities.items) no_authority =
    rw (← c.deref.ensures.0, ← c.find.ensures) found in
    c.limits_if.ensures ∙ sym (limits_found (kind_test c.args.sort) (board_of c.args.register.now) c.args.n looked)
