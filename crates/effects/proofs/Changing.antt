-- One authority amended, for the check. Assumes nothing.
use Rattle.std.proofs.Common.{◌≡◌, List}
use Rattle.rules.specs.declared.AuthorityNo.{AuthorityNo}
use Rattle.rules.specs.declared.Authority.{Authority}
use Rattle.rules.specs.Board.{amended}
use Rattle.effects.specs.Amending.{AmendedBy}

-- where the change gives what f does, the authorities are amended by f
pub amended_by : {Gives : Authority → Authority → Type 0} {n : AuthorityNo} {xs ys : List Authority}
    (f : Authority → Authority)
    → AmendedBy Gives n xs ys → ((x y : Authority) → Gives x y → y ≡ f x) → ys ≡ amended n f xs
amended_by f e gives = e.by f gives
