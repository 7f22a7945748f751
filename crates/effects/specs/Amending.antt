-- One live authority changed, and no other. Assumes nothing.
use Rattle.std.specs.Prelude.{◌≡◌, List}
use Rattle.rules.specs.declared.AuthorityNo.{AuthorityNo}
use Rattle.rules.specs.declared.Authority.{Authority}
use Rattle.rules.specs.Board.{amended}

-- The authorities with the one that has the number n changed in its place. `Gives x y` says that the change of x may
-- give y: where it gives what a function does, they are the authorities amended by that function.
pub record AmendedBy (Gives : Authority → Authority → Type 0) (n : AuthorityNo) (xs ys : List Authority) : Type 0 where
  pub by : (f : Authority → Authority) → ((x y : Authority) → Gives x y → y ≡ f x) → ys ≡ amended n f xs
