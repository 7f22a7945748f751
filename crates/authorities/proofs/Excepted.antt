-- The limits of an authority that 13 excepts, looked for. Assumes nothing.
use mathlib.Core.Path.{◌≡◌, refl, sym, ap, ◌∙◌}
use mathlib.Core.Bool.{Bool, true, false, cond, ◌&&◌}
use Rattle.std.specs.Prelude.{find}
use Rattle.std.specs.Option.{unwrap_or}
use Rattle.lists.proofs.Finds.{first-find}
use Rattle.lists.proofs.Search.{first_none}
use Rattle.rules.specs.declared.kind.Kind.{Kind}
use Rattle.rules.specs.declared.AuthorityNo.{AuthorityNo}
use Rattle.rules.specs.declared.Authority.{Authority}
use Rattle.rules.specs.Board.{Board, no_authority, is_in_force, is_authority, live, authority}
use Rattle.rules.specs.Stored.{limits_as}
use Rattle.authorities.specs.Sorts.{limits_if}

module _ (sort : Kind → Bool) (b : Board) (n : AuthorityNo) {a : Authority}
    (looked : a ≡ unwrap_or (find (is_authority n) b.authorities) no_authority) where
  is_a : authority b n ≡ a
  unfolding authority
  is_a = first-find (is_authority n) no_authority b.authorities ∙ sym looked

  none_live : live b n ≡ false → a ≡ no_authority
  unfolding live authority
  none_live l = sym is_a ∙ first_none (is_authority n) no_authority b.authorities l

  by_live : (t : Bool) → live b n ≡ t
      → cond (t && is_in_force (authority b n) && sort (authority b n).kind) (authority b n).limits 0
      ≡ limits_if sort a
  by_live true l = rw is_a refl
  by_live false l = sym (ap (limits_if sort) (none_live l))

  -- none that isn't live is in force
  pub limits_found : limits_as sort b n ≡ limits_if sort a
  unfolding limits_as
  limits_found = by_live (live b n) refl
