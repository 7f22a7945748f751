-- The two sorts of authority, and what one in force of a sort holds. Assumes nothing.
use Rattle.std.specs.Prelude.{ℕ, Bool, cond, ◌&&◌}
use Rattle.rules.specs.declared.kind.Kind.{Kind}
use Rattle.rules.specs.declared.Authority.{Authority}
use Rattle.rules.specs.Board.{exclusive, is_twa, is_in_force}
use Rattle.authorities.specs.declared.Sort as Sorted
use Rattle.authorities.specs.declared.Sort.TheVariants.{Exclusive, Twa}

-- "1 LPA, 2 TOA, 3 TWA; 1 and 2 are exclusive": the kinds of a sort
abbrev pub kind_test : Sorted.Sort → Kind → Bool
kind_test Exclusive = exclusive
kind_test Twa = is_twa

-- the limits of an authority, where it is in force and its kind passes; else none
abbrev pub limits_if : (Kind → Bool) → Authority → ℕ
limits_if is_kind a = cond (is_in_force a && is_kind a.kind) a.limits 0
