-- The refusals that AGREE and JOIN have in common: the officer of an authority in force agrees, and a pending authority
-- records it. Assumes nothing.
use Rattle.std.specs.Prelude.{ℕ, Bool, cond, not, ◌&&◌, ◌||◌, eqb, Result, Ok, Err}
use Rattle.rules.specs.declared.refusal.Refusal.{Refusal}
use Rattle.rules.specs.declared.refusal.Refusal.TheVariants.{NotLive, Stage, Officer, AlreadySo}
use Rattle.rules.specs.declared.kind.Kind.{Kind}
use Rattle.rules.specs.declared.kind.Kind.TheVariants.{Lpa, Toa, Twa}
use Rattle.rules.specs.declared.AuthorityNo.{AuthorityNo}
use Rattle.rules.specs.declared.Authority.{Authority}
use Rattle.rules.specs.Board.{Board, is_lpa, is_toa, is_twa, is_in_force, authority}
use Rattle.rules.specs.Refusals.{not_live, has_recorded}

-- the second kind is the first
abbrev pub same_kind : Kind → Kind → Bool
same_kind Lpa k = is_lpa k
same_kind Toa k = is_toa k
same_kind Twa k = is_twa k

-- 6: x is not in force and of its kind, or y is not pending and of its kind
abbrev pub not_to_record : Kind → Kind → Authority → Authority → Bool
not_to_record x_kind y_kind x y =
    not (same_kind x_kind x.kind && is_in_force x && same_kind y_kind y.kind && not (is_in_force y))

-- 6, 7 and 8, with the two found: the agreement of the officer of x, whose number is n, recorded with y, or refused
abbrev pub agreement_with : Kind → Authority → Kind → Authority → AuthorityNo → ℕ → Result (Unit {0}) Refusal
agreement_with x_kind x y_kind y n officer =
    cond (not_to_record x_kind y_kind x y) (Err Stage)
    (cond (not (eqb x.officer officer)) (Err Officer)
    (cond (has_recorded n y) (Err AlreadySo) (Ok tt)))

-- 5 before these: the agreement of the officer of n, recorded with m, or the first refusal whose condition holds
abbrev pub agreement_of : Board → Kind → AuthorityNo → Kind → AuthorityNo → ℕ → Result (Unit {0}) Refusal
agreement_of b n_kind n m_kind m officer =
    cond (not_live b n || not_live b m) (Err NotLive)
    (agreement_with n_kind (authority b n) m_kind (authority b m) n officer)
