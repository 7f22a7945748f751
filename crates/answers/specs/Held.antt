-- The refusals that GRANT, WITHDRAW, CLEAR, REOCCUPY, HAND OVER and FULFIL begin with: they name an authority at a
-- stage, by its officer. Assumes nothing.
use Rattle.std.specs.Prelude.{ℕ, Bool, false, cond, not, Result, Ok, Err}
use Rattle.rules.specs.declared.refusal.Refusal.{Refusal}
use Rattle.rules.specs.declared.refusal.Refusal.TheVariants.{NotLive, Stage, Officer}
use Rattle.rules.specs.declared.AuthorityNo.{AuthorityNo}
use Rattle.rules.specs.declared.Authority.{Authority}
use Rattle.rules.specs.Board.{Board, is_in_force, authority}
use Rattle.rules.specs.Refusals.{not_live, not_officer}
use Rattle.answers.specs.declared.answer.Stage as Asked
use Rattle.answers.specs.declared.answer.Stage.TheVariants.{Pending, InForce, Either}

-- 6: the authority is not pending where it has to be, or not in force; HAND OVER: "Either stage."
abbrev pub not_at_stage : Asked.Stage → Authority → Bool
not_at_stage Pending a = is_in_force a
not_at_stage InForce a = not (is_in_force a)
not_at_stage Either a = false

-- the authority that the officer holds at that stage, or the first of 5, 6 and 7 whose condition holds
abbrev pub held_by : Board → AuthorityNo → Asked.Stage → ℕ → Result Authority Refusal
held_by b n stage officer =
    cond (not_live b n) (Err NotLive)
    (cond (not_at_stage stage (authority b n)) (Err Stage)
    (cond (not_officer b n officer) (Err Officer) (Ok (authority b n))))
