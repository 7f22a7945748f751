-- What is printed of a working folder, from what opening it and making its calls write. Assumes nothing.
use Prim.Native.Nat.{ℕ}
use native.Mathlib.Omega.{arith}
use mathlib.Core.Path.{◌≡◌, refl}
use mathlib.Core.Bool.{true}
use mathlib.Core.List.{List, []}
use borrow.Author.Tests.{ne_eqb}
use Rattle.std.specs.Prelude.{Option, Some, None, Result, Ok, Err, IsErr, OnOk}
use Rattle.std.specs.Io.KnownBytes.{Keeps, Appends}
use Rattle.rules.specs.declared.Register.{Register}
use Rattle.rules.specs.Board.{Board, board_of}
use Rattle.rules.specs.Plan.{open_answer}
use Rattle.folder.specs.Outcomes.{all_made, PlanOpened, Printed}

kept_appends : (a b c : Option (List ℕ)) (bs : List ℕ) → Keeps a b → Appends b c bs → Appends a c bs
kept_appends None b c bs k h = tt
kept_appends (Some x) None c bs k h = absurd k
kept_appends (Some x) (Some y) None bs k h = absurd h
kept_appends (Some x) (Some y) (Some z) bs k h = rw (← k) h

module _ (given : Board → List ℕ → List ℕ) (plan : List ℕ) (old new : Option (List ℕ)) where
  -- where the plan is accepted, and then all of the calls are made and their page is written
  pub accepted : (mid : Option (List ℕ)) (r : Register) (calls : List ℕ) → PlanOpened plan old mid (Some r)
      → all_made (board_of r) calls ≡ true → Appends mid new (given (board_of r) calls) → Printed given old new
  accepted mid r calls o all written = (
    plan,
    calls,
    λ e. rw (← o.1) all,
    rw (o.0, ← o.1) (kept_appends old mid new (given (board_of r) calls) o.2 written),
  )

  -- where it is refused
  pub refused : PlanOpened plan old new None → Printed given old new
  refused o = (plan, [], λ e. absurd (o.0 e), rw (ne_eqb (open_answer plan) 0 o.0) o.1)

-- an exit status that tells of failure is not 0
pub not_failed : {A E : Type 0} (r : Result A E) (status : ℕ) (P : Type 0) → (IsErr r → status ≡ 1) → OnOk r P
    → status ≡ 0 → P
not_failed (Ok x) status P failed h e = h
not_failed (Err x) status P failed h e = absurd (omega (arith, failed refl, e))
