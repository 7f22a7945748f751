-- Opening: every text gives a freshly opened board of at most 64 portions and 64 gates, a refused one the closed board
-- and 20; and the closed board accepts no call. Assumes nothing.
use Rattle.std.specs.Prelude.{Option, Some, None}
use Prim.Native.Nat.{ℕ, zero, suc, ◌≤◌}
use native.Mathlib.Omega.{arith}
use mathlib.Core.Path.{◌≡◌, refl, sym, ap}
use mathlib.Core.Bool.{Bool, true, false, cond, false≢true}
use mathlib.Core.List.{List, [], ◌∷◌}
use lib.ListN.{length, drop}
use borrow.Author.Tests.{leb-true}
use Rattle.lists.proofs.Tests.{told}
use Rattle.rules.specs.declared.Gate.{Gate}
use Rattle.rules.specs.declared.Seven.{Seven}
use Rattle.rules.specs.declared.Call.{Call}
use Rattle.rules.specs.declared.Call.TheVariants.{Request, Withdraw, Agree, Block, Unblock, Grant, Clear, Reoccupy}
use Rattle.rules.specs.declared.Call.TheVariants.{HandOver, Fulfil, Continue, Move, Passed, Term, Join, BookOut, BookIn}
use Rattle.rules.specs.Board.{Board, opened, closed, live, on_board}
use Rattle.rules.specs.Call.{named}
use Rattle.rules.specs.Refusals.{not_live, own, answer}
use Rattle.rules.specs.Plan.{plan_number, is_head, is_plan, gates_on, open_board, open_answer}
use Rattle.rules.specs.Step.{Made, final}
use Rattle.rules.proofs.Answers.{condition_at, refused_same}
use Rattle.rules.proofs.Accepted.{Accepted, accepted}

-- ---- a freshly opened board

pub record Fresh (b : Board) : Type 0 where
  pub portions : ℕ
  pub gates : List Gate
  pub few_portions : portions ≤ 64
  pub few_gates : length gates ≤ 64
  pub is_opened : b ≡ opened portions gates

gates_count : (n : ℕ) (text : List ℕ) → length (gates_on n text) ≡ n
unfolding gates_on
gates_count zero text = refl
gates_count (suc n) text = ap suc (gates_count n (drop 19 text))

fresh_if : (text : List ℕ) (z : Bool) → is_plan text ≡ z
    → Fresh (cond z (opened (plan_number 0 text) (gates_on (plan_number 1 text) (drop 19 text))) closed)
unfolding is_plan is_head closed
fresh_if text true e = record {
  portions = plan_number 0 text;
  gates = gates_on (plan_number 1 text) (drop 19 text);
  few_portions = search (told, leb-true, e);
  few_gates = rw (gates_count (plan_number 1 text) (drop 19 text)) (search (told, leb-true, e));
  is_opened = refl;
}
fresh_if text false e =
    record { portions = 0; gates = []; few_portions = omega arith; few_gates = omega arith; is_opened = refl }

-- THEOREM: whatever the text, the board is freshly opened
pub fresh : (text : List ℕ) → Fresh (open_board text)
unfolding open_board
fresh text = fresh_if text (is_plan text) refl

-- THEOREM: a refused text gives 20 and the closed board
pub refused_plan : (text : List ℕ) → is_plan text ≡ false → (open_answer text ≡ 20) × (open_board text ≡ closed)
unfolding open_answer open_board
refused_plan text e = (rw e, rw e)

-- ---- the closed board

-- no call's conditions are all false on it: a field that names a portion or a gate is out of range, no authority is
-- live, no train is on it
closed_refuses : (s : Seven) (c : Option Call) → Accepted closed s c → ⊥
unfolding closed opened own condition_at not_live live on_board
closed_refuses s None k = k.ranges
closed_refuses s (Some (Request kind low high officer)) k = omega (arith, k.ranges)
closed_refuses s (Some (Withdraw n officer)) k = false≢true (sym (k.ok 5))
closed_refuses s (Some (Agree toa twa officer)) k = false≢true (sym (k.ok 5))
closed_refuses s (Some (Block g)) k = omega (arith, k.ranges)
closed_refuses s (Some (Unblock g)) k = omega (arith, k.ranges)
closed_refuses s (Some (Grant n officer)) k = false≢true (sym (k.ok 5))
closed_refuses s (Some (Clear n officer)) k = false≢true (sym (k.ok 5))
closed_refuses s (Some (Reoccupy n officer)) k = false≢true (sym (k.ok 5))
closed_refuses s (Some (HandOver n out into)) k = false≢true (sym (k.ok 5))
closed_refuses s (Some (Fulfil n officer assurances)) k = false≢true (sym (k.ok 5))
closed_refuses s (Some (Continue old new officer_old officer_new)) k = false≢true (sym (k.ok 5))
closed_refuses s (Some (Move t g n officer)) k = omega (arith, k.ranges)
closed_refuses s (Some (Passed t)) k = false≢true (sym (k.ok 17))
closed_refuses s (Some (Term n day time minutes)) k = false≢true (sym (k.ok 5))
closed_refuses s (Some (Join twa toa officer distance)) k = false≢true (sym (k.ok 5))
closed_refuses s (Some (BookOut g paper)) k = omega (arith, k.ranges.0)
closed_refuses s (Some (BookIn g paper certified new)) k = omega (arith, k.ranges.0)

-- THEOREM: the closed board accepts no call, and so stays the closed board
pub closed_accepts_none : (s : Seven) (room : ℕ) → answer closed s room ≡ 0 → ⊥
closed_accepts_none s room e = closed_refuses s (named s) (accepted closed s room e)

pub closed_stays : (ms : List Made) → final closed ms ≡ closed
unfolding final
closed_stays [] = refl
closed_stays (m ∷ ms) =
    rw (refused_same closed m.seven m.room (closed_accepts_none m.seven m.room)) (closed_stays ms)
