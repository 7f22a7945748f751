-- Laws of a plan's text: of one line, of the lines of gates as the loop reads them, and of the whole text.
-- Assumes nothing.
use mathlib.Core.Path.{◌≡◌, refl, ap, ◌∙◌}
use mathlib.Core.Bool.{true, false, cond}
use mathlib.Core.List.{List, [], ◌∷◌, ◌++◌, append_assoc, append-nil}
use Prim.Native.Nat.{ℕ, zero, suc, ◌+◌, ◌-◌, ◌*◌, ◌≤◌, ◌<◌}
use native.Mathlib.Omega.{arith}
use native.Mathlib.Nat.{sub-zero}
use Rattle.std.specs.List.{IsSplitAt}
use Rattle.std.proofs.lemmas.List.{take_all}
use lib.ListN.{length, take, drop, length-take}
use lib.Seq.{drop-drop}
use Rattle.std.specs.Prelude.{Option, Some, None}
use Rattle.columns.specs.Reading.{numbers_in}
use Rattle.columns.proofs.Rows.{numbers_asked}
use Rattle.rules.specs.declared.Gate.{Gate}
use Rattle.rules.specs.Plan.{plan_widths, plan_line, plan_number, is_head, is_plan, open_board}
use Rattle.rules.specs.Plan.{is_gate, gate_on, are_gates, gates_on}
use Rattle.plan.specs.PlanLines.{head_in, gate_in}
use Rattle.rules.specs.Board.{opened}

-- ---- the numbers on a line
pub numbers_on : (line : List ℕ) → length line ≡ 19
    → numbers_in 3 65535 plan_widths line ≡ cond (plan_line line).whole (Some (plan_line line).numbers) None
unfolding plan_line
numbers_on line long = rw (take_all 19 line (omega (arith, long))) (numbers_asked 3 65535 plan_widths line refl)

-- a head and a gate stand on a text's first line alone
module _ (text : List ℕ) where
  cut_again : take 19 (take 19 text) ≡ take 19 text
  cut_again = take_all 19 (take 19 text) (omega (arith, length-take 19 text))

  first_head : head_in (take 19 text) ≡ head_in text
  unfolding head_in is_head plan_number plan_line
  first_head = rw cut_again

  first_gate : (portions : ℕ) → gate_in portions (take 19 text) ≡ gate_in portions text
  unfolding gate_in is_gate gate_on plan_number plan_line
  first_gate portions = rw cut_again

-- ---- the lines of gates, i of them read
module _ (portions count : ℕ) (text : List ℕ) where
  pub record SoFar (i : ℕ) (gates : List Gate) : Type 0 where
    pub long : length text ≡ 19 * count
    pub tested : are_gates portions count text ≡ are_gates portions (count - i) (drop (19 * i) text)
    pub read : gates_on count text ≡ gates ++ gates_on (count - i) (drop (19 * i) text)

  pub none_yet : length text ≡ 19 * count → SoFar 0 []
  none_yet h = record { long = h; tested = rw sub-zero; read = rw sub-zero }

  module _ (i : ℕ) (gates : List Gate) (so_far : SoFar i gates) where
    -- no line is left
    pub all_read : (i < count → length text < 19 * i + 19)
        → (true ≡ are_gates portions count text) × (gates ≡ gates_on count text)
    unfolding are_gates gates_on
    all_read short = grind (arith, so_far.long, so_far.tested, so_far.read, append-nil)

    -- line i
    module _ (line : List ℕ) (of : line ≡ take 19 (drop (19 * i) text)) (more : i < count) where
      here : List ℕ
      here = drop (19 * i) text

      next : count - i ≡ suc (count - (i + 1))
      next = omega arith

      gate_here : gate_in portions line ≡ gate_in portions here
      unfolding here gate_in
      gate_here = ap (gate_in portions) of ∙ first_gate here portions

      pub not_gate : None ≡ gate_in portions line → false ≡ are_gates portions count text
      unfolding are_gates gate_in here
      not_gate e = grind (arith, gate_here, so_far.tested, next)

      pub one_more : (g : Gate) → Some g ≡ gate_in portions line → SoFar (i + 1) (gates ++ (g ∷ []))
      unfolding are_gates gates_on gate_in here
      one_more g e =
          let behind : 19 * i + 19 ≡ 19 * (i + 1) = omega arith in
          let after = drop-drop 19 (19 * i) text in
          record {
            long = so_far.long;
            tested = grind (arith, gate_here, so_far.tested, next, after, behind, e);
            read = grind (arith, gate_here, so_far.read, next, after, behind, e, append_assoc);
          }

pub gates_count : (n : ℕ) (text : List ℕ) → length (gates_on n text) ≡ n
unfolding gates_on
gates_count zero text = refl
gates_count (suc n) text = ap suc (gates_count n (drop 19 text))

-- ---- the whole text
abbrev both : ℕ → ℕ → Option (ℕ × ℕ)
both p g = Some (p, g)

-- a plan has a first line
pub plan_too_short : (text : List ℕ) → length text < 19 → false ≡ is_plan text
unfolding is_plan
plan_too_short text h = grind arith

pub plan_no_head : (text line : List ℕ) → line ≡ take 19 text → None ≡ head_in line → false ≡ is_plan text
unfolding head_in is_plan
plan_no_head text line of e = grind (arith, first_head text)

-- the text split into its first line, which is a head, and the lines of gates
module _ (text line gates : List ℕ) (p n : ℕ) (cut : IsSplitAt text 19 line gates) (e : both p n ≡ head_in line) where
  pub plan_not_long : (length gates ≡ 19 * n → ⊥) → false ≡ is_plan text
  unfolding head_in is_plan
  plan_not_long h = grind (arith, first_head text, cut.1, cut.4, e)

  pub plan_no_gates : length gates ≡ 19 * n → false ≡ are_gates p n gates → false ≡ is_plan text
  unfolding head_in is_plan
  plan_no_gates long h = grind (arith, first_head text, cut.1, cut.2, cut.4, e)

  pub plan_all : length gates ≡ 19 * n → true ≡ are_gates p n gates → true ≡ is_plan text
  unfolding head_in is_plan
  plan_all long h = grind (arith, first_head text, cut.1, cut.2, cut.4, e)

  pub plan_opens : true ≡ is_plan text → opened p (gates_on n gates) ≡ open_board text
  unfolding head_in open_board
  plan_opens h = grind (arith, first_head text, cut.1, cut.2, e)

  pub plan_small : (p ≤ 64) × (n ≤ 64)
  unfolding head_in is_head
  plan_small = grind (arith, e)

-- what reading a plan stands on
pub ruleset plan_read = (
  plan_too_short,
  plan_no_head,
  plan_not_long,
  plan_no_gates,
  plan_all,
  plan_opens,
  plan_small,
  gates_count,
)
