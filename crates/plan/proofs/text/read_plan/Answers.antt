-- `plan::text::read_plan` meets its contract where it reads a plan. Assumes nothing.
use Rattle.std.proofs.Common.{◌≡◌, ◌*◌, length, arith}
use Rattle.plan.proofs.PlanTexts.{plan_read}
use Rattle.plan.proofs.text.read_plan.Goals as goal

pub returns : goal.returns
returns c =
    let long : length c.in_ok-head.gate_lines.now ≡ 19 * c.in_ok-portions.gate_count =
    omega (arith, c.if-gate_lines-count.false, c.from-count.ensures)
    in
    record {
      some = grind (arith, plan_read, long);
      board = grind (arith, plan_read, long);
      portions = grind (arith, plan_read);
      gates = grind (arith, plan_read);
    }
