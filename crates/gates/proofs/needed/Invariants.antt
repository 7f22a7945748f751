use Rattle.std.proofs.Common.{◌≡◌}
use Rattle.sets.specs.Sets.{set_of}
use Rattle.gates.specs.Needs.{is_needed}
use Rattle.gates.proofs.needed.Given as goal

-- the set is that of the needed gates before i
abbrev pub invariant-loop-i : goal.invariant-loop-i
invariant-loop-i l = l.set ≡ set_of l.i (is_needed l.limits l.gates.items)
