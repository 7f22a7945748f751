use Rattle.std.proofs.Common.{◌≡◌}
use Rattle.sets.specs.Sets.{set_of}
use Rattle.authorities.specs.Stored.{is_needed_again}
use Rattle.authorities.proofs.stored.needed_again.Given as goal

-- the set is that of the needed gates before i
abbrev pub invariant-loop-i : goal.invariant-loop-i
invariant-loop-i l = l.set ≡ set_of l.i (is_needed_again l.gates.items l.authorities l.needed l.x l.y)
