-- The gates that limits need, as a set of gates. Assumes nothing.
use Rattle.std.specs.Prelude.{ℕ, Bool, List, length}
use Rattle.sets.specs.Sets.{set_of}
use Rattle.rules.specs.declared.Gate.{Gate}
use Rattle.rules.specs.Board.{needs, gate_at}
use Rattle.rules.specs.Call.{gate_of}

-- the gate at the place g of a plan is needed by the limits
abbrev pub is_needed : ℕ → List Gate → ℕ → Bool
is_needed limits gates g = needs limits (gate_at gates (gate_of g))

-- the set of the gates of a plan that the limits need: "each gate whose "to" is in its limits and whose "from" isn't"
unfoldable pub needed_of : List Gate → ℕ → ℕ
needed_of gates limits = set_of (length gates) (is_needed limits gates)
