-- Demand 3's claim about what is reckoned from a list of calls, its four statements in the customer's words, the first
-- with 02's order 4: by portions, and not by the sets that a register holds. Assumes nothing.
use Rattle.std.specs.Prelude.{ℕ, ◌≤◌, ◌<◌, ◌≡◌, ◌⊎◌, Bool, true, List, length}
use Rattle.rules.specs.declared.kind.Kind.TheVariants.{Toa, Twa}
use Rattle.rules.specs.declared.Gate.{Gate}
use Rattle.rules.specs.Board.{gate_at, exclusive}
use Rattle.rules.specs.Call.{gate_of}
use Rattle.rules.specs.Reckoning.{Reckoned, Position, Reckoning}

-- the portion is in the limits: "a first and a last portion and all between". Outside, 99, is in none, since last is
-- below 64.
abbrev pub In : Reckoned → ℕ → Type 0
In x p = (x.first ≤ p) × (p ≤ x.last)

-- authority n is in force
abbrev pub Forced : (ℕ → Reckoned) → ℕ → Type 0
Forced A n = (A n).is_in_force ≡ true

-- x, with the number n, is a TOA, and y a TWA whose last AGREE names it
abbrev pub ByAgree : Reckoned → ℕ → Reckoned → Type 0
ByAgree x n y = (x.kind ≡ Toa) × (y.kind ≡ Twa) × (y.agreed ≡ n)

-- x, with the number n, is a TWA, and y a TOA whose last JOIN names it
abbrev pub ByJoin : Reckoned → ℕ → Reckoned → Type 0
ByJoin x n y = (x.kind ≡ Twa) × (y.kind ≡ Toa) × (y.joined ≡ n)

-- "by the agreement of the officer there first" (02, order 4): x, with the number n, came into force earlier than y,
-- and agreed to y
abbrev pub Agreed : Reckoned → ℕ → Reckoned → Type 0
Agreed x n y = (x.since < y.since) × (ByAgree x n y ⊎ ByJoin x n y)

-- "Two authorities in force share no portion, save a TOA and a TWA with an agreement between them."
abbrev pub Apart : (ℕ → Reckoned) → Type 0
Apart A =
    (m n p : ℕ) → (m ≡ n → ⊥) → Forced A m → Forced A n → In (A m) p → In (A n) p
    → Agreed (A m) m (A n) ⊎ Agreed (A n) n (A m)

-- "A train with its head in the limits of an LPA or TOA in force is under that authority."
abbrev pub Piloted : (ℕ → Reckoned) → (ℕ → Position) → Type 0
Piloted A T =
    (t n : ℕ) → (T t).on_board ≡ true → Forced A n → exclusive (A n).kind ≡ true → In (A n) (T t).head → (T t).under ≡ n

-- "No train touches the limits of a TWA in force with workers on."
abbrev pub Untouched : (ℕ → Reckoned) → (ℕ → Position) → Type 0
Untouched A T =
    (t n : ℕ) → (T t).on_board ≡ true → Forced A n → (A n).kind ≡ Twa → (A n).has_workers_on ≡ true
    → (In (A n) (T t).head → ⊥) × (In (A n) (T t).rear → ⊥)

-- "Each gate that an authority in force needs is blocked.": of the gates of the plan, each whose "to" is in the limits
-- and whose "from" isn't
abbrev pub Protected : List Gate → (ℕ → Reckoned) → (ℕ → Bool) → Type 0
Protected gates A B =
    (n g : ℕ) → Forced A n → g < length gates → In (A n) (gate_at gates (gate_of g)).to
    → (In (A n) (gate_at gates (gate_of g)).from → ⊥)
    → B g ≡ true

pub record Safe (gates : List Gate) (r : Reckoning) : Type 0 where
  pub apart : Apart r.authority
  pub piloted : Piloted r.authority r.train
  pub untouched : Untouched r.authority r.train
  pub protected : Protected gates r.authority r.blocked
