-- Opening: the plan's text, and the board and the answer that it gives (01, "Track and gates"). Assumes nothing.
use Rattle.std.specs.Prelude.{ℕ, zero, suc, ◌+◌, ◌*◌, Bool, true, cond, not, ◌&&◌, ◌||◌, List, [], ◌∷◌, length, take}
use Rattle.std.specs.Prelude.{drop, get_or, eqb, leb, ltb}
use Rattle.columns.specs.Reading.{Row, row_of}
use Rattle.sets.specs.Sets.{between}
use Rattle.rules.specs.declared.Gate.{Gate}
use Rattle.rules.specs.Board.{Board, opened, closed, is_outside}

-- "lines of three numbers, each right-justified in 6 columns behind blanks, no leading zeros, then a line feed: 19
-- bytes"
abbrev pub plan_widths : List ℕ
plan_widths = 6 ∷ 6 ∷ 6 ∷ []

-- the first line of a text, and its numbers; no number of a plan needs more than 16 bits
unfoldable pub plan_line : List ℕ → Row
plan_line text = row_of 65535 plan_widths (take 19 text)

unfoldable pub plan_number : ℕ → List ℕ → ℕ
plan_number i text = get_or (plan_line text).numbers i 0

-- "Line one is P, G, 0."; "P portions of track (1 to 64)"; "G gates (0 to 64)"
unfoldable pub is_head : List ℕ → Bool
is_head text =
    (plan_line text).whole && between 1 64 (plan_number 0 text) && leb (plan_number 1 text) 64
    && eqb (plan_number 2 text) 0

-- "From and to are each below P or 99, and differ; kind is 1 to 4."
unfoldable pub is_place : ℕ → ℕ → Bool
is_place portions place = ltb place portions || is_outside place

unfoldable pub is_gate : ℕ → List ℕ → Bool
is_gate portions text =
    (plan_line text).whole && is_place portions (plan_number 0 text) && is_place portions (plan_number 1 text)
    && not (eqb (plan_number 0 text) (plan_number 1 text))
    && between 1 4 (plan_number 2 text)

unfoldable pub gate_on : List ℕ → Gate
gate_on text = record { from = plan_number 0 text; to = plan_number 1 text; kind = plan_number 2 text }

-- "Then one line a gate: from, to, kind.": n such lines, and the gates on them
unfoldable pub are_gates : ℕ → ℕ → List ℕ → Bool
are_gates portions zero text = true
are_gates portions (suc n) text = is_gate portions text && are_gates portions n (drop 19 text)

unfoldable pub gates_on : ℕ → List ℕ → List Gate
gates_on zero text = []
gates_on (suc n) text = gate_on text ∷ gates_on n (drop 19 text)

-- "The length is exactly 19 × (1 + G)."
unfoldable pub is_plan : List ℕ → Bool
is_plan text =
    is_head text && eqb (length text) (19 * (1 + plan_number 1 text))
    && are_gates (plan_number 0 text) (plan_number 1 text) (drop 19 text)

-- the board that a text opens, and the answer; 20 plan: "plan text not as above; closed board"
unfoldable pub open_board : List ℕ → Board
open_board text =
    cond (is_plan text) (opened (plan_number 0 text) (gates_on (plan_number 1 text) (drop 19 text))) closed

unfoldable pub open_answer : List ℕ → ℕ
open_answer text = cond (is_plan text) 0 20
