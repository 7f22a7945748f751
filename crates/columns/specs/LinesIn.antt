-- A text line by line, each of its lines as long as the others. Assumes nothing.
use Rattle.std.specs.Prelude.{ℕ, zero, suc, List, [], ◌∷◌, take, drop, Option, Some, None}

-- what is read of a line, and what of those behind it; nothing from a malformed line on
abbrev pub unless_malformed : {A : Type 0} → Option A → List A → List A
unless_malformed (Some x) rest = x ∷ rest
unless_malformed None rest = []

-- what `reading` gives of the lines of a text, w bytes each and at most n of them, up to a malformed one; a last line
-- cut short is read as it is
unfoldable pub lines_in : {A : Type 0} → (List ℕ → Option A) → ℕ → ℕ → List ℕ → List A
lines_in reading w zero text = []
lines_in reading w (suc n) text = unless_malformed (reading (take w text)) (lines_in reading w n (drop w text))
