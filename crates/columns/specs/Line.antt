-- A line of numbers in columns of given widths, and a lent buffer that a line is written to. Assumes nothing.
use Rattle.std.specs.Prelude.{ℕ, Bool, true, false, cond, ◌&&◌, List, [], ◌∷◌, ◌++◌, ◌≡◌, leb, length, drop}
use Rattle.columns.specs.Column.{column, fits}

-- each of the things in columns of its width, as `written` writes one, then a line feed (byte 10)
unfoldable pub line_of : {A : Type 0} → (ℕ → A → List ℕ) → List ℕ → List A → List ℕ
line_of written [] xs = 10 ∷ []
line_of written (w ∷ widths) [] = 10 ∷ []
line_of written (w ∷ widths) (x ∷ xs) = written w x ++ line_of written widths xs

-- as many things as widths, and each passes the test of its own width
unfoldable pub fit_of : {A : Type 0} → (ℕ → A → Bool) → List ℕ → List A → Bool
fit_of test [] [] = true
fit_of test [] (x ∷ xs) = false
fit_of test (w ∷ widths) [] = false
fit_of test (w ∷ widths) (x ∷ xs) = test w x && fit_of test widths xs

-- a line of numbers, and that each fits
abbrev pub line : List ℕ → List ℕ → List ℕ
line widths numbers = line_of column widths numbers

abbrev pub all_fit : List ℕ → List ℕ → Bool
all_fit widths numbers = fit_of fits widths numbers

-- a line can be written: its numbers fit, and it is at most `room` bytes long
unfoldable pub writable : ℕ → List ℕ → List ℕ → Bool
writable room widths numbers = all_fit widths numbers && leb (length (line widths numbers)) room

-- the buffer with the line at its front, later bytes as they were
unfoldable pub with_line : List ℕ → List ℕ → List ℕ → List ℕ
with_line widths numbers buffer = line widths numbers ++ drop (length (line widths numbers)) buffer

-- what writing a line answers, and the buffer that it leaves: one that cannot take the line stays as it was
pub record Written (widths numbers buffer buffer' : List ℕ) (given : Bool) : Type 0 where
  pub answered : given ≡ writable (length buffer) widths numbers
  pub bytes : buffer' ≡ cond (writable (length buffer) widths numbers) (with_line widths numbers buffer) buffer
