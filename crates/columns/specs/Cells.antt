-- A cell of a page: a number, a number behind a minus sign, or nothing, right-justified in fixed columns; and a line of
-- cells. Assumes nothing.
use Rattle.std.specs.Prelude.{ℕ, ◌-◌, Bool, cond, not, List, [], ◌∷◌, ◌++◌, ◌≡◌, eqb, leb, ltb}
use Rattle.std.specs.Prelude.{length, replicate}
use Rattle.lists.specs.Search.{any}
use Rattle.columns.specs.Column.{digits}
use Rattle.columns.specs.Line.{line_of, fit_of}
use Rattle.columns.specs.Reading.{value_from}
use Rattle.columns.specs.declared.cells.Cell.{Cell}
use Rattle.columns.specs.declared.cells.Cell.TheVariants.{Empty, Number, Minus}

-- a minus b: behind a minus sign where b is the greater
unfoldable pub difference : ℕ → ℕ → Cell
difference a b = cond (ltb a b) (Minus (b - a)) (Number (a - b))

-- what is printed of a cell: nothing, the digits of its number, or a minus sign (byte 45) and the digits
unfoldable pub marks : Cell → List ℕ
marks Empty = []
marks (Number n) = digits n
marks (Minus n) = 45 ∷ digits n

-- a cell in w columns: blanks (byte 32), then what is printed of it
unfoldable pub cell : ℕ → Cell → List ℕ
cell w c = replicate (w - length (marks c)) 32 ++ marks c

-- no more is printed of it than w columns hold
unfoldable pub cell_fits : ℕ → Cell → Bool
cell_fits w c = leb (length (marks c)) w

-- what filling a lent text with a cell answers, and the text that it leaves: one that the cell does not fit stays as it
-- was
pub record Filled (text : List ℕ) (c : Cell) (text' : List ℕ) (given : Bool) : Type 0 where
  pub answered : given ≡ cell_fits (length text) c
  pub bytes : text' ≡ cond (cell_fits (length text) c) (cell (length text) c) text

-- a line of cells, and that each fits
abbrev pub cell_line : List ℕ → List Cell → List ℕ
cell_line widths cells = line_of cell widths cells

abbrev pub cells_fit : List ℕ → List Cell → Bool
cells_fit widths cells = fit_of cell_fits widths cells

-- ---- read back

abbrev pub is_minus : ℕ → Bool
is_minus b = eqb b 45

abbrev pub is_printed : ℕ → Bool
is_printed b = not (eqb b 32)

-- the cell in a text that `cell` wrote: nothing where every byte is a blank, else the number that its digits make,
-- behind a minus sign where there is one
unfoldable pub cell_in : List ℕ → Cell
cell_in s = cond (any is_printed s) (cond (any is_minus s) (Minus (value_from 0 s)) (Number (value_from 0 s))) Empty
