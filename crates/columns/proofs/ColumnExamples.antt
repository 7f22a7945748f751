-- Worked examples, computed: 01's journal line E1 byte for byte, and read back; texts that are and are not numbers in
-- columns; cells of a page. Assumes nothing.
use mathlib.Core.Path.{◌≡◌, refl}
use mathlib.Core.Bool.{true, false}
use mathlib.Core.List.{List, [], ◌∷◌}
use Prim.Native.Nat.{ℕ}
use lib.ListN.{replicate}
use Rattle.std.specs.Prelude.{Some, None}
use Rattle.columns.specs.Text.{bytes}
use Rattle.columns.specs.Column.{digits_in, digits, column, fits}
use Rattle.columns.specs.Line.{line, writable, with_line, fit_of, line_of}
use Rattle.columns.specs.Reading.{same_text, value_from, is_column, read_column, first_column, row_of}
use Rattle.columns.specs.declared.cells.Cell.TheVariants.{Empty, Minus}
use Rattle.columns.specs.Cells.{difference, marks, cell, cell_fits, cell_in}

-- ---- lines written

-- the seven numbers of E1, its answer and the number allotted
abbrev pub e1 : List ℕ
e1 = 0 ∷ 2200 ∷ 1 ∷ 2 ∷ 1 ∷ 1 ∷ 7 ∷ 0 ∷ 1 ∷ []

unfoldable pub e1_bytes : List ℕ
e1_bytes = bytes "     0  2200     1     2     1     1     7     0     1\n"

pub e1-line : line (replicate 9 6) e1 ≡ e1_bytes
unfolding digits_in digits column line_of e1_bytes bytes
e1-line = refl

-- a buffer of 55 bytes takes the line, one of 54 does not
pub e1_room : writable 55 (replicate 9 6) e1 ≡ true
unfolding digits_in digits column fits line_of fit_of writable
e1_room = refl

pub e1_short : writable 54 (replicate 9 6) e1 ≡ false
unfolding digits_in digits column fits line_of fit_of writable
e1_short = refl

-- later bytes stay
pub stays : with_line (3 ∷ []) (7 ∷ []) (1 ∷ 2 ∷ 3 ∷ 4 ∷ 5 ∷ 6 ∷ []) ≡ 32 ∷ 32 ∷ 55 ∷ 10 ∷ 5 ∷ 6 ∷ []
unfolding digits_in digits column line_of with_line
stays = refl

-- ---- columns read

-- the line of E1
pub e1_read : row_of 65535 (replicate 9 6) e1_bytes ≡ record { numbers = e1; whole = true }
unfolding digits_in digits column same_text value_from is_column read_column first_column row_of e1_bytes bytes
e1_read = refl

-- no leading zeros
pub leading_zeros : read_column 65535 (bytes "   007") ≡ None
unfolding digits_in digits column same_text value_from is_column read_column bytes
leading_zeros = refl

-- right-justified
pub left_justified : read_column 65535 (bytes " 7    ") ≡ None
unfolding digits_in digits column same_text value_from is_column read_column bytes
left_justified = refl

-- blanks alone are no number; 0 is one digit; 65535 is the greatest number of 16 bits
pub blank : read_column 65535 (bytes "      ") ≡ None
unfolding digits_in digits column same_text value_from is_column read_column bytes
blank = refl

pub nought : read_column 65535 (bytes "     0") ≡ Some 0
unfolding digits_in digits column same_text value_from is_column read_column bytes
nought = refl

pub greatest : read_column 65535 (bytes " 65535") ≡ Some 65535
unfolding digits_in digits column same_text value_from is_column read_column bytes
greatest = refl

pub too_great : read_column 65535 (bytes " 65536") ≡ None
unfolding digits_in digits column same_text value_from is_column read_column bytes
too_great = refl

-- ---- cells

-- cells of a page: an overrun, and one that fills its columns; no minute left; nothing
pub overrun : cell 9 (difference 1000 1055) ≡ bytes "      -55"
unfolding digits_in digits marks cell difference bytes
overrun = refl

pub longest : cell 9 (Minus 14389918) ≡ bytes "-14389918"
unfolding digits_in digits marks cell bytes
longest = refl

pub none_left : cell 9 (difference 1055 1055) ≡ bytes "        0"
unfolding digits_in digits marks cell difference bytes
none_left = refl

pub nothing : cell 9 Empty ≡ bytes "         "
unfolding marks cell bytes
nothing = refl

-- a minus sign takes a column; and read back
pub no_room_lem : cell_fits 2 (Minus 55) ≡ false
unfolding digits_in digits marks cell_fits
no_room_lem = refl

pub overrun_read : cell_in (bytes "      -55") ≡ Minus 55
unfolding value_from cell_in bytes
overrun_read = refl
