-- Reading numbers in columns: a text is a number where it is what `column` writes for that number. Assumes nothing.
use Rattle.std.specs.Prelude.{ℕ, suc, ◌+◌, ◌-◌, ◌*◌, Bool, true, false, cond, ◌&&◌, List, [], ◌∷◌, eqb, leb, ltb}
use Rattle.std.specs.Prelude.{length, take, drop, Option, Some, None}
use Rattle.columns.specs.Column.{column}

-- two texts are the same, byte for byte
unfoldable pub same_text : List ℕ → List ℕ → Bool
same_text [] [] = true
same_text [] (b ∷ t) = false
same_text (a ∷ s) [] = false
same_text (a ∷ s) (b ∷ t) = eqb a b && same_text s t

-- how many blanks a text starts with
unfoldable pub blanks : List ℕ → ℕ
blanks [] = 0
blanks (b ∷ s) = elim (eqb b 32) [ true ↦ suc (blanks s) | false ↦ 0 ]

-- the digit that a byte stands for, 0 where it stands for none
abbrev pub digit_of : ℕ → ℕ
digit_of b = cond (ltb b 58) (b - 48) 0

-- the number that the digits of a text make, behind the digits of v
unfoldable pub value_from : ℕ → List ℕ → ℕ
value_from v [] = v
value_from v (b ∷ s) = value_from (v * 10 + digit_of b) s

-- the text is the number n in as many columns as the text has bytes
unfoldable pub is_column : ℕ → List ℕ → Bool
is_column n s = same_text s (column (length s) n)

-- the number in a text, where it is one in columns and at most `most`
unfoldable pub read_column : ℕ → List ℕ → Option ℕ
read_column most s = cond (is_column (value_from 0 s) s && leb (value_from 0 s) most) (Some (value_from 0 s)) None

-- the number in the first w bytes of a text; a column cut short holds none
unfoldable pub first_column : ℕ → ℕ → List ℕ → Option ℕ
first_column most w s = cond (leb w (length s)) (read_column most (take w s)) None

-- what is read of a row of columns: the numbers up to the first column that holds none, and whether the whole text
-- is such a row, with a number in each column, then a line feed and no more
pub record Row : Type 0 where
  pub numbers : List ℕ
  pub whole : Bool

abbrev pub end_of_row : List ℕ → Row
end_of_row s = record { numbers = []; whole = same_text s (10 ∷ []) }

abbrev pub with_column : Option ℕ → Row → Row
with_column (Some n) row = record { numbers = n ∷ row.numbers; whole = row.whole }
with_column None row = record { numbers = []; whole = false }

unfoldable pub row_of : ℕ → List ℕ → List ℕ → Row
row_of most [] s = end_of_row s
row_of most (w ∷ widths) s = with_column (first_column most w s) (row_of most widths (drop w s))

-- the numbers of a text that is such a row from its first byte to its last
unfoldable pub row_in : ℕ → List ℕ → List ℕ → Option (List ℕ)
row_in most widths s = cond (row_of most widths s).whole (Some (row_of most widths s).numbers) None

-- those numbers where so many are asked for as there are columns, none where they are more or fewer
unfoldable pub numbers_in : ℕ → ℕ → List ℕ → List ℕ → Option (List ℕ)
numbers_in count most widths s = cond (eqb (length widths) count) (row_in most widths s) None
