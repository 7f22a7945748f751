-- A text of worksites: the kind and the officer's statement on its first line, then from and to of a worksite a line;
-- and what is printed for it (02, order 9). The form is the product's own. Assumes nothing.
use Rattle.std.specs.Prelude.{ℕ, ◌*◌, ◌+◌, ◌≡◌, Bool, true, false, cond, not, ◌||◌, List, [], ◌∷◌, map, length}
use Rattle.std.specs.Prelude.{drop, get_or, min, eqb, Option, Some, None, Result, Ok, Err}
use Rattle.columns.specs.Line.{line}
use Rattle.columns.specs.Reading.{row_of}
use Rattle.columns.specs.LinesIn.{lines_in}
use Rattle.rules.specs.Worksites.{gap_widths, gaps, gap_lines, worksites_answer}
use Rattle.worksites.specs.declared.text.WorksiteList.{WorksiteList}

-- ---- what is read

-- the two numbers on a line, in the same columns as on a line that is printed
unfoldable pub pair_in : List ℕ → Option (ℕ × ℕ)
pair_in s =
    cond (row_of 99999999 gap_widths s).whole
    (Some (get_or (row_of 99999999 gap_widths s).numbers 0 0, get_or (row_of 99999999 gap_widths s).numbers 1 0))
    None

-- those on the lines of a text, up to a malformed one: the first line, and 33 worksites at most, for which it makes no
-- difference what stands behind them
unfoldable pub pairs_in : List ℕ → List (ℕ × ℕ)
pairs_in text = lines_in pair_in 17 34 text

-- bytes behind these lines, of the 34 that are read, are a malformed line; and so is the first line, where there is
-- none
unfoldable pub is_malformed : List ℕ → Bool
is_malformed text =
    eqb (length (pairs_in text)) 0 || not (eqb (17 * length (pairs_in text)) (min (length text) (34 * 17)))

-- the number of the malformed line; lines count from 1
abbrev pub malformed_line : List ℕ → ℕ
malformed_line text = length (pairs_in text) + 1

-- the kind and the statement; a number that has more than 16 bits counts as the greatest that has no more, which is no
-- kind's and no statement's either
abbrev pub narrowed : ℕ → ℕ
narrowed n = min n 65535

abbrev pub kind_in : List ℕ → ℕ
kind_in text = narrowed (get_or (pairs_in text) 0 (0, 0)).0

abbrev pub stated_in : List ℕ → ℕ
stated_in text = narrowed (get_or (pairs_in text) 0 (0, 0)).1

-- the worksites' from and to
abbrev pub from_in : List ℕ → List ℕ
from_in text = map (λ p. p.0) (drop 1 (pairs_in text))

abbrev pub to_in : List ℕ → List ℕ
to_in text = map (λ p. p.1) (drop 1 (pairs_in text))

-- the whole result of reading a text
abbrev pub ListRead : List ℕ → Result WorksiteList ℕ → Type 0
ListRead text (Ok list) =
    (is_malformed text ≡ false) × (list.kind ≡ kind_in text) × (list.stated ≡ stated_in text)
    × (list.from.items ≡ from_in text)
    × (list.to.items ≡ to_in text)
ListRead text (Err n) = (is_malformed text ≡ true) × (n ≡ malformed_line text)

-- ---- what is printed

-- the lines of the gaps, or the refusal's number in 6 columns; there is room for all lines
unfoldable pub gaps_text : ℕ → ℕ → List ℕ → List ℕ → List ℕ
gaps_text kind stated from to =
    cond (eqb (worksites_answer kind stated from to (31 * 17)) 0) (gap_lines kind stated (gaps from to))
    (line (6 ∷ []) (worksites_answer kind stated from to (31 * 17) ∷ []))

abbrev pub gaps_printed : List ℕ → List ℕ
gaps_printed text = gaps_text (kind_in text) (stated_in text) (from_in text) (to_in text)
