-- Laws of cells, for every number and width: how long a cell is, which cells fit, that each is read back, and what a
-- difference is; then the steps of the code that fills one. Assumes nothing.
use mathlib.Core.Path.{◌≡◌, refl, sym, ap, ap₂, ◌∙◌}
use mathlib.Core.Bool.{Bool, true, false, cond}
use mathlib.Core.List.{List, [], ◌∷◌, ◌++◌, map, append_assoc, append-nil}
use Prim.Native.Nat.{ℕ, zero, suc, ◌+◌, ◌-◌, ◌/◌, ◌%◌, ◌≤◌, ◌<◌}
use native.Mathlib.Omega.{arith}
use native.Mathlib.Nat.{sub-zero}
use borrow.Author.Tests.{leb-true, le-leb, ltb-true, ltb-false, ne_eqb, lt-leb}
use lib.Dec.{ltb, leb-suc-suc}
use lib.ListN.{length, take, drop, set, replicate, length-append, length-replicate}
use lib.Seq.{drop_at, take_at, set_split}
use Rattle.lists.specs.Search.{any}
use Rattle.lists.proofs.Search.{any_append}
use Rattle.lists.proofs.Tests.{and_l, and_r}
use Rattle.columns.specs.Column.{digits, column, fits}
use Rattle.columns.specs.Line.{line, fit_of, line_of}
use Rattle.columns.specs.Reading.{blanks, value_from}
use Rattle.columns.proofs.Digits.{digits_one, digits_more}
use Rattle.columns.proofs.Writing.{filled_column, part_done, total, line_of-length, fit_of-lengths}
use Rattle.columns.proofs.Scan.{by_tenths, starts, value_digits, blanks_front, blanks_le}
use Rattle.columns.proofs.SameText.{value_blanks}
use Rattle.columns.specs.declared.cells.Cell.{Cell}
use Rattle.columns.specs.declared.cells.Cell.TheVariants.{Empty, Number, Minus}
use Rattle.columns.specs.Cells.{difference, marks, cell, cell_fits, cell_line, cells_fit, is_printed, is_minus, cell_in}

-- ---- how long a cell is, and which cells fit

-- a number's cell is its column, and the same numbers fit
pub number_cell : (w n : ℕ) → cell w (Number n) ≡ column w n
unfolding cell marks column
number_cell w n = refl

pub number_fits : (w n : ℕ) → cell_fits w (Number n) ≡ fits w n
unfolding cell_fits marks fits
number_fits w n = refl

-- nothing is blanks
pub empty_cell : (w : ℕ) → cell w Empty ≡ replicate w 32
unfolding cell marks
empty_cell w = rw (sub-zero, append-nil)

-- a minus sign takes one column more
pub minus_fits : (w n : ℕ) → cell_fits (suc w) (Minus n) ≡ fits w n
unfolding cell_fits marks fits
minus_fits w n = leb-suc-suc (length (digits n)) w

pub minus_none : (n : ℕ) → cell_fits 0 (Minus n) ≡ false
unfolding cell_fits marks
minus_none n = lt-leb (suc (length (digits n))) 0 (omega arith)

pub sign_fits : (w n : ℕ) → (w ≡ 0 → ⊥) → fits (w - 1) n ≡ cell_fits w (Minus n)
sign_fits zero n h = absurd (h refl)
sign_fits (suc w) n h = let e : suc w - 1 ≡ w = omega arith in rw e (sym (minus_fits w n))

-- nothing fits everywhere
pub empty_fits : (w : ℕ) → cell_fits w Empty ≡ true
unfolding cell_fits marks
empty_fits w = le-leb 0 w (omega arith)

-- which cells fit, and what is printed of them
pub ruleset cell_kinds = (empty_fits, number_fits, minus_none, sign_fits, empty_cell, number_cell, filled_column)

-- a cell that fits takes its columns, no more and no fewer
pub cell-length : (w : ℕ) (c : Cell) → cell_fits w c ≡ true → length (cell w c) ≡ w
unfolding cell cell_fits
cell-length w c e = simp (length-append, length-replicate) (omega (arith, leb-true (length (marks c)) w e))

-- cells that fit take their columns, and the line feed one byte
pub cell_line-length : (ws : List ℕ) (cs : List Cell) → cells_fit ws cs ≡ true → length (cell_line ws cs) ≡ total ws + 1
cell_line-length ws cs e = line_of-length cell_fits cell cell-length ws cs e

-- a line of numbers is the line of their cells
pub line_cells : (ws ns : List ℕ) → line ws ns ≡ cell_line ws (map Number ns)
unfolding line_of
line_cells [] ns = refl
line_cells (w ∷ ws) [] = refl
line_cells (w ∷ ws) (n ∷ ns) = ap₂ (λ (x y : List ℕ). x ++ y) (sym (number_cell w n)) (line_cells ws ns)

-- ---- a difference

-- with a minus sign it is what b has more, which is not 0, and with none what is left of a
pub difference_minus : (a b n : ℕ) → difference a b ≡ Minus n → (b ≡ a + n) × (0 < n)
unfolding difference
difference_minus a b n e = go (ltb a b) refl e
  where
    go : (t : Bool) → ltb a b ≡ t → cond t (Minus (b - a)) (Number (a - b)) ≡ Minus n → (b ≡ a + n) × (0 < n)
    go true p q = let z : b - a ≡ n = cc in omega (arith, ltb-true a b p)
    go false p q = let z : ◌≡◌ {A = ℕ} 0 1 = cc in absurd (omega arith)

pub difference_number : (a b n : ℕ) → difference a b ≡ Number n → a ≡ b + n
unfolding difference
difference_number a b n e = go (ltb a b) refl e
  where
    go : (t : Bool) → ltb a b ≡ t → cond t (Minus (b - a)) (Number (a - b)) ≡ Number n → a ≡ b + n
    go true p q = let z : ◌≡◌ {A = ℕ} 0 1 = cc in absurd (omega arith)
    go false p q = let z : a - b ≡ n = cc in omega (arith, ltb-false a b p)

-- ---- a cell is read back, whatever its width

any_blanks : (test : ℕ → Bool) (k : ℕ) (s : List ℕ) → test 32 ≡ false → any test (replicate k 32 ++ s) ≡ any test s
any_blanks test zero s e = refl
any_blanks test (suc k) s e = rw (e, any_blanks test k s e)

digits_printed : (n : ℕ) → any is_printed (digits n) ≡ true
digits_printed n = let t = starts n in let l : t.0 ≡ 32 → ⊥ = (λ e. omega arith) in rw (t.2, ne_eqb t.0 32 l)

digits_plain : (n : ℕ) → any is_minus (digits n) ≡ false
digits_plain =
    by_tenths
    (λ n. any is_minus (digits n) ≡ false)
    (λ n h. let l : 48 + n ≡ 45 → ⊥ = (λ e. omega arith) in rw (digits_one n h, ne_eqb (48 + n) 45 l))
    (λ n h ih. let l : 48 + n % 10 ≡ 45 → ⊥ = (λ e. omega arith) in
    rw (digits_more n h, any_append is_minus (digits (n / 10)) ((48 + n % 10) ∷ []), ih, ne_eqb (48 + n % 10) 45 l))

marks_back : (c : Cell)
    → cond (any is_printed (marks c))
    (cond (any is_minus (marks c)) (Minus (value_from 0 (marks c))) (Number (value_from 0 (marks c)))) Empty ≡ c
unfolding marks value_from
marks_back Empty = refl
marks_back (Number n) = rw (digits_printed n, digits_plain n, value_digits n)
marks_back (Minus n) = rw (value_digits n)

pub read_cell : (w : ℕ) (c : Cell) → cell_in (cell w c) ≡ c
unfolding cell_in cell
read_cell w c =
    let k : ℕ = w - length (marks c) in
    rw (any_blanks is_printed k (marks c) refl, any_blanks is_minus k (marks c) refl, value_blanks k (marks c))
    (marks_back c)

-- two cells that print the same are the same
pub cell_one : (w : ℕ) (c d : Cell) → cell w c ≡ cell w d → c ≡ d
cell_one w c d e = sym (read_cell w c) ∙ ap cell_in e ∙ read_cell w d

-- ---- the steps of the code

-- a byte stored behind i others
set_behind : (s t : List ℕ) (i a v : ℕ) → length s ≡ i → set (s ++ (a ∷ t)) i v ≡ s ++ (v ∷ t)
set_behind s t i a v e =
    let l : length (s ++ (a ∷ t)) ≡ i + suc (length t) = simp length-append (ap (λ (n : ℕ). n + suc (length t)) e) in
    let d : drop (suc i) (s ++ (a ∷ t)) ≡ t =
    ap (drop (suc i)) (sym (append_assoc s (a ∷ []) t))
    ∙ drop_at (s ++ (a ∷ [])) t (suc i) (length-append s (a ∷ []) ∙ omega arith) in
    set_split (s ++ (a ∷ t)) i v (omega arith) ∙ rw (take_at s (a ∷ t) i e, d)

-- one blank more
one_more : (i : ℕ) (s : List ℕ) → replicate i 32 ++ (32 ∷ s) ≡ replicate (suc i) 32 ++ s
one_more zero s = refl
one_more (suc i) s = ap (λ (l : List ℕ). 32 ∷ l) (one_more i s)

-- a number that fits behind a minus sign fits
pub minus_number : (w n : ℕ) → cell_fits w (Minus n) ≡ true → fits w n ≡ true
unfolding cell_fits marks fits
minus_number w n e = le-leb (length (digits n)) w (omega (arith, leb-true (suc (length (digits n))) w e))

-- its column has a blank before it
pub minus_blank : (w n : ℕ) → cell_fits w (Minus n) ≡ true → 0 < blanks (column w n)
unfolding cell_fits marks column
minus_blank w n e =
    let j : ℕ = w - suc (length (digits n)) in
    let k : w - length (digits n) ≡ suc j = omega (arith, leb-true (suc (length (digits n))) w e) in
    rw (k, blanks_front (suc j) n) (omega arith)

pub minus_within : (w n : ℕ) → cell_fits w (Minus n) ≡ true → blanks (column w n) - 1 < length (column w n)
minus_within w n e = omega (arith, minus_blank w n e, blanks_le (column w n))

-- and the sign goes into the last of them
pub minus_set : (w n : ℕ) → cell_fits w (Minus n) ≡ true
    → set (column w n) (blanks (column w n) - 1) 45 ≡ cell w (Minus n)
unfolding cell_fits marks column cell
minus_set w n e =
    let h : suc (length (digits n)) ≤ w = leb-true (suc (length (digits n))) w e in
    let j : ℕ = w - suc (length (digits n)) in
    let k : w - length (digits n) ≡ suc j = omega arith in
    let l : suc j - 1 ≡ j = omega arith in
    rw (k, blanks_front (suc j) n, l, ← one_more j (digits n))
    (set_behind (replicate j 32) (digits n) j 32 45 (length-replicate j 32))

-- what the proof of `fill_minus` stands on
pub ruleset minus_steps = (filled_column, minus_number, minus_blank, minus_within, minus_set)

-- ---- a line of cells, cell by cell

-- cells that fit are as many as the widths
pub cells_lengths : (ws : List ℕ) (cs : List Cell) → cells_fit ws cs ≡ true → length ws ≡ length cs
cells_lengths ws cs e = fit_of-lengths cell_fits ws cs e

module _ (w : ℕ) (c : Cell) (ws : List ℕ) (cs : List Cell) where
  -- the first cell fits, and so do those after it
  pub cells_next : cells_fit (w ∷ ws) (c ∷ cs) ≡ true → (cell_fits w c ≡ true) × (cells_fit ws cs ≡ true)
  unfolding fit_of
  cells_next e = (and_l (cell_fits w c) (cells_fit ws cs) e, and_r (cell_fits w c) (cells_fit ws cs) e)

  -- the first cell put into t
  pub cell_line_step : (at : ℕ) (t t' : List ℕ) → at + w ≤ length t → cell_fits w c ≡ true
      → t' ≡ take at t ++ (cell w c ++ drop (at + w) t)
      → take at t ++ cell_line (w ∷ ws) (c ∷ cs) ≡ take (at + w) t' ++ cell_line ws cs
  unfolding line_of
  cell_line_step at t t' r f p = part_done at w (cell w c) (cell_line ws cs) t t' r (cell-length w c f) p
