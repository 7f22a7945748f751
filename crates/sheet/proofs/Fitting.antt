-- The cells of a line fit their columns, and so a line has 73 bytes. Assumes nothing.
use mathlib.Core.Path.{◌≡◌, refl, ◌∙◌}
use mathlib.Core.Bool.{Bool, true, false, cond}
use mathlib.Core.List.{List, [], ◌∷◌}
use Prim.Native.Nat.{ℕ, ◌+◌, ◌-◌, ◌*◌, ◌^◌, ◌≤◌, ◌<◌}
use native.Mathlib.Omega.{arith}
use borrow.Author.Tests.{eq-eqb, ne_eqb}
use lib.Dec.{ltb}
use lib.ListN.{length}
use Rattle.lists.specs.Search.{below}
use Rattle.lists.proofs.Search.{length-keep}
use Rattle.std.proofs.lemmas.Bool.{and_from}
use Rattle.columns.proofs.Writing.{fits_below, total}
use Rattle.columns.specs.declared.cells.Cell.{Cell}
use Rattle.columns.specs.declared.cells.Cell.TheVariants.{Empty, Number, Minus}
use Rattle.columns.specs.Cells.{difference, cell_fits, cell_line, cells_fit}
use Rattle.columns.proofs.CellsLaws.{number_fits, minus_fits, empty_fits, cell_line-length}
use Rattle.sets.specs.Sets.{union, size, is_member, least, greatest}
use Rattle.sets.proofs.Ends.{least_most, greatest_most}
use Rattle.rules.specs.declared.kind.Kind.{Kind}
use Rattle.rules.specs.declared.kind.Kind.TheVariants.{Lpa, Toa, Twa}
use Rattle.rules.specs.declared.Authority.{Authority}
use Rattle.rules.specs.declared.Register.{Register}
use Rattle.rules.specs.Board.{board_of, kind_no, is_in_force, has_workers_on, authority_no}
use Rattle.rules.specs.Call.{minute_of}
use Rattle.rules.specs.Sheet.{stage_no, site_no, minutes_in_hand, authority_cells, authority_widths, held_portions}
use Rattle.rules.specs.Sheet.{total_cells, total_widths}
use Rattle.rules.specs.Step.{Kept}
use Rattle.rules.proofs.Sheets.{held_by_sort}
use Rattle.columns.specs.Line.{fit_of}

-- a number of no more digits than columns, and one of fewer behind a minus sign
number_in : (w n : ℕ) → 0 < w → n < 10 ^ w → cell_fits w (Number n) ≡ true
number_in w n p h = number_fits w n ∙ fits_below w n p h

minus_in : (n : ℕ) → n < 10 ^ 8 → cell_fits 9 (Minus n) ≡ true
minus_in n h = minus_fits 8 n ∙ fits_below 8 n (omega arith) h

difference_in : (a b : ℕ) → a < 10 ^ 9 → b < 10 ^ 8 → cell_fits 9 (difference a b) ≡ true
unfolding difference
difference_in a b h l = go (ltb a b)
  where
    go : (t : Bool) → cell_fits 9 (cond t (Minus (b - a)) (Number (a - b))) ≡ true
    go true = minus_in (b - a) (omega arith)
    go false = number_in 9 (a - b) (omega arith) (omega arith)

-- a number of 16 bits in 7 columns, and in 8
seven_in : (n : ℕ) → n < 65536 → cell_fits 7 (Number n) ≡ true
seven_in n h = number_in 7 n (omega arith) (omega arith)

eight_in : (n : ℕ) → n < 65536 → cell_fits 8 (Number n) ≡ true
eight_in n h = number_in 8 n (omega arith) (omega arith)

kind_in : (k : Kind) → kind_no k < 65536
kind_in Lpa = omega arith
kind_in Toa = omega arith
kind_in Twa = omega arith

pick_in : (t : Bool) (x y : ℕ) → x < 65536 → y < 65536 → cond t x y < 65536
pick_in true x y h l = h
pick_in false x y h l = l

-- the minutes in hand of a term that starts within the days, from their length and from what is left of them
pub minutes_none : (now : ℕ) (a : Authority) → a.minutes ≡ 0
    → (Empty ≡ minutes_in_hand now a) × (cell_fits 9 Empty ≡ true)
unfolding minutes_in_hand
minutes_none now a e = (rw (eq-eqb a.minutes 0 e), empty_fits 9)

pub minutes_some : (now : ℕ) (a : Authority) (minutes : ℕ) (c : Cell) → (a.minutes ≡ 0 → ⊥) → minutes ≡ a.minutes
    → c ≡ difference (a.start + minutes) now → a.start < 10000 * 1440 → a.minutes < 65536 → now < 10 ^ 8
    → (c ≡ minutes_in_hand now a) × (cell_fits 9 c ≡ true)
unfolding minutes_in_hand
minutes_some now a minutes c n m e s l h =
    let d : c ≡ difference (a.start + a.minutes) now = e ∙ rw m in
    (rw (ne_eqb a.minutes 0 n) d, rw d (difference_in (a.start + a.minutes) now (omega arith) h))

-- the line of an authority: its cells are those of the definition, and each fits
pub authority_line_lem : (now : ℕ) (a : Authority) (number kind low high officer stage site : ℕ) (minutes : Cell)
    (agreed : ℕ)
    → authority_no a < 65536 → a.officer < 65536 → a.agreed.0 < 65536
    → number ≡ authority_no a → kind ≡ kind_no a.kind → low ≡ least a.limits → high ≡ greatest a.limits
    → officer ≡ a.officer → stage ≡ stage_no a → site ≡ site_no a
    → (minutes ≡ minutes_in_hand now a) × (cell_fits 9 minutes ≡ true) → agreed ≡ a.agreed.0
    → let cells =
    Number number ∷ Number kind ∷ Number low ∷ Number high ∷ Number officer ∷ Number stage ∷ Number site ∷ minutes
    ∷ Number agreed ∷ [] in
    (cells ≡ authority_cells now a) × (cells_fit authority_widths cells ≡ true)
unfolding fit_of authority_cells
authority_line_lem now a number kind low high officer stage site minutes agreed n o r b k f l w t s m g = (
  rw (b, k, f, l, w, t, s, m.0, g),
  and_from _ _ (eight_in number (omega arith))
      (and_from _ _ (seven_in kind (omega (arith, kind_in a.kind)))
      (and_from _ _ (eight_in low (omega (arith, least_most a.limits)))
      (and_from _ _ (eight_in high (omega (arith, greatest_most a.limits)))
      (and_from _ _ (eight_in officer (omega arith))
      (and_from _ _ (eight_in stage (omega (arith, pick_in (is_in_force a) 2 1 (omega arith) (omega arith))))
      (and_from _ _ (eight_in site (omega (arith, pick_in (has_workers_on a) 1 2 (omega arith) (omega arith))))
      (and_from _ _ m.1 (and_from _ _ (eight_in agreed (omega arith)) refl)))))))),
)

-- now, of a stamp of two numbers of 16 bits
pub now_small : (day time : ℕ) → day < 65536 → time < 65536 → minute_of day time < 10 ^ 8
unfolding minute_of
now_small day time d t = omega arith

-- a line of cells that fit has 73 bytes
pub authority_73 : (cells : List Cell) → cells_fit authority_widths cells ≡ true
    → length (cell_line authority_widths cells) ≡ 73
unfolding total
authority_73 cells e = cell_line-length authority_widths cells e

pub total_73 : (cells : List Cell) → cells_fit total_widths cells ≡ true → length (cell_line total_widths cells) ≡ 73
unfolding total
total_73 cells e = cell_line-length total_widths cells e

-- ---- the last line

size_most : (set : ℕ) → size set ≤ 64
unfolding size below
size_most set = length-keep (is_member set) (below 64)

-- the counts of its first two cells are those of the definition, the portions held counted from the two sets that the
-- register holds; and each cell fits
pub total_line_lem : (r : Register) → Kept r → (held blocked : ℕ)
    → held ≡ size (union r.exclusive_held r.twa_held) → blocked ≡ size r.blocks
    → let cells = Number held ∷ Number blocked ∷ Empty ∷ [] in
    (cells ≡ total_cells (board_of r)) × (cells_fit total_widths cells ≡ true)
unfolding fit_of board_of total_cells
total_line_lem r k held blocked h g =
    let all : union r.exclusive_held r.twa_held ≡ held_portions r.authorities.items =
    rw (k.stored.exclusive_held, k.stored.twa_held) (held_by_sort (board_of r)) in (
      rw (h, all, g),
      and_from _ _ (number_in 9 held (omega arith) (omega (arith, size_most (union r.exclusive_held r.twa_held))))
          (and_from _ _ (number_in 9 blocked (omega arith) (omega (arith, size_most r.blocks)))
          (and_from _ _ (empty_fits 54) refl)),
    )
