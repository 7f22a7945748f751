-- `columns::reading::read_column` meets its contract, by the laws of the scan. Assumes nothing.
use Rattle.std.proofs.Common.{◌≡◌, ℕ, ◌-◌, sym, ◌∙◌, arith, List, length, take, drop}
use borrow.Author.Rules.{part_to_end}
use borrow.Author.Tests.{eqb-true, eqb-false}
use Rattle.columns.specs.Reading.{blanks}
use Rattle.columns.proofs.Scan.{blanks_le}
use Rattle.columns.proofs.ReadingLaws.{read_none, read_zeros, read_digits}
use Rattle.columns.proofs.reading.read_column.Goals as goal

-- the part that the code takes is what stands behind the blanks
behind : (s : List ℕ) (at : ℕ) → at ≡ blanks s → take (length s - at) (drop at s) ≡ drop (blanks s) s
behind s at e = rw (part_to_end, e)

pub slice_bounds-digits-count : goal.slice_bounds-digits-count
slice_bounds-digits-count c = omega (arith, blanks_le c.args.text.now)

pub slice_bounds-digits-start : goal.slice_bounds-digits-start
slice_bounds-digits-start c = omega (arith, blanks_le c.args.text.now)

pub returns-then-is_empty : goal.returns-then-is_empty
returns-then-is_empty c =
    read_none _ _ _ (behind _ _ c.blanks_of.ensures) (eqb-true _ _ (sym c.is_empty.ensures ∙ c.if-is_empty.true))

pub returns-then-has_leading_zero : goal.returns-then-has_leading_zero
returns-then-has_leading_zero c = read_zeros _ _ _ (behind _ _ c.blanks_of.ensures) c.if-has_leading_zero.true

pub returns : goal.returns
returns c =
    let some = eqb-false _ _ (sym c.is_empty.ensures ∙ c.if-is_empty.false) in
    c.number_from.ensures ∙ read_digits _ _ _ (behind _ _ c.blanks_of.ensures) some c.if-has_leading_zero.false
