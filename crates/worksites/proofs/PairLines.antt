-- The two numbers on a line of worksites, column by column. Assumes nothing.
use mathlib.Core.Path.{◌≡◌, refl, sym, ap, ◌∙◌}
use mathlib.Core.Logic.{⊎_elim}
use mathlib.Core.Bool.{Bool, true, false, cond}
use mathlib.Core.List.{List, [], ◌∷◌}
use Prim.Native.Nat.{ℕ, ◌<◌}
use native.Mathlib.Omega.{arith}
use lib.ListN.{length, drop, get_or}
use Rattle.std.specs.Prelude.{Option, Some, None}
use Rattle.std.specs.List.{IsSplitAt}
use Rattle.lists.proofs.Tests.{truth}
use Rattle.columns.specs.Reading.{same_text, read_column, first_column, Row, with_column, row_of}
use Rattle.columns.proofs.Writing.{total}
use Rattle.columns.proofs.Rows.{first_short, first_part, row_length}
use Rattle.rules.specs.Worksites.{gap_widths}
use Rattle.worksites.specs.ListText.{pair_in}

abbrev most : ℕ
most = 99999999

-- what the two columns hold, and whether a line feed stands behind them
unfoldable pub pair_of : Option ℕ → Option ℕ → Bool → Option (ℕ × ℕ)
pair_of (Some n) (Some m) true = Some (n, m)
pair_of (Some n) (Some m) false = None
pair_of (Some n) None fed = None
pair_of None second fed = None

-- a line by its columns
by_columns : (line : List ℕ) → pair_in line
    ≡ pair_of (first_column most 8 line) (first_column most 8 (drop 8 line))
    (same_text (drop 8 (drop 8 line)) (10 ∷ []))
unfolding pair_in row_of pair_of
by_columns line =
    go (first_column most 8 line) (first_column most 8 (drop 8 line)) (same_text (drop 8 (drop 8 line)) (10 ∷ []))
  where
    pair : Row → Option (ℕ × ℕ)
    pair row = cond row.whole (Some (get_or row.numbers 0 0, get_or row.numbers 1 0)) None

    go : (r s : Option ℕ) (fed : Bool)
        → pair (with_column r (with_column s (record { numbers = []; whole = fed }))) ≡ pair_of r s fed
    go (Some n) (Some m) true = refl
    go (Some n) (Some m) false = refl
    go (Some n) None fed = refl
    go None s fed = refl

no_second : (r : Option ℕ) (fed : Bool) → pair_of r None fed ≡ None
unfolding pair_of
no_second (Some n) fed = refl
no_second None fed = refl

no_feed : (r s : Option ℕ) → pair_of r s false ≡ None
unfolding pair_of
no_feed (Some n) (Some m) = refl
no_feed (Some n) None = refl
no_feed None s = refl

module _ (line : List ℕ) where
  -- the first column is cut short
  pub first_cut : length line < 8 → None ≡ pair_in line
  unfolding pair_of
  first_cut h = sym (by_columns line ∙ rw (first_short most 8 line h))

  module _ (first rest : List ℕ) (cut : IsSplitAt line 8 first rest) where
    of_first : first_column most 8 line ≡ read_column most first
    of_first = rw cut.1 (first_part most 8 line cut.0)

    -- the second is
    pub second_cut : length rest < 8 → None ≡ pair_in line
    second_cut h =
        sym (by_columns line ∙ rw (← cut.2, first_short most 8 rest h) (no_second _ _))

    module _ (second end : List ℕ) (again : IsSplitAt rest 8 second end) where
      of_both : pair_in line ≡ pair_of (read_column most first) (read_column most second) (same_text end (10 ∷ []))
      of_both =
          by_columns line ∙ rw (of_first, ← cut.2, ← again.2)
          (ap (λ (r : Option ℕ). pair_of (read_column most first) r (same_text end (10 ∷ [])))
          (rw again.1 (first_part most 8 rest again.0)))

      -- no line feed, or no number
      pub not_fed : same_text end (10 ∷ []) ≡ false → None ≡ pair_in line
      not_fed e = sym (of_both ∙ rw e (no_feed _ _))

      pub first_bad : None ≡ read_column most first → None ≡ pair_in line
      unfolding pair_of
      first_bad e = sym (of_both ∙ rw (← e))

      pub second_bad : None ≡ read_column most second → None ≡ pair_in line
      second_bad e = sym (of_both ∙ rw (← e) (no_second _ _))

      -- both
      pub both_read : same_text end (10 ∷ []) ≡ true → (n m : ℕ) → Some n ≡ read_column most first
          → Some m ≡ read_column most second → Some (n, m) ≡ pair_in line
      unfolding pair_of
      both_read fed n m e k = sym (of_both ∙ rw (fed, ← e, ← k))

-- a line of fewer than 17 bytes holds none
pub no_pair : (line : List ℕ) → length line < 17 → pair_in line ≡ None
unfolding pair_in total
no_pair line h =
    ⊎_elim (λ e. absurd (omega (arith, row_length most gap_widths line e))) (λ e. rw e)
    (truth (row_of most gap_widths line).whole)
