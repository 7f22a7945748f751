-- Two texts compared, and the value of a column. Assumes nothing.
use mathlib.Core.Path.{◌≡◌, refl, ap₂, ◌∙◌}
use mathlib.Core.Bool.{true, false≢true}
use mathlib.Core.List.{List, [], ◌∷◌, ◌++◌}
use Prim.Native.Nat.{ℕ, zero, suc, ◌-◌}
use borrow.Author.Tests.{eq-eqb, eqb-true}
use lib.Dec.{eqb}
use lib.ListN.{length, replicate}
use Rattle.lists.proofs.Tests.{and_l, and_r}
use Rattle.columns.specs.Column.{digits, column}
use Rattle.columns.specs.Reading.{same_text, value_from}
use Rattle.columns.proofs.Scan.{value_digits}

-- `same_text` is equality
pub same_refl : (s : List ℕ) → same_text s s ≡ true
unfolding same_text
same_refl [] = refl
same_refl (a ∷ s) = rw (eq-eqb a a refl) (same_refl s)

pub same_eq : (s t : List ℕ) → same_text s t ≡ true → s ≡ t
unfolding same_text
same_eq [] [] e = refl
same_eq [] (b ∷ t) e = absurd (false≢true e)
same_eq (a ∷ s) [] e = absurd (false≢true e)
same_eq (a ∷ s) (b ∷ t) e =
    ap₂ (λ (x : ℕ) (l : List ℕ). x ∷ l) (eqb-true a b (and_l (eqb a b) (same_text s t) e))
    (same_eq s t (and_r (eqb a b) (same_text s t) e))

-- the digits of a column make the number; blanks add nothing
pub value_blanks : (k : ℕ) (s : List ℕ) → value_from 0 (replicate k 32 ++ s) ≡ value_from 0 s
unfolding value_from
value_blanks zero s = refl
value_blanks (suc k) s = value_blanks k s

pub value_column : (w n : ℕ) → value_from 0 (column w n) ≡ n
unfolding column
value_column w n = value_blanks (w - length (digits n)) (digits n) ∙ value_digits n
