-- Tables of a rule's values; all the numbers up to n, and runs as such sets shifted. Assumes nothing.
use mathlib.Core.Path.{◌≡◌, ◌∙◌}
use mathlib.Core.Bool.{◌&&◌}
use mathlib.Core.List.{List, [], ◌∷◌}
use Prim.Native.Nat.{ℕ, zero, suc, ◌+◌, ◌-◌, ◌*◌, ◌%◌, ◌^◌, ◌≤◌, ◌<◌}
use native.Mathlib.Nat.{mod-lt, add-zero, zero-add, add-suc, suc-add, le_of_suc-le-suc, not-suc-le-zero}
use native.Mathlib.Omega.{arith}
use borrow.Author.Tests.{leb-true, le-leb}
use lib.Dec.{leb}
use lib.Pow.{pow_pos}
use lib.ListN.{get_or}
use Rattle.std.proofs.lemmas.Bool.{and_from}
use Rattle.lists.proofs.Tests.{same_test, and_l, and_r}
use Rattle.sets.specs.Sets.{between, run, up_to}
use Rattle.sets.proofs.Bits.{has_shifted}
use Rattle.sets.proofs.Laws.{in_set_of, is_set_of, set_of_agree}

-- ---- a table

-- the table of a rule: its values for the n numbers from i on
abbrev pub values : (ℕ → ℕ) → ℕ → ℕ → List ℕ
values rule i zero = []
values rule i (suc n) = rule i ∷ values rule (suc i) n

entry_from : (rule : ℕ → ℕ) (i n k : ℕ) → k < n → get_or (values rule i n) k 0 ≡ rule (i + k)
entry_from rule i zero k h = absurd (not-suc-le-zero h)
entry_from rule i (suc n) zero h = rw add-zero
entry_from rule i (suc n) (suc k) h = entry_from rule (suc i) n k (le_of_suc-le-suc h) ∙ rw (suc-add, add-suc)

-- its entry k is the rule's value for k. A table of the source is that of a rule where antt computes the two to the
-- same list
pub entry : (rule : ℕ → ℕ) (n k : ℕ) → k < n → get_or (values rule 0 n) k 0 ≡ rule k
entry rule n k h = entry_from rule 0 n k h ∙ rw zero-add

-- ---- all the numbers up to n

-- from 63 on there is no other number below 64
pub up_to_all : (n : ℕ) → 63 ≤ n → up_to 63 ≡ up_to n
unfolding run up_to
up_to_all n h =
    set_of_agree 64 (between 0 63) (between 0 n) (λ p l. rw (le-leb p 63 (omega arith), le-leb p n (omega arith)))

-- ---- an entry shifted

-- p is from f to l where it is from f on and, less f, at most l less f
between_shifted : (f l p : ℕ) → f ≤ l → (leb f p && leb (p - f) (l - f)) ≡ between f l p
between_shifted f l p h =
    same_test _ _
    (λ e. and_from (leb f p) (leb p l) (and_l (leb f p) _ e)
    (le-leb p l (omega (arith, leb-true f p (and_l (leb f p) _ e), leb-true (p - f) (l - f) (and_r (leb f p) _ e)))))
    (λ e. and_from (leb f p) (leb (p - f) (l - f)) (and_l (leb f p) _ e)
    (le-leb (p - f) (l - f) (omega (arith, leb-true p l (and_r (leb f p) _ e)))))

-- the numbers up to l less f, shifted by f, are the run from f to l
pub run_shifted : (f l : ℕ) → f ≤ l → up_to (l - f) * 2 ^ f % 2 ^ 64 ≡ run f l
unfolding run up_to
run_shifted f l h =
    is_set_of 64 _ (between f l) (mod-lt _ (pow_pos 64))
    (λ p k. has_shifted f p (up_to (l - f)) k
    ∙ rw (in_set_of 64 (between 0 (l - f)) (p - f) (omega arith), le-leb 0 (p - f) (omega arith))
    (between_shifted f l p h))
