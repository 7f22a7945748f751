-- Laws of reading a column, for every number, width and greatest number; then that the scan of the code reads the same.
-- Assumes nothing.
use mathlib.Core.Path.{◌≡◌, refl, sym, ap, ◌∙◌}
use mathlib.Core.Bool.{Bool, true, false, cond, ◌&&◌, false≢true, and-true, and-false}
use mathlib.Core.List.{List, [], ◌∷◌, ◌++◌}
use mathlib.Core.Logic.{⊎_elim}
use Prim.Native.Nat.{ℕ, ◌+◌, ◌-◌, ◌≤◌}
use native.Mathlib.Omega.{arith}
use native.Mathlib.Nat.{add-sub_cancel}
use borrow.Author.Tests.{eqb-true, le-leb, leb-true, lt-ltb}
use lib.Dec.{eqb, leb, ltb}
use lib.ListN.{length, drop, get_or, replicate, length-replicate}
use lib.Seq.{drop_at}
use Rattle.lists.proofs.Tests.{and_l, and_r, truth}
use Rattle.std.specs.Prelude.{Option, Some, None}
use Rattle.columns.specs.Column.{digits, column, fits}
use Rattle.columns.specs.Reading.{blanks, value_from, is_column, read_column}
use Rattle.columns.specs.Steps.{scan_digits}
use Rattle.columns.proofs.Writing.{column-length}
use Rattle.columns.proofs.Scan.{unread, scan_step, bare, bare-digits, bare_is, blanks_front, blanks_split}
use Rattle.columns.proofs.SameText.{same_refl, same_eq, value_column}

-- a number that fits its columns is read back from them
pub read_column_lem : (most w n : ℕ) → fits w n ≡ true → n ≤ most → read_column most (column w n) ≡ Some n
unfolding is_column read_column
read_column_lem most w n f l = rw (value_column w n, column-length w n f, same_refl (column w n), le-leb n most l)

-- what reading a number says of the text and of the number
is_read : (most n : ℕ) (s : List ℕ) → read_column most s ≡ Some n → (s ≡ column (length s) n) × (n ≤ most)
unfolding is_column read_column
is_read most n s e = go (is_column v s && leb v most) refl e
  where
    v : ℕ
    v = value_from 0 s

    go : (t : Bool) → (is_column v s && leb v most) ≡ t → cond t (Some v) None ≡ Some n
        → (s ≡ column (length s) n) × (n ≤ most)
    go true p q =
        let z : v ≡ n = cc in (
          same_eq s (column (length s) n) (rw z at (and_l (is_column v s) (leb v most) p)),
          rw z at (leb-true v most (and_r (is_column v s) (leb v most) p)),
        )
    go false p q = unread q

-- a text that is read as a number is that number's columns
pub column_read : (most n : ℕ) (s : List ℕ) → read_column most s ≡ Some n → s ≡ column (length s) n
column_read most n s e = (is_read most n s e).0

-- and the number is at most the greatest asked for
pub read_most : (most n : ℕ) (s : List ℕ) → read_column most s ≡ Some n → n ≤ most
read_most most n s e = (is_read most n s e).1

-- two numbers with the same columns are the same
pub column_one : (w m n : ℕ) → column w m ≡ column w n → m ≡ n
column_one w m n e = sym (value_column w m) ∙ ap (value_from 0) e ∙ value_column w n

-- ---- the scan reads what `read_column` says
agree : (a b : Option ℕ) → ((n : ℕ) → a ≡ Some n → b ≡ Some n) → ((n : ℕ) → b ≡ Some n → a ≡ Some n) → a ≡ b
agree (Some m) b f g = sym (f m refl)
agree None (Some m) f g = g m refl
agree None None f g = refl

-- the digits of a number behind blanks are read, and its column is scanned
behind_blanks : (most k n : ℕ) → n ≤ most → read_column most (replicate k 32 ++ digits n) ≡ Some n
unfolding column fits
behind_blanks most k n h =
    let w : ℕ = k + length (digits n) in
    let z : w - length (digits n) ≡ k = add-sub_cancel k (length (digits n)) in
    rw z at (read_column_lem most w n (le-leb (length (digits n)) w (omega arith)) h)

scan_column : (most w n : ℕ) → n ≤ most → bare most (drop (blanks (column w n)) (column w n)) ≡ Some n
unfolding column
scan_column most w n h =
    let k : ℕ = w - length (digits n) in
    rw (blanks_front k n, drop_at (replicate k 32) (digits n) k (length-replicate k 32)) (bare-digits most n h)

read_scan : (most : ℕ) (s : List ℕ) → bare most (drop (blanks s) s) ≡ read_column most s
read_scan most s =
    agree
    (bare most (drop (blanks s) s))
    (read_column most s)
    (λ n e. let r = bare_is most n (drop (blanks s) s) e in
    rw (blanks_split s, r.1) (behind_blanks most (blanks s) n r.0))
    (λ n e. let r = is_read most n s e in rw r.0 (scan_column most (length s) n r.1))

-- digits with a 0 before others
abbrev pub leads : List ℕ → Bool
leads d = eqb (get_or d 0 0) 48 && ltb 1 (length d)

-- ---- the ways out of the code, by the digits: what stands behind the blanks
module _ (most : ℕ) (s : List ℕ) where
  read_bare : (d : List ℕ) → d ≡ drop (blanks s) s → bare most d ≡ read_column most s
  read_bare d e = rw e (read_scan most s)

  pub read_none : (d : List ℕ) → d ≡ drop (blanks s) s → length d ≡ 0 → None ≡ read_column most s
  unfolding bare
  read_none [] e h = read_bare [] e
  read_none (b ∷ d) e h = absurd (omega arith)

  pub read_zeros : (d : List ℕ) → d ≡ drop (blanks s) s → leads d ≡ true → None ≡ read_column most s
  unfolding bare
  read_zeros [] e h = absurd (false≢true h)
  read_zeros (b ∷ []) e h = absurd (false≢true (sym (and-false (eqb b 48)) ∙ h))
  read_zeros (b ∷ c ∷ d) e h = rw (← read_bare (b ∷ c ∷ d) e, and_l (eqb b 48) (ltb 1 (length (b ∷ c ∷ d))) h)

  -- 0 alone is scanned as any other digits are
  pub read_digits : (d : List ℕ) → d ≡ drop (blanks s) s → (length d ≡ 0 → ⊥) → leads d ≡ false
      → scan_digits most 0 d ≡ read_column most s
  unfolding bare scan_digits
  read_digits [] e h z = absurd (omega arith)
  read_digits (b ∷ []) e h z = ⊎_elim
      (λ (t : eqb b 48 ≡ true). let b0 = eqb-true b 48 t in
      rw b0 (scan_step 0 (48 ∷ []) most 0 (omega arith) (omega arith) ∙ read_bare (48 ∷ []) (rw b0 at e)))
      (λ (t : eqb b 48 ≡ false). rw (← read_bare (b ∷ []) e, t))
      (truth (eqb b 48))
  read_digits (b ∷ c ∷ d) e h z =
      let other : eqb b 48 ≡ false =
      sym (and-true (eqb b 48)) ∙ (rw (lt-ltb 1 (length (b ∷ c ∷ d)) (omega arith)) at z) in
      rw (← read_bare (b ∷ c ∷ d) e, other)
