-- Laws of reading a row of columns, each for all numbers, widths and greatest numbers, and the steps of the loop that
-- reads one. Assumes nothing.
use mathlib.Core.Path.{◌≡◌, refl, sym, ap, ap₂, ◌∙◌}
use mathlib.Core.Logic.{⊎_elim}
use mathlib.Core.Bool.{Bool, true, false, cond, ◌&&◌, false≢true, and-true, and-false}
use mathlib.Core.List.{List, [], ◌∷◌, ◌++◌, append_assoc, append-nil}
use Prim.Native.Nat.{ℕ, suc, ◌+◌, ◌≤◌, ◌<◌}
use native.Mathlib.Omega.{arith}
use native.Mathlib.Numerals.{add-one}
use borrow.Author.Tests.{eq-eqb, ne_eqb, le-leb, lt-leb, leb-true}
use lib.Dec.{eqb, leb}
use lib.ListN.{length, take, drop, set, get_or, length-append, length-set, length-drop, take-append-drop}
use lib.ListN.{drop_of_length-le}
use lib.Seq.{take_at, drop_at, drop-cons, take-suc-set, length-take-le}
use Rattle.std.proofs.lemmas.Bool.{and_from}
use Rattle.lists.proofs.Tests.{lt_or_le, and_l, and_r}
use Rattle.std.specs.Prelude.{Option, Some, None}
use Rattle.std.specs.List.{IsSplitAt}
use Rattle.std.proofs.lemmas.List.{take_all}
use Rattle.columns.specs.Column.{column, fits}
use Rattle.columns.specs.Line.{line, all_fit, fit_of, line_of}
use Rattle.columns.specs.Reading.{same_text, read_column, first_column, Row, with_column, row_of, row_in, numbers_in}
use Rattle.columns.proofs.Scan.{unread}
use Rattle.columns.proofs.SameText.{same_eq}
use Rattle.columns.proofs.Writing.{column-length, total}
use Rattle.columns.proofs.ReadingLaws.{read_column_lem, column_read, read_most}

-- no number is above `most`
unfoldable pub at_most : ℕ → List ℕ → Bool
at_most most [] = true
at_most most (n ∷ ns) = leb n most && at_most most ns

-- a number's column at the front of a text is read as that number, and no other is
module _ (most w n : ℕ) where
  first_column_lem : (s : List ℕ) → fits w n ≡ true → n ≤ most → first_column most w (column w n ++ s) ≡ Some n
  unfolding first_column
  first_column_lem s f h =
      let l : w ≤ length (column w n ++ s) = omega (arith, length-append (column w n) s, column-length w n f) in
      rw (le-leb w (length (column w n ++ s)) l, take_at (column w n) s w (column-length w n f))
      (read_column_lem most w n f h)

  first_read : (s : List ℕ) → first_column most w s ≡ Some n → (take w s ≡ column w n) × (n ≤ most)
  unfolding first_column
  first_read s e = go (leb w (length s)) refl e
    where
      go : (t : Bool) → leb w (length s) ≡ t → cond t (read_column most (take w s)) None ≡ Some n
          → (take w s ≡ column w n) × (n ≤ most)
      go true p q = (
        rw (length-take-le w s (leb-true w (length s) p)) at (column_read most n (take w s) q),
        read_most most n (take w s) q,
      )
      go false p q = unread q

-- numbers that fit their columns are read back from their line
pub read_line : (most : ℕ) (ws ns : List ℕ) → all_fit ws ns ≡ true → at_most most ns ≡ true
    → row_of most ws (line ws ns) ≡ record { numbers = ns; whole = true }
unfolding at_most fit_of line_of row_of same_text
read_line most [] [] f h = refl
read_line most [] (n ∷ ns) f h = absurd (false≢true f)
read_line most (w ∷ ws) [] f h = absurd (false≢true f)
read_line most (w ∷ ws) (n ∷ ns) f h =
    let p = and_l (fits w n) (all_fit ws ns) f in
    let q = leb-true n most (and_l (leb n most) (at_most most ns) h) in
    let r = read_line most ws ns (and_r (fits w n) (all_fit ws ns) f) (and_r (leb n most) (at_most most ns) h) in
    rw (first_column_lem most w n (line ws ns) p q, drop_at (column w n) (line ws ns) w (column-length w n p), r)

-- a text that is read as a whole row is the line of the numbers read, one for each width, none above `most`
pub record IsLine (most : ℕ) (ws s ns : List ℕ) : Type 0 where
  pub text : s ≡ line ws ns
  pub count : length ns ≡ length ws
  pub small : at_most most ns ≡ true

pub line_read : (most : ℕ) (ws s : List ℕ) → (row_of most ws s).whole ≡ true
    → IsLine most ws s (row_of most ws s).numbers
unfolding at_most line_of row_of
line_read most [] s e = record { text = same_eq s (10 ∷ []) e; count = refl; small = refl }
line_read most (w ∷ ws) s e = go (first_column most w s) refl e (line_read most ws (drop w s))
  where
    row : Row
    row = row_of most ws (drop w s)

    go : (r : Option ℕ) → first_column most w s ≡ r → (with_column r row).whole ≡ true
        → (row.whole ≡ true → IsLine most ws (drop w s) row.numbers)
        → IsLine most (w ∷ ws) s (with_column r row).numbers
    go (Some n) p q ih =
        let r = ih q in
        let f = first_read most w n s p in
        record {
          text = sym (take-append-drop w s) ∙ ap₂ (λ (a b : List ℕ). a ++ b) f.0 r.text;
          count = ap suc r.count;
          small = and_from (leb n most) (at_most most row.numbers) (le-leb n most f.1) r.small;
        }
    go None p q ih = absurd (false≢true q)

-- ---- the first column of a text, and what stands behind it
module _ (most w : ℕ) (s : List ℕ) where
  pub first_short : length s < w → first_column most w s ≡ None
  unfolding first_column
  first_short h = rw (lt-leb w (length s) h)

  pub first_part : w ≤ length s → first_column most w s ≡ read_column most (take w s)
  unfolding first_column
  first_part h = rw (le-leb w (length s) h)

-- a whole row has the bytes of its columns, and the line feed
pub row_length : (most : ℕ) (ws s : List ℕ) → (row_of most ws s).whole ≡ true → length s ≡ total ws + 1
unfolding row_of total
row_length most [] s e = ap length (same_eq s (10 ∷ []) e)
row_length most (w ∷ ws) s e = go (first_column most w s) refl e (row_length most ws (drop w s))
  where
    row : Row
    row = row_of most ws (drop w s)

    go : (r : Option ℕ) → first_column most w s ≡ r → (with_column r row).whole ≡ true
        → (row.whole ≡ true → length (drop w s) ≡ total ws + 1) → length s ≡ w + total ws + 1
    go (Some n) p q ih =
        ⊎_elim (λ h. unread (sym (first_short most w s h) ∙ p))
        (λ h. omega (arith, length-drop w s, ih q)) (lt_or_le (length s) w)
    go None p q ih = absurd (false≢true q)

-- a text is the line feed where its only byte is
pub end_one : (s : List ℕ) → length s ≡ 1 → same_text s (10 ∷ []) ≡ eqb (get_or s 0 0) 10
unfolding same_text
end_one [] e = absurd (omega arith)
end_one (b ∷ []) e = and-true (eqb b 10)
end_one (b ∷ c ∷ s) e = absurd (omega arith)

pub end_other : (s : List ℕ) → (length s ≡ 1 → get_or s 0 0 ≡ 10 → ⊥) → same_text s (10 ∷ []) ≡ false
unfolding same_text
end_other [] h = refl
end_other (b ∷ []) h = rw (ne_eqb b 10 (h refl))
end_other (b ∷ c ∷ s) h = and-false (eqb b 10)

-- ---- the loop: the numbers read so far, and behind them the row of the columns left, in which
-- nothing more may be read
abbrev pub behind : List ℕ → Row → Row
behind ns row = record { numbers = ns ++ row.numbers; whole = row.whole }

abbrev pub ended : Bool → Row
ended whole = record { numbers = []; whole = whole }

module _ (count most : ℕ) (ws s : List ℕ) where
  -- as many numbers as columns are the row's, where it is whole
  pub numbers_asked : length ws ≡ count
      → numbers_in count most ws s ≡ cond (row_of most ws s).whole (Some (row_of most ws s).numbers) None
  unfolding numbers_in row_in
  numbers_asked a = rw (eq-eqb (length ws) count a)

  -- another number of columns holds nothing that is asked for
  pub more_or_fewer : (length ws ≡ count → ⊥) → None ≡ numbers_in count most ws s
  unfolding numbers_in
  more_or_fewer h = rw (ne_eqb (length ws) count h)

  -- k columns are read, and rest stands behind them
  pub record SoFar (k : ℕ) (numbers rest : List ℕ) : Type 0 where
    pub asked : length ws ≡ count
    pub places : length numbers ≡ length ws
    pub row : row_of most ws s ≡ behind (take k numbers) (row_of most (drop k ws) rest)

  pub none_yet : (numbers : List ℕ) → length ws ≡ count → length numbers ≡ count → SoFar 0 numbers s
  none_yet numbers a e = record { asked = a; places = e ∙ sym a; row = refl }

  module _ (k : ℕ) (numbers rest : List ℕ) (so_far : SoFar k numbers rest) where
    -- the answer, where nothing more is read
    row_ended : (whole : Bool) → row_of most (drop k ws) rest ≡ ended whole
        → numbers_in count most ws s ≡ cond whole (Some (take k numbers)) None
    row_ended whole e = numbers_asked so_far.asked ∙ rw (so_far.row, e, append-nil (take k numbers))

    row_stop : k < length ws → first_column most (get_or ws k 0) rest ≡ None → None ≡ numbers_in count most ws s
    unfolding row_of
    row_stop h e = sym (row_ended false (rw (drop-cons ws k 0, e)))

    row_more : (n : ℕ) → k < length ws → first_column most (get_or ws k 0) rest ≡ Some n
        → SoFar (k + 1) (set numbers k n) (drop (get_or ws k 0) rest)
    unfolding row_of
    row_more n h e =
        let m = row_of most (drop (suc k) ws) (drop (get_or ws k 0) rest) in
        let l : k < length numbers = omega (arith, so_far.places) in
        record {
          asked = so_far.asked;
          places = simp length-set so_far.places;
          row =
              so_far.row ∙ rw (add-one, drop-cons ws k 0 h, e, take-suc-set numbers k n l)
              (ap (λ (ns : List ℕ). record { numbers = ns; whole = m.whole })
              (sym (append_assoc (take k numbers) (n ∷ []) m.numbers)));
        }

    -- the column at k, w bytes wide: it is cut short, or it is split off what is left
    module _ (w : ℕ) (width : w ≡ get_or ws k 0) (more : k < length ws) where
      pub row_short : length rest < w → None ≡ numbers_in count most ws s
      row_short h = row_stop more (rw (← width) (first_short most w rest h))

      module _ (part left : List ℕ) (parts : IsSplitAt rest w part left) where
        read : first_column most (get_or ws k 0) rest ≡ read_column most part
        read = rw (← width, parts.1) (first_part most w rest parts.0)

        pub row_bad : None ≡ read_column most part → None ≡ numbers_in count most ws s
        row_bad e = row_stop more (read ∙ sym e)

        pub row_next : (n : ℕ) → Some n ≡ read_column most part → SoFar (k + 1) (set numbers k n) left
        row_next n e = rw (parts.2, width) (row_more n more (read ∙ sym e))

    row_end : (whole : Bool) → length ws ≤ k → same_text rest (10 ∷ []) ≡ whole
        → row_of most (drop k ws) rest ≡ ended whole
    unfolding row_of
    row_end whole h e = rw (drop_of_length-le ws h, e)

    pub row_whole : length ws ≤ k → same_text rest (10 ∷ []) ≡ true → Some numbers ≡ numbers_in count most ws s
    row_whole h e =
        let all : take k numbers ≡ numbers = take_all k numbers (omega (arith, so_far.places)) in
        sym (rw all at (row_ended true (row_end true h e)))

    pub row_other : length ws ≤ k → same_text rest (10 ∷ []) ≡ false → None ≡ numbers_in count most ws s
    row_other h e = sym (row_ended false (row_end false h e))
