-- The lines of a text read one by one: what is read so far, and behind it what is read of the lines left. For any
-- reading and any width. Assumes nothing.
use mathlib.Core.Path.{◌≡◌, refl, sym, ◌∙◌}
use mathlib.Core.List.{List, [], ◌∷◌, ◌++◌, append_assoc, append-nil}
use Prim.Native.Nat.{ℕ, zero, suc, ◌+◌, ◌-◌, ◌*◌, ◌≤◌, ◌<◌}
use native.Mathlib.Nat.{mul-add}
use native.Mathlib.Omega.{arith}
use mathlib.Core.Logic.{⊎_elim}
use lib.ListN.{length, take, drop, length-append, length-take, length-drop}
use lib.Seq.{drop-drop}
use Rattle.std.specs.Prelude.{Option, Some, None}
use Rattle.lists.proofs.Tests.{lt_or_le}
use Rattle.columns.specs.LinesIn.{unless_malformed, lines_in}

module _ {A : Type 0} (reading : List ℕ → Option A) (w : ℕ) where
  one_more : (line : Option A) (xs : List A) (n : ℕ) → length xs ≤ n → length (unless_malformed line xs) ≤ suc n
  one_more (Some x) xs n h = omega arith
  one_more None xs n h = omega arith

  -- no more than asked for
  pub lines_in_most : (n : ℕ) (text : List ℕ) → length (lines_in reading w n text) ≤ n
  unfolding lines_in
  lines_in_most zero text = omega arith
  lines_in_most (suc n) text =
      one_more (reading (take w text)) (lines_in reading w n (drop w text)) n (lines_in_most n (drop w text))

  -- after some lines of at most n
  pub record ReadSoFar (n : ℕ) (text : List ℕ) (found : List A) : Type 0 where
    pub few : length found ≤ n
    pub whole : lines_in reading w n text
        ≡ found ++ lines_in reading w (n - length found) (drop (w * length found) text)

  module _ (n : ℕ) (text : List ℕ) (found : List A) (s : ReadSoFar n text found) where
    -- a line more
    pub line_more : (x : A) (line : List ℕ) → line ≡ take w (drop (w * length found) text) → reading line ≡ Some x
        → length found < n → ReadSoFar n text (found ++ (x ∷ []))
    unfolding lines_in
    line_more x line cut e more =
        let k = length found in
        let left : n - k ≡ suc (n - (k + 1)) = omega arith in
        let count : length (found ++ (x ∷ [])) ≡ k + 1 = simp (length-append) in
        let next : w * (k + 1) ≡ w * k + w = omega (arith, mul-add w k 1) in
        record {
          few = omega arith;
          whole =
              s.whole ∙ rw (count, left, ← cut, e, next, ← drop-drop w (w * k) text)
              (sym (append_assoc found (x ∷ []) _));
        }

    -- a malformed line, of any that are left: nothing more is read
    pub line_malformed : (line : List ℕ) → line ≡ take w (drop (w * length found) text) → reading line ≡ None
        → found ≡ lines_in reading w n text
    unfolding lines_in
    line_malformed line cut e = go (n - length found) s.whole
      where
        go : (m : ℕ) → lines_in reading w n text ≡ found ++ lines_in reading w m (drop (w * length found) text)
            → found ≡ lines_in reading w n text
        go zero h = sym (h ∙ append-nil found)
        go (suc m) h = sym (h ∙ rw (← cut, e) (append-nil found))

    -- as many as asked for
    pub lines_full : n ≤ length found → found ≡ lines_in reading w n text
    unfolding lines_in
    lines_full h =
        let none : n - length found ≡ 0 = omega arith in
        sym (s.whole ∙ rw none (append-nil found))

    -- fewer bytes are left than a line has, if any is asked for; of those the reading gives nothing
    pub lines_over : 0 < w → ((line : List ℕ) → length line < w → reading line ≡ None)
        → (length found < n → length text < w * length found + w) → found ≡ lines_in reading w n text
    lines_over wide short h = ⊎_elim more lines_full (lt_or_le (length found) n)
      where
        more : length found < n → found ≡ lines_in reading w n text
        more l =
            let rest = drop (w * length found) text in
            line_malformed (take w rest) refl
            (short (take w rest) (omega (arith, h l, length-take w rest, length-drop (w * length found) text)))
