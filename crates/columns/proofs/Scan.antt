-- Scanning a text from the left finds the digits of a number, and no other text. Assumes nothing.
use mathlib.Core.Path.{◌≡◌, refl, sym, ap, ◌∙◌}
use mathlib.Core.Logic.{◌⊎◌, inl, inr, ⊎_elim}
use mathlib.Core.Bool.{Bool, true, false, cond}
use mathlib.Core.List.{List, [], ◌∷◌, ◌++◌, append_assoc, append-nil}
use Prim.Native.Nat.{ℕ, zero, suc, ◌+◌, ◌-◌, ◌*◌, ◌/◌, ◌%◌, ◌≤◌, ◌<◌}
use native.Mathlib.Omega.{arith}
use native.Mathlib.Numerals.{add-one}
use borrow.Author.Tests.{lt-ltb, le-leb, leb-true, ne_eqb, eqb-true, eqb-false}
use lib.Dec.{eqb}
use lib.ListN.{length, drop, replicate, get_or, length-append, length-drop, length-replicate, drop_of_length-le}
use lib.Seq.{drop-cons}
use Rattle.std.specs.List.{prefix_len}
use Rattle.lists.proofs.Tests.{lt_or_le, truth, told}
use Rattle.std.specs.Prelude.{Option, Some, None}
use Rattle.columns.specs.Column.{digits}
use Rattle.columns.specs.Reading.{blanks, value_from}
use Rattle.columns.specs.Steps.{goes_on, scan_digits}
use Rattle.columns.proofs.Digits.{digits_one, digits_more}

-- a text that holds no number holds none
pub unread {ℓ} : {A : Type ℓ} {n : ℕ} → None ≡ Some n → A
unread e = let z : ◌≡◌ {A = ℕ} 0 1 = cc in absurd (omega arith)

-- ---- one byte more, after the number v
abbrev pub Goes : ℕ → ℕ → ℕ → Type 0
Goes most v b = (48 ≤ b) × (b ≤ 57) × (v * 10 + (b - 48) ≤ most)

module _ (most v b : ℕ) (s : List ℕ) where
  scan_yes : Goes most v b → scan_digits most v (b ∷ s) ≡ scan_digits most (v * 10 + (b - 48)) s
  unfolding scan_digits
  scan_yes g = rw (le-leb 48 b g.0, le-leb b 57 g.1, le-leb (v * 10 + (b - 48)) most g.2, scan_digits)

  scan_cases : Goes most v b ⊎ (scan_digits most v (b ∷ s) ≡ None)
  unfolding scan_digits
  scan_cases =
      ⊎_elim
      (λ (e : goes_on most v b ≡ true). inl (search (told, leb-true)))
      (λ (e : goes_on most v b ≡ false). inr (rw (e, scan_digits)))
      (truth (goes_on most v b))

  scan_no : (Goes most v b → ⊥) → scan_digits most v (b ∷ s) ≡ None
  scan_no h = ⊎_elim (λ g. absurd (h g)) (λ e. e) scan_cases

  goes : {n : ℕ} → scan_digits most v (b ∷ s) ≡ Some n
      → Goes most v b × (scan_digits most (v * 10 + (b - 48)) s ≡ Some n)
  goes e = ⊎_elim (λ g. (g, sym (scan_yes g) ∙ e)) (λ m. unread (sym m ∙ e)) scan_cases

-- ---- digits
-- what holds below ten, and of a number where it holds of its tenth, holds of every number
pub by_tenths : (P : ℕ → Type 0) → ((n : ℕ) → n < 10 → P n) → ((n : ℕ) → 10 ≤ n → P (n / 10) → P n) → (n : ℕ) → P n
by_tenths P one more n = go (suc n) n (omega arith)
  where
    go : (k m : ℕ) → m < k → P m
    go zero m h = absurd (omega arith)
    go (suc k) m h =
        ⊎_elim (λ l. one m l) (λ l. more m l (go k (m / 10) (omega arith))) (lt_or_le m 10)

-- one digit more behind a number that is not 0
digits_snoc : (v d : ℕ) → 0 < v → d < 10 → digits (v * 10 + d) ≡ digits v ++ ((48 + d) ∷ [])
digits_snoc v d h l =
    let q : (v * 10 + d) / 10 ≡ v = omega arith in
    let r : (v * 10 + d) % 10 ≡ d = omega arith in
    digits_more (v * 10 + d) (omega arith) ∙ rw (q, r)

-- ---- the digits of a number are scanned
scan_append : (most v m : ℕ) (s t : List ℕ) → scan_digits most v s ≡ Some m
    → scan_digits most v (s ++ t) ≡ scan_digits most m t
unfolding scan_digits
scan_append most v m [] t e = let z : v ≡ m = cc in rw z
scan_append most v m (b ∷ s) t e =
    let g = goes most v b s e in
    scan_yes most v b (s ++ t) g.0 ∙ scan_append most (v * 10 + (b - 48)) m s t g.1

scan_digits_lem : (most n : ℕ) → n ≤ most → scan_digits most 0 (digits n) ≡ Some n
unfolding scan_digits
scan_digits_lem most =
    by_tenths
    (λ n. n ≤ most → scan_digits most 0 (digits n) ≡ Some n)
    (λ n h l. rw (digits_one n h) (scan_yes most 0 (48 + n) [] (omega arith) ∙ ap Some (omega arith)))
    (λ n h ih l.
    rw (digits_more n h)
    (scan_append most 0 (n / 10) (digits (n / 10)) ((48 + n % 10) ∷ []) (ih (omega arith))
    ∙ scan_yes most (n / 10) (48 + n % 10) [] (omega arith) ∙ ap Some (omega arith)))

-- ---- what is scanned is the digits of a number
scanned : (most v n : ℕ) (s : List ℕ) → v ≤ most → scan_digits most v s ≡ Some n
    → (n ≤ most) × (value_from v s ≡ n) × (0 < v → digits n ≡ digits v ++ s)
unfolding scan_digits value_from
scanned most v n [] h e = let z : v ≡ n = cc in (omega arith, z, λ p. rw z (sym (append-nil (digits n))))
scanned most v n (b ∷ s) h e =
    let g = goes most v b s e in
    let w : ℕ = v * 10 + (b - 48) in
    let r = scanned most w n s g.0.2 g.1 in
    let d : b < 58 = omega arith in
    let z : 48 + (b - 48) ≡ b = omega arith in (
      r.0,
      rw (lt-ltb b 58 d) r.1,
      λ p. r.2 (omega arith) ∙ ap (λ (t : List ℕ). t ++ s) (digits_snoc v (b - 48) p (omega arith))
          ∙ rw z (append_assoc (digits v) (b ∷ []) s),
    )

-- the digits of a number make it
pub value_digits : (n : ℕ) → value_from 0 (digits n) ≡ n
value_digits n = (scanned n 0 n (digits n) (omega arith) (scan_digits_lem n n (omega arith))).1

-- ---- the scan of a text with no blanks in front: 0 alone, or digits of which the first is not 0
abbrev pub alone : List ℕ → Option ℕ
alone [] = Some 0
alone (b ∷ s) = None

unfoldable pub bare : ℕ → List ℕ → Option ℕ
bare most [] = None
bare most (b ∷ s) = cond (eqb b 48) (alone s) (scan_digits most 0 (b ∷ s))

-- the digits of a number start with a digit, which is 0 for the number 0 alone
pub starts : (n : ℕ) → (b : ℕ) × (s : List ℕ) × (digits n ≡ b ∷ s) × (48 ≤ b) × (0 < n → 48 < b)
starts =
    by_tenths
    (λ n. (b : ℕ) × (s : List ℕ) × (digits n ≡ b ∷ s) × (48 ≤ b) × (0 < n → 48 < b))
    (λ n h. (48 + n, [], digits_one n h, omega arith, λ p. omega arith))
    (λ n h t. (t.0, t.1 ++ ((48 + n % 10) ∷ []), digits_more n h ∙ rw t.2, t.3, λ p. t.4 (omega arith)))

-- the scan reads the digits of each number that is not too great
pub bare-digits : (most n : ℕ) → n ≤ most → bare most (digits n) ≡ Some n
unfolding bare
bare-digits most zero h = rw (digits_one 0 (omega arith))
bare-digits most (suc n) h =
    let t = starts (suc n) in
    let l : t.0 ≡ 48 → ⊥ = (λ e. omega (arith, t.4 (omega arith))) in
    rw (t.2, ne_eqb t.0 48 l) (rw (← t.2) (scan_digits_lem most (suc n) h))

-- and nothing else
pub bare_is : (most n : ℕ) (s : List ℕ) → bare most s ≡ Some n → (n ≤ most) × (s ≡ digits n)
unfolding bare
bare_is most n [] e = unread e
bare_is most n (b ∷ s) e = go (eqb b 48) s refl e
  where
    go : (t : Bool) (s : List ℕ) → eqb b 48 ≡ t → cond t (alone s) (scan_digits most 0 (b ∷ s)) ≡ Some n
        → (n ≤ most) × (b ∷ s ≡ digits n)
    go true [] p q =
        let z : 0 ≡ n = cc in
        (omega arith, rw (← z, digits_one 0 (omega arith)) (ap (λ (x : ℕ). x ∷ []) (eqb-true b 48 p)))
    go true (c ∷ s) p q = unread q
    go false s p q =
        let g = goes most 0 b s q in
        let r = scanned most (0 * 10 + (b - 48)) n s g.0.2 g.1 in
        let z : 48 + (0 * 10 + (b - 48)) ≡ b = omega arith in
        (r.0, sym (r.2 (omega (arith, eqb-false b 48 p)) ∙ rw (digits_one (0 * 10 + (b - 48)) (omega arith), z)))

-- ---- blanks
pub blanks_front : (k n : ℕ) → blanks (replicate k 32 ++ digits n) ≡ k
unfolding blanks
blanks_front zero n = let t = starts n in let l : t.0 ≡ 32 → ⊥ = (λ e. omega arith) in rw (t.2, ne_eqb t.0 32 l, blanks)
blanks_front (suc k) n = ap suc (blanks_front k n)

-- a text is the blanks that are counted, and the rest
pub blanks_split : (s : List ℕ) → s ≡ replicate (blanks s) 32 ++ drop (blanks s) s
unfolding blanks
blanks_split [] = refl
blanks_split (b ∷ s) = go (eqb b 32) refl (blanks_split s)
  where
    go : (t : Bool) → eqb b 32 ≡ t → s ≡ replicate (blanks s) 32 ++ drop (blanks s) s
        → b ∷ s ≡ replicate (blanks (b ∷ s)) 32 ++ drop (blanks (b ∷ s)) (b ∷ s)
    go true e ih = rw (e, blanks) (cc (eqb-true b 32 e))
    go false e ih = rw (e, blanks)

pub blanks_le : (s : List ℕ) → blanks s ≤ length s
blanks_le s = omega (arith, simp (length-append, length-replicate, length-drop) at (ap length (blanks_split s)))

-- they are as many as are taken from the front while a byte is one
pub blanks_taken : (s : List ℕ) → blanks s ≡ prefix_len (λ b. eqb b 32) s
unfolding blanks
blanks_taken [] = refl
blanks_taken (b ∷ s) = go (eqb b 32) refl (blanks_taken s)
  where
    go : (t : Bool) → eqb b 32 ≡ t → blanks s ≡ prefix_len (λ b. eqb b 32) s
        → blanks (b ∷ s) ≡ prefix_len (λ b. eqb b 32) (b ∷ s)
    go true e ih = rw (e, blanks) (omega (arith, ih))
    go false e ih = rw (e, blanks)

-- ---- the loop over the digits, at the place i
module _ (i : ℕ) (t : List ℕ) (most v : ℕ) where
  pub scan_step : i < length t → Goes most v (get_or t i 0)
      → scan_digits most v (drop i t) ≡ scan_digits most (v * 10 + (get_or t i 0 - 48)) (drop (i + 1) t)
  scan_step h g = rw (add-one, drop-cons t i 0) (scan_yes most v (get_or t i 0) (drop (suc i) t) g)

  pub scan_stop : i < length t → (Goes most v (get_or t i 0) → ⊥) → scan_digits most v (drop i t) ≡ None
  scan_stop h g = rw (drop-cons t i 0) (scan_no most v (get_or t i 0) (drop (suc i) t) g)

  pub scan_end : length t ≤ i → scan_digits most v (drop i t) ≡ Some v
  unfolding scan_digits
  scan_end h = rw (drop_of_length-le t h)
