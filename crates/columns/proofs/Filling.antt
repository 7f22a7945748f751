-- The steps of the code that writes: its table, a column filled from its last byte on, a line counted and then filled
-- number by number. Only the proofs of `src/write.rt` cite these. Assumes nothing.
use Rattle.std.specs.Prelude.{Option, Some, None}
use mathlib.Core.Path.{◌≡◌, refl, sym, ap, ◌∙◌}
use mathlib.Core.Logic.{inl, inr}
use mathlib.Core.Bool.{true, false, cond, ◌&&◌}
use mathlib.Core.List.{List, [], ◌∷◌, ◌++◌, append_assoc, append-nil}
use Prim.Native.Nat.{ℕ, zero, suc, ◌+◌, ◌*◌, ◌/◌, ◌%◌, ◌^◌, ◌≤◌, ◌<◌}
use native.Mathlib.Omega.{arith}
use native.Mathlib.Nat.{zero-add, pow-suc, pow-succ'}
use borrow.Author.Tests.{lt-ltb, le-ltb, ltb-true, leb-true, le-leb, lt-leb}
use lib.Dec.{ltb, leb}
use lib.ListN.{length, take, drop, set, get_or, drop_of_length-le}
use lib.Seq.{drop_at, length-take-le, set_split}
use Rattle.lists.proofs.Tests.{truth, same_test, and_l, and_r}
use Rattle.columns.specs.Column.{digits, column, fits}
use Rattle.columns.specs.Line.{line, all_fit, writable, with_line, Written, fit_of, line_of}
use Rattle.columns.specs.Steps.{mark}
use Rattle.columns.proofs.Writing.{count_some, fits_below, below_fits, column-length, part_done, front, column-front}
use Rattle.columns.proofs.Writing.{total, line-length, writable_known}

-- ---- the table
-- k entries, each ten times the one before it, from p on
unfoldable pub powers : ℕ → ℕ → List ℕ
powers zero p = []
powers (suc k) p = p ∷ powers k (p * 10)

power_at : (k p i : ℕ) → i < k → get_or (powers k p) i 0 ≡ p * 10 ^ i
unfolding powers
power_at zero p i h = absurd (omega arith)
power_at (suc k) p zero h = omega arith
power_at (suc k) p (suc i) h = power_at k (p * 10) i (omega arith) ∙ rw pow-suc (omega arith)

-- a number fits where it is below its width's entry
pub fits_table : (k w n : ℕ) → w ≤ k → ltb n (get_or (0 ∷ powers k 10) w 0) ≡ fits w n
unfolding fits
fits_table k zero n h = le-ltb n 0 (omega arith) ∙ sym (lt-leb (length (digits n)) 0 (count_some n))
fits_table k (suc w) n h =
    rw (power_at k 10 w h, ← pow-succ' 10 w)
    (same_test (ltb n (10 ^ suc w)) (fits (suc w) n)
    (λ e. fits_below (suc w) n (omega arith) (ltb-true n (10 ^ suc w) e))
    (λ e. lt-ltb n (10 ^ suc w) (below_fits (suc w) n e)))

-- ---- a column
drop-set : (t : List ℕ) (i v : ℕ) → i < length t → drop i (set t i v) ≡ v ∷ drop (suc i) t
drop-set t i v h = rw (set_split t i v h) (drop_at (take i t) (v ∷ drop (suc i) t) i (length-take-le i t (omega arith)))

-- a text of no byte takes no number
pub none_filled : (t : List ℕ) (n : ℕ) → fits (length t) n ≡ true → length t ≡ 0 → t ≡ column (length t) n
unfolding fits
none_filled t n f z = absurd (omega (arith, count_some n, leb-true (length (digits n)) (length t) f))

-- before any byte is stored
pub front_start : (t : List ℕ) (n : ℕ) → front (length t) n ≡ front (length t) n ++ drop (length t) t
front_start t n = rw (drop_of_length-le t {i = length t} (omega arith), append-nil)

-- a byte stored before byte j
pub front_step : (t : List ℕ) (i j n v : ℕ) → j ≤ length t → suc i ≡ j → v ≡ mark n
    → front j n ++ drop j t ≡ front i (n / 10) ++ drop i (set t i v)
unfolding front
front_step t i j n v h e m =
    rw (← e, m, drop-set t i (mark n) (omega arith)) (append_assoc (front i (n / 10)) (mark n ∷ []) (drop (suc i) t))

-- every byte stored
pub front_done : (t : List ℕ) (i n : ℕ) → i ≡ 0 → front i n ++ drop i t ≡ t
unfolding front
front_done t i n e = rw e

-- and the last one: the bytes before it are the front of the number's tenth
pub all_filled : (w n : ℕ) (before : List ℕ) → length before + 1 ≡ w → fits w n ≡ true
    → front (length before) (n / 10) ≡ before
    → before ++ ((48 + n % 10) ∷ []) ≡ column w n
all_filled w n before e f b =
    let l : suc (length before) ≡ w = omega arith in
    rw (← l) (sym (column-front (length before) n (rw l f) ∙ ap (λ (s : List ℕ). s ++ ((48 + n % 10) ∷ [])) b))

-- what the proof of `fill` stands on
pub ruleset filling = (none_filled, front_start, front_step, front_done, all_filled)

-- ---- a line
-- the length of a line and of s bytes before it, none where they cannot be written
unfoldable pub size_from : ℕ → ℕ → List ℕ → List ℕ → Option ℕ
size_from room s ws ns = cond (all_fit ws ns && leb (total ws + s) room) (Some (total ws + s)) None

pub size_start : (room : ℕ) (ws ns : List ℕ)
    → cond (writable room ws ns) (Some (length (line ws ns))) None ≡ size_from room 1 ws ns
unfolding writable size_from
size_start room ws ns = elim (truth (all_fit ws ns)) [ inl e ↦ rw (line-length ws ns e) | inr e ↦ rw e ]

-- there is no room for the numbers, if they fit at all
pub size_none : (room s : ℕ) (ws ns : List ℕ) → (all_fit ws ns ≡ true → room < total ws + s)
    → size_from room s ws ns ≡ None
unfolding size_from
size_none room s ws ns h =
    elim (truth (all_fit ws ns)) [ inl e ↦ rw (e, lt-leb (total ws + s) room (h e)) | inr e ↦ rw e ]

-- one number more, counted where it fits
pub size_step : (room s w n : ℕ) (ws ns : List ℕ) → fits w n ≡ true
    → size_from room s (w ∷ ws) (n ∷ ns) ≡ size_from room (s + w) ws ns
unfolding size_from fit_of total
size_step room s w n ws ns f = let e : w + total ws + s ≡ total ws + (s + w) = omega arith in rw (f, e)

pub size_unfit : (room s w n : ℕ) (ws ns : List ℕ) → fits w n ≡ false → size_from room s (w ∷ ws) (n ∷ ns) ≡ None
unfolding size_from fit_of
size_unfit room s w n ws ns f = rw f

pub size_full : (room s w n : ℕ) (ws ns : List ℕ) → room < s + w → size_from room s (w ∷ ws) (n ∷ ns) ≡ None
unfolding total
size_full room s w n ws ns h = size_none room s (w ∷ ws) (n ∷ ns) (λ e. omega arith)

-- every number counted
pub size_end : (room s : ℕ) (ws ns : List ℕ) → ws ≡ [] → ns ≡ [] → s ≤ room → size_from room s ws ns ≡ Some s
unfolding size_from fit_of total
size_end room s ws ns e f r = rw (e, f, zero-add s, le-leb s room r)

-- a line whose numbers fit: its first column, and the numbers behind it
pub record Next (w n : ℕ) (ws ns : List ℕ) : Type 0 where
  pub columns : total (w ∷ ws) ≡ w + total ws
  pub fit : fits w n ≡ true
  pub rest : all_fit ws ns ≡ true

pub next_of : (w n : ℕ) (ws ns : List ℕ) → all_fit (w ∷ ws) (n ∷ ns) ≡ true → Next w n ws ns
unfolding fit_of total
next_of w n ws ns e =
    record { columns = refl; fit = and_l (fits w n) (all_fit ws ns) e; rest = and_r (fits w n) (all_fit ws ns) e }

-- the number put into t
pub line_step : (at w n : ℕ) (ws ns t t' : List ℕ) → at + w ≤ length t → fits w n ≡ true
    → t' ≡ take at t ++ (column w n ++ drop (at + w) t)
    → take at t ++ line (w ∷ ws) (n ∷ ns) ≡ take (at + w) t' ++ line ws ns
unfolding line_of
line_step at w n ws ns t t' r f p = part_done at w (column w n) (line ws ns) t t' r (column-length w n f) p

-- every number put into t: the line feed
pub line_end : (at : ℕ) (t ws ns : List ℕ) → ws ≡ [] → length t ≡ at + (total ws + 1)
    → set t at 10 ≡ take at t ++ line ws ns
unfolding line_of total
line_end at t ws ns w e =
    let n : length t ≡ at + 1 = rw w at e in
    let l : length t ≤ suc at = omega arith in
    set_split t at 10 (omega arith) ∙ rw (w, drop_of_length-le t l)

-- ---- what the length that was counted tells: none that the line cannot be written, any that it can
pub size_zero : (ws ns buffer : List ℕ) → None ≡ cond (writable (length buffer) ws ns) (Some (length (line ws ns))) None
    → Written ws ns buffer buffer false
size_zero ws ns buffer e = record { answered = sym never; bytes = rw never }
  where
    some : writable (length buffer) ws ns ≡ true → ⊥
    some t = let h = rw t at e in cc

    never : writable (length buffer) ws ns ≡ false
    never = elim (truth (writable (length buffer) ws ns)) [ inl t ↦ absurd (some t) | inr f ↦ f ]

pub record Sized (size room : ℕ) (ws ns : List ℕ) : Type 0 where
  pub can : writable room ws ns ≡ true
  pub fit : all_fit ws ns ≡ true
  pub long : size ≡ length (line ws ns)
  pub within : size ≤ room

pub size_some : (size room : ℕ) (ws ns : List ℕ)
    → Some size ≡ cond (writable room ws ns) (Some (length (line ws ns))) None
    → Sized size room ws ns
size_some size room ws ns e = elim (truth (writable room ws ns)) [ inl t ↦ sized t | inr f ↦ (let h = rw f at e in cc) ]
  where
    sized : writable room ws ns ≡ true → Sized size room ws ns
    sized t =
        let k = writable_known room ws ns t in
        let h = rw t at e in
        let l : size ≡ length (line ws ns) = cc in
        record { can = t; fit = k.0; long = l; within = rw l k.1 }

-- the line in the buffer
pub written : (size : ℕ) (ws ns buffer after : List ℕ) → Sized size (length buffer) ws ns
    → after ≡ line ws ns ++ drop size buffer
    → Written ws ns buffer after true
unfolding with_line
written size ws ns buffer after s p = record { answered = sym s.can; bytes = p ∙ rw (s.can, s.long) }
