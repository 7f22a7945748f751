-- The run of all calls of a text, from runs of its pieces. Assumes nothing.
use Prim.Native.Nat.{ℕ, zero, suc, ◌+◌, ◌-◌, ◌*◌, ◌/◌, ◌≤◌, ◌<◌}
use native.Mathlib.Nat.{zero-add, suc-add}
use native.Mathlib.Omega.{arith}
use mathlib.Core.Path.{◌≡◌, refl, sym, ap, ◌∙◌}
use mathlib.Core.Bool.{false}
use mathlib.Core.List.{List, [], ◌++◌, map, append-nil}
use mathlib.Core.Logic.{◌⊎◌, inl, inr}
use lib.ListN.{length, take, drop, length-append, length-drop}
use borrow.Author.Tests.{ne_eqb, eq-eqb}
use Rattle.std.specs.Prelude.{Option, Some, None}
use Rattle.std.proofs.lemmas.List.{take_all}
use Rattle.columns.specs.LinesIn.{lines_in}
use Rattle.rules.specs.declared.Seven.{Seven}
use Rattle.rules.specs.Board.{Board}
use Rattle.rules.specs.Step.{final}
use Rattle.calls.specs.CallLine.{line_in}
use Rattle.calls.specs.CallsIn.{calls_in}
use Rattle.calls.specs.Run.{Run, made, journal, run_of, ◌then_run◌}
use Rattle.calls.proofs.CallLines.{call_length}
use Rattle.calls.proofs.Parts.{going, calls_parts, run_parts}
use Rattle.folder.specs.Outcomes.{whole_run}

-- ---- no more calls than lines

-- a text of less than a line has no call
no_call : (text : List ℕ) → length text < 43 → line_in (take 43 text) ≡ None
no_call text h = go (line_in (take 43 text)) refl
  where
    go : (l : Option Seven) → line_in (take 43 text) ≡ l → l ≡ None
    go (Some c) e = absurd (omega (arith, call_length (take 43 text) c e, ap length (take_all 43 text (omega arith))))
    go None e = refl

-- to look for more calls than a text has lines finds no more of them
calls_over : (n k : ℕ) (text : List ℕ) → length text < 43 * suc n → calls_in (n + k) text ≡ calls_in n text
unfolding lines_in
calls_over zero zero text h = refl
calls_over zero (suc k) text h = rw (zero-add (suc k), no_call text (omega arith))
calls_over (suc n) k text h =
    rw (suc-add n k, calls_over n k (drop 43 text) (omega (arith, length-drop 43 text)))

-- ---- a piece, and what stands behind it

-- nothing does, or the piece has a malformed line
abbrev pub Stops : List ℕ → List ℕ → Type 0
Stops s rest = (rest ≡ []) ⊎ ((length s ≡ 43 * 1024) × (length (calls_in 1024 s) ≡ 1024 → ⊥))

-- the calls are then the piece's
calls_stop : (s rest : List ℕ) → length s ≤ 43 * 1024 → Stops s rest
    → calls_in (length (s ++ rest) / 43) (s ++ rest) ≡ calls_in 1024 s
calls_stop s rest most (inl none) =
    let n = length s / 43 in
    let all : n + (1024 - n) ≡ 1024 = omega arith in
    rw (none, append-nil s) (sym (calls_over n (1024 - n) s (omega arith)) ∙ ap (λ (k : ℕ). calls_in k s) all)
calls_stop s rest most (inr (full, part)) =
    let n : length (s ++ rest) / 43 ≡ 1024 + length rest / 43 = rw (length-append s rest, full) (omega arith) in
    rw (n, calls_parts 1024 (length rest / 43) s rest full, ne_eqb (length (calls_in 1024 s)) 1024 part)
    (append-nil (calls_in 1024 s))

-- ---- a run, piece by piece

-- a run of as many calls as it might make has not stopped
not_stopped : (k : ℕ) (b : Board) (s : List ℕ) → (run_of k b s).lines ≡ k → (run_of k b s).stopped ≡ false
unfolding run_of
not_stopped k b s e = rw (eq-eqb (length (calls_in k s)) k e)

-- runs of the same calls
same_run : (m k : ℕ) (b : Board) (s t : List ℕ) → calls_in m s ≡ calls_in k t
    → let r = run_of m b s in let q = run_of k b t in (r.board ≡ q.board) × (r.text ≡ q.text) × (r.lines ≡ q.lines)
unfolding run_of
same_run m k b s t e =
    (ap (λ (cs : List Seven). final b (map made cs)) e, ap (journal b) e, ap (λ (cs : List Seven). length cs) e)

whole : (b : Board) (text : List ℕ) (m : ℕ) → length text / 43 ≡ m → whole_run b text ≡ run_of m b text
unfolding whole_run
whole b text m e = ap (λ (k : ℕ). run_of k b text) e

-- where a run has made all n calls of what was read of a text, and left this board and this journal
module _ (b₀ b : Board) (n : ℕ) (read text : List ℕ) (size : length read ≡ 43 * n)
    (ran : run_of n b₀ read ≡ going b text n) where
  -- the run goes on from this board
  goes_on : (k : ℕ) (s : List ℕ) → run_of (n + k) b₀ (read ++ s) ≡ (going b text n then_run run_of k b s)
  goes_on k s = run_parts n k b₀ read s size ∙ ap (λ (r : Run). r then_run run_of k r.board s) ran

  -- a piece each of whose lines is a call
  pub run_on : (k : ℕ) (s : List ℕ) → let r = run_of k b s in
      r.lines ≡ k → run_of (n + k) b₀ (read ++ s) ≡ going r.board (text ++ r.text) (n + k)
  run_on k s e = goes_on k s ∙ rw (not_stopped k b s e, e)

  -- the last piece
  pub run_end : (s rest : List ℕ) → length s ≤ 43 * 1024 → Stops s rest
      → let r = run_of 1024 b s in let w = whole_run b₀ (read ++ (s ++ rest)) in
      (w.board ≡ r.board) × (w.text ≡ text ++ r.text) × (w.lines ≡ n + r.lines)
  run_end s rest most stop =
      let m = length (s ++ rest) / 43 in
      let lines : length (read ++ (s ++ rest)) / 43 ≡ n + m =
      rw (length-append read (s ++ rest), size) (omega arith) in
      let w : whole_run b₀ (read ++ (s ++ rest)) ≡ (going b text n then_run run_of m b (s ++ rest)) =
      whole b₀ (read ++ (s ++ rest)) (n + m) lines ∙ goes_on m (s ++ rest) in
      let calls = calls_stop s rest most stop in
      let same = same_run m 1024 b (s ++ rest) s calls in (
        ap (λ (r : Run). r.board) w ∙ same.0,
        ap (λ (r : Run). r.text) w ∙ ap (λ (t : List ℕ). text ++ t) same.1,
        ap (λ (r : Run). r.lines) w ∙ ap (λ (k : ℕ). n + k) same.2,
      )
