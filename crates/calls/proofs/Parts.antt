-- Laws of a run: one call more, a malformed line, and a text run in parts, which is the text run as one. Assumes
-- nothing.
use Prim.Native.Nat.{ℕ, zero, suc, ◌+◌, ◌*◌}
use native.Mathlib.Nat.{zero-add, suc-add, add_assoc}
use native.Mathlib.Omega.{arith}
use mathlib.Core.Path.{◌≡◌, refl, sym, ap, ◌∙◌}
use mathlib.Core.Bool.{Bool, true, false, cond}
use mathlib.Core.List.{List, [], ◌∷◌, ◌++◌, map, append_assoc}
use lib.ListN.{length, take, drop, length-drop}
use lib.Seq.{take-append-le, drop-append-le}
use lib.Dec.{eqb, eqb-zero-suc, eqb-suc-suc}
use Rattle.columns.specs.LinesIn.{unless_malformed, lines_in}
use Rattle.rules.specs.declared.Seven.{Seven}
use Rattle.rules.specs.Board.{Board}
use Rattle.rules.specs.Refusals.{answer}
use Rattle.rules.specs.Journal.{journal_line}
use Rattle.rules.specs.Step.{Made, after, allotted, final}
use Rattle.std.specs.Prelude.{Option, Some, None}
use Rattle.calls.specs.CallLine.{line_in}
use Rattle.calls.specs.CallsIn.{calls_in}
use Rattle.calls.specs.Run.{made, journal, Run, run_of, ◌then_run◌}

-- ---- a run call by call

-- a run that has not stopped: its board, its journal and how many calls it made
abbrev pub going : Board → List ℕ → ℕ → Run
going b text lines = record { board = b; text = text; lines = lines; stopped = false }

-- a run that stops before its first call
abbrev pub stopped_at : Board → Run
stopped_at b = record { board = b; text = []; lines = 0; stopped = true }

-- the journal line of a call on a board
abbrev pub line_on : Board → Seven → List ℕ
line_on b c = journal_line c (answer b c 55) (allotted b c 55)

module _ (b : Board) (text : List ℕ) where
  pub run_none : run_of 0 b text ≡ going b [] 0
  unfolding run_of lines_in journal final
  run_none = refl

  pub run_malformed : (n : ℕ) → line_in (take 43 text) ≡ None → run_of (suc n) b text ≡ stopped_at b
  unfolding run_of lines_in journal final
  run_malformed n e = rw (e, eqb-zero-suc n)

  pub run_call : (n : ℕ) (c : Seven) → line_in (take 43 text) ≡ Some c
      → run_of (suc n) b text ≡ (going (after b c 55) (line_on b c) 1 then_run run_of n (after b c 55) (drop 43 text))
  unfolding run_of lines_in journal final
  run_call n c e =
      let rest = length (calls_in n (drop 43 text)) in
      let more : 1 + rest ≡ suc rest = omega arith in
      rw (e, eqb-suc-suc rest n, more)

-- ---- runs one after another

-- a third behind two is a second and a third behind one
going_then : (b : Board) (text : List ℕ) (lines : ℕ) (r s : Run)
    → (going b text lines then_run (r then_run s)) ≡ ((going b text lines then_run r) then_run s)
going_then b text lines r s = go r.stopped refl
  where
    go : (z : Bool) → r.stopped ≡ z
        → (going b text lines then_run (r then_run s)) ≡ ((going b text lines then_run r) then_run s)
    go true e = rw e
    go false e = rw (e, append_assoc text r.text s.text, add_assoc lines r.lines s.lines)

-- ---- a text in two parts, the first of n lines

-- the first line is the first part's, and the others are the others of it and the second part
module _ (n : ℕ) (s t : List ℕ) (e : length s ≡ 43 * suc n) where
  first_line : take 43 (s ++ t) ≡ take 43 s
  first_line = take-append-le 43 s t (omega arith)

  other_lines : drop 43 (s ++ t) ≡ drop 43 s ++ t
  other_lines = drop-append-le 43 s t (omega arith)

  other_length : length (drop 43 s) ≡ 43 * n
  other_length = rw (length-drop 43 s, e) (omega arith)

-- THEOREM: a text that is run in parts, the second from the board that the first leaves, is run as one
pub run_parts : (n m : ℕ) (b : Board) (s t : List ℕ) → length s ≡ 43 * n
    → run_of (n + m) b (s ++ t) ≡ (run_of n b s then_run run_of m (run_of n b s).board t)
run_parts zero m b [] t e = rw (zero-add m, run_none b [], zero-add (run_of m b t).lines)
run_parts zero m b (x ∷ s) t e = absurd (omega arith)
run_parts (suc n) m b s t e =
    go (line_in (take 43 s)) refl (λ (b : Board). run_parts n m b (drop 43 s) t (other_length n s t e))
  where
    go : (l : Option Seven) → line_in (take 43 s) ≡ l
        → ((b : Board)
        → run_of (n + m) b (drop 43 s ++ t)
        ≡ (run_of n b (drop 43 s) then_run run_of m (run_of n b (drop 43 s)).board t))
        → run_of (suc n + m) b (s ++ t) ≡ (run_of (suc n) b s then_run run_of m (run_of (suc n) b s).board t)
    go (Some c) l ih =
        let b₁ = after b c 55 in
        let first = run_of n b₁ (drop 43 s) in
        rw (
          suc-add n m,
          run_call b (s ++ t) (n + m) c (ap line_in (first_line n s t e) ∙ l),
          other_lines n s t e,
          ih b₁,
          run_call b s n c l,
        )
        (going_then b₁ (line_on b c) 1 first (run_of m first.board t))
    go None l ih =
        rw (suc-add n m, run_malformed b (s ++ t) (n + m) (ap line_in (first_line n s t e) ∙ l), run_malformed b s n l)

-- the calls of the whole: those of the first part and, where each of its lines is one, those of the second
pub calls_parts : (n m : ℕ) (s t : List ℕ) → length s ≡ 43 * n
    → calls_in (n + m) (s ++ t) ≡ calls_in n s ++ cond (eqb (length (calls_in n s)) n) (calls_in m t) []
unfolding lines_in
calls_parts zero m [] t e = rw (zero-add m)
calls_parts zero m (x ∷ s) t e = absurd (omega arith)
calls_parts (suc n) m s t e =
    rw (suc-add n m, first_line n s t e, other_lines n s t e, calls_parts n m (drop 43 s) t (other_length n s t e))
    (go (line_in (take 43 s)))
  where
    cs : List Seven
    cs = calls_in n (drop 43 s)

    go : (l : Option Seven) → unless_malformed l (cs ++ cond (eqb (length cs) n) (calls_in m t) [])
        ≡ unless_malformed l cs ++ cond (eqb (length (unless_malformed l cs)) (suc n)) (calls_in m t) []
    go (Some c) = rw (eqb-suc-suc (length cs) n)
    go None = rw (eqb-zero-suc n)

-- ---- calls in two parts

pub final_append : (b : Board) (xs ys : List Made) → final b (xs ++ ys) ≡ final (final b xs) ys
unfolding final
final_append b [] ys = refl
final_append b (m ∷ xs) ys = final_append (after b m.seven m.room) xs ys

pub journal_append : (b : Board) (xs ys : List Seven)
    → journal b (xs ++ ys) ≡ journal b xs ++ journal (final b (map made xs)) ys
unfolding journal final
journal_append b [] ys = refl
journal_append b (c ∷ xs) ys =
    rw (journal_append (after b c 55) xs ys)
    (sym (append_assoc (line_on b c) (journal (after b c 55) xs) (journal (final (after b c 55) (map made xs)) ys)))
