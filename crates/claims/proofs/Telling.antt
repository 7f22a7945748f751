-- What the rules tell of calls, and that the lines of a journal say it: what was written is read back. Assumes nothing.
use Prim.Native.Nat.{ℕ, ◌/◌, ◌*◌}
use native.Mathlib.Omega.{arith}
use mathlib.Core.Path.{◌≡◌, refl, sym, ap, ap₂, ◌∙◌}
use mathlib.Core.Bool.{true}
use mathlib.Core.List.{List, [], ◌∷◌, ◌++◌, map, append_assoc}
use borrow.Author.Tests.{le-leb}
use lib.ListN.{length, drop}
use lib.Seq.{take_at, drop_at}
use lib.Dec.{leb}
use Rattle.std.proofs.lemmas.Bool.{and_from}
use Rattle.std.specs.Prelude.{Result, Ok, Err, IsErr}
use Rattle.lists.proofs.Search.{Each}
use Rattle.columns.proofs.Rows.{at_most, read_line}
use Rattle.rules.specs.declared.Seven.{Seven}
use Rattle.rules.specs.declared.Called.{Called}
use Rattle.rules.specs.declared.Register.{Register}
use Rattle.rules.specs.declared.refusal.Refusal.{Refusal}
use Rattle.rules.specs.Answer.{answer_no}
use Rattle.rules.specs.Board.{Board, board_of}
use Rattle.rules.specs.Refusals.{answer}
use Rattle.rules.specs.Journal.{journal_widths, journal_line}
use Rattle.rules.specs.Step.{Made, Answered, Once, after, allotted, trace, final, CallPost}
use Rattle.rules.proofs.Once.{once_after}
use Rattle.rules.proofs.JournalLength.{Small, nine}
use Rattle.calls.specs.CallsIn.{calls_in}
use Rattle.calls.specs.Run.{made, journal, run_of, RunPost}
use Rattle.calls.proofs.CallLines.{six_fit}
use Rattle.calls.proofs.Lengths.{SmallCall, line_small, line_on_length, calls_small}
use Rattle.calls.proofs.Parts.{line_on, final_append}
use Rattle.claims.specs.Told.{Told, told_on, told_of, told_in, answers_of, told_by, tells}

tells_append : (b : Board) (xs ys : List Made) → tells b (xs ++ ys) ≡ tells b xs ++ tells (final b xs) ys
unfolding tells final
tells_append b [] ys = refl
tells_append b (m ∷ xs) ys = ap (λ (ts : List Told). told_by b m ∷ ts) (tells_append (after b m.seven m.room) xs ys)

-- the answers among them are those of the trace
pub tells_trace : (b : Board) (ms : List Made) → answers_of (tells b ms) ≡ trace b ms
unfolding tells trace
tells_trace b [] = refl
tells_trace b (m ∷ ms) =
    ap (λ (cs : List Answered). record { seven = m.seven; answer = answer b m.seven m.room } ∷ cs)
    (tells_trace (after b m.seven m.room) ms)

-- more calls: the board after them, and what is told
module _ (b : Board) (ms ms' : List Made) {c : Board} where
  pub board_more : {d : Board} → c ≡ final b ms → d ≡ final c ms' → d ≡ final b (ms ++ ms')
  board_more e e' = e' ∙ ap (λ (c : Board). final c ms') e ∙ sym (final_append b ms ms')

  pub told_more : {ts ts' : List Told} → ts ≡ tells b ms → c ≡ final b ms → ts' ≡ tells c ms'
      → ts ++ ts' ≡ tells b (ms ++ ms')
  told_more t e t' =
      ap₂ (λ (xs ys : List Told). xs ++ ys) t (t' ∙ ap (λ (c : Board). tells c ms') e) ∙ sym (tells_append b ms ms')

-- what was told since a list of calls
pub told_since : (b : Board) (ms ms' : List Made) (ts ts' : List Told) → ts ≡ tells b ms
    → ts ++ ts' ≡ tells b (ms ++ ms')
    → answers_of ts' ≡ trace (final b ms) ms'
told_since b ms ms' ts ts' e e' =
    let both : tells b ms ++ ts' ≡ tells b ms ++ tells (final b ms) ms' = rw (← e) e' ∙ tells_append b ms ms' in
    let since : ts' ≡ tells (final b ms) ms' =
    sym (drop_at (tells b ms) ts' (length (tells b ms)) refl) ∙ ap (drop (length (tells b ms))) both
    ∙ drop_at (tells b ms) (tells (final b ms) ms') (length (tells b ms)) refl in
    ap answers_of since ∙ tells_trace (final b ms) ms'

-- an answer that isn't 0 is a refusal
pub refused_err : {A : Type 0} (given : Result A Refusal) → (answer_no given ≡ 0 → ⊥) → IsErr given
refused_err (Ok x) h = absurd (h refl)
refused_err (Err refusal) h = refl

-- THEOREM: what a call returned is what the rules tell of it
pub call_told : {before : Register} {s : Seven} {buffer : List ℕ} {called : Called} {buffer' : List ℕ}
    → CallPost before s buffer called buffer'
    → told_of s called.answer ∷ [] ≡ tells (board_of before) (record { seven = s; room = length buffer } ∷ [])
unfolding tells
call_told {s = s} p =
    ap₂ (λ (a n : ℕ). record { seven = s; answer = a; number = n } ∷ []) p.answered p.number

-- ---- read back off the journal

-- the nine numbers of a line are small enough to be read
small_most : (ns : List ℕ) → Each Small ns → at_most 65535 ns ≡ true
unfolding at_most
small_most [] h = refl
small_most (n ∷ ns) h =
    and_from (leb n 65535) (at_most 65535 ns) (le-leb n 65535 (omega (arith, h.0))) (small_most ns h.1)

pub line_told : (s : Seven) (a n : ℕ) → Each Small (nine s a n)
    → told_on (journal_line s a n) ≡ record { seven = s; answer = a; number = n } ∷ []
unfolding told_on journal_line
line_told s a n h =
    let small = small_most (nine s a n) h in
    rw (read_line 65535 journal_widths (nine s a n) (six_fit (nine s a n) small) small)

-- the lines of a list of calls, at the front of a buffer
lines_told : (b : Board) (calls : List Seven) (rest : List ℕ) → Once b → Each SmallCall calls
    → told_in (length calls) (journal b calls ++ rest) ≡ tells b (map made calls)
unfolding told_in journal tells
lines_told b [] rest o h = refl
lines_told b (s ∷ calls) rest o h =
    let line = line_on b s in
    let others = journal (after b s 55) calls ++ rest in
    let long : length line ≡ 55 = line_on_length b s o h.0 in
    let one : told_on line ≡ told_by b (made s) ∷ [] =
    line_told s (answer b s 55) (allotted b s 55) (line_small b s o h.0) in
    rw (
      append_assoc line (journal (after b s 55) calls) rest,
      take_at line others 55 long,
      drop_at line others 55 long,
      one,
      lines_told (after b s 55) calls rest (once_after b s 55 o) h.1,
    )

-- THEOREM: what is read off the lines that a run left in the buffer is what the rules tell of the calls of its text
pub run_told : {before register : Register} {text buffer buffer' : List ℕ} {lines : ℕ}
    → RunPost before text buffer register lines buffer'
    → Once (board_of before)
    → told_in lines buffer' ≡ tells (board_of before) (map made (calls_in (length buffer / 55) text))
unfolding run_of
run_told {before} {text = text} {buffer = buffer} {lines = lines} p o =
    let calls = calls_in (length buffer / 55) text in
    rw (p.bytes, p.lines)
    (lines_told (board_of before) calls (drop (55 * length calls) buffer) o (calls_small (length buffer / 55) text))
