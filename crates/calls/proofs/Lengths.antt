-- The journal of a run has 55 bytes for each call, whatever the text and the board. Assumes nothing.
use Prim.Native.Nat.{ℕ, zero, suc, ◌*◌, ◌≤◌}
use native.Mathlib.Omega.{arith}
use mathlib.Core.Path.{◌≡◌, refl}
use mathlib.Core.Bool.{true, ◌&&◌}
use mathlib.Core.List.{List, [], ◌∷◌}
use lib.ListN.{length, take, drop, length-append}
use lib.Dec.{eqb, leb}
use borrow.Author.Tests.{leb-true}
use Rattle.std.proofs.lemmas.Bool.{cond_both}
use Rattle.lists.proofs.Tests.{and_l, and_r}
use Rattle.lists.proofs.Search.{Each}
use Rattle.columns.proofs.Rows.{at_most}
use Rattle.columns.specs.LinesIn.{unless_malformed, lines_in}
use Rattle.rules.specs.declared.Seven.{Seven}
use Rattle.rules.specs.Board.{Board}
use Rattle.rules.specs.Refusals.{answer}
use Rattle.rules.specs.Step.{Once, after, allotted}
use Rattle.rules.proofs.Answers.{answer_most}
use Rattle.rules.proofs.Once.{once_after}
use Rattle.rules.proofs.JournalLength.{nine, Small, line_55}
use Rattle.std.specs.Prelude.{Option, Some, None}
use Rattle.calls.specs.CallLine.{line_in}
use Rattle.calls.specs.CallsIn.{calls_in}
use Rattle.calls.specs.Run.{journal, run_of}
use Rattle.calls.proofs.CallLines.{numbers_of, call_line}
use Rattle.calls.proofs.Parts.{line_on}

-- ---- a journal line

-- a call whose numbers are of 16 bits
abbrev pub SmallCall : Seven → Type 0
SmallCall c = Each Small (numbers_of c)

-- the nine numbers of the line of a call on a board are of 16 bits, and the line is 55 bytes long
module _ (b : Board) (c : Seven) (o : Once b) where
  pub line_small : SmallCall c → Each Small (nine c (answer b c 55) (allotted b c 55))
  unfolding allotted
  line_small (p, (q, (r, (s, (t, (u, (v, w))))))) =
      let few : allotted b c 55 ≤ 10000 =
      cond_both (eqb (answer b c 55) 0 && eqb c.call 1) (suc b.last.0) 0 (λ n. n ≤ 10000) (λ e. omega (arith, o.last))
      (λ e. omega arith) in
      (p, (q, (r, (s, (t, (u, (v, (omega (arith, answer_most b c 55), (omega arith, w)))))))))

  pub line_on_length : SmallCall c → length (line_on b c) ≡ 55
  line_on_length h = line_55 c (answer b c 55) (allotted b c 55) (line_small h)

-- THEOREM: 55 bytes for each call
pub journal-length : (b : Board) (calls : List Seven) → Once b → Each SmallCall calls
    → length (journal b calls) ≡ 55 * length calls
unfolding journal
journal-length b [] o h = refl
journal-length b (c ∷ calls) o h =
    let rest = journal-length (after b c 55) calls (once_after b c 55 o) h.1 in
    rw (length-append (line_on b c) (journal (after b c 55) calls), line_on_length b c o h.0, rest) (omega arith)

-- ---- the calls of a text are such calls

each_small : (ns : List ℕ) → at_most 65535 ns ≡ true → Each Small ns
unfolding at_most
each_small [] h = tt
each_small (n ∷ ns) h =
    let small = leb-true n 65535 (and_l (leb n 65535) (at_most 65535 ns) h) in
    (omega arith, each_small ns (and_r (leb n 65535) (at_most 65535 ns) h))

pub calls_small : (n : ℕ) (text : List ℕ) → Each SmallCall (calls_in n text)
unfolding lines_in
calls_small zero text = tt
calls_small (suc n) text = go (line_in (take 43 text)) refl (calls_small n (drop 43 text))
  where
    go : (l : Option Seven) → line_in (take 43 text) ≡ l → Each SmallCall (calls_in n (drop 43 text))
        → Each SmallCall (unless_malformed l (calls_in n (drop 43 text)))
    go (Some c) e ih = (each_small (numbers_of c) (call_line (take 43 text) c e).small, ih)
    go None e ih = tt

-- THEOREM: a run's journal has 55 bytes for each call that it made
pub run_length : (n : ℕ) (b : Board) (text : List ℕ) → Once b
    → length (run_of n b text).text ≡ 55 * (run_of n b text).lines
unfolding run_of
run_length n b text o = journal-length b (calls_in n text) o (calls_small n text)
