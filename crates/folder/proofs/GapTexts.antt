-- What is printed for worksites, from what `write_gaps` answers and leaves. Assumes nothing.
use Prim.Native.Nat.{ℕ, ◌*◌}
use mathlib.Core.Path.{◌≡◌, sym, ◌∙◌}
use mathlib.Core.List.{List, [], ◌∷◌}
use lib.ListN.{length, take}
use borrow.Author.Tests.{ne_eqb}
use Rattle.columns.specs.Line.{line}
use Rattle.rules.specs.declared.refusal.Refusal as Words
use Rattle.rules.specs.Answer.{refusal_no}
use Rattle.rules.specs.Worksites.{worksites_answer, WorksitesPost}
use Rattle.rules.proofs.Answers.{positive}
use Rattle.rules.proofs.Gaps.{accepted_lines}
use Rattle.worksites.specs.ListText.{gaps_text}

module _ {kind stated : ℕ} {from to buffer : List ℕ} {given lines : ℕ} {after : List ℕ}
    (p : WorksitesPost kind stated from to buffer given lines after) (room : length buffer ≡ 527) where
  answered : given ≡ worksites_answer kind stated from to 527
  answered = rw room at p.answered

  -- the lines stand at the front of the buffer
  pub lines_text : given ≡ 0 → take (17 * lines) after ≡ gaps_text kind stated from to
  unfolding gaps_text
  lines_text e =
      let zero : worksites_answer kind stated from to 527 ≡ 0 = sym answered ∙ e in
      (accepted_lines p e).3 ∙ rw zero

  -- or the refusal is printed
  pub refusal_text : (refusal : Words.Refusal) → given ≡ refusal_no refusal
      → line (6 ∷ []) (refusal_no refusal ∷ []) ≡ gaps_text kind stated from to
  unfolding gaps_text
  refusal_text refusal e =
      let number : worksites_answer kind stated from to 527 ≡ refusal_no refusal = sym answered ∙ e in
      rw (number, ne_eqb (refusal_no refusal) 0 (positive refusal))
