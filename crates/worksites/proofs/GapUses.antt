-- What one use of `write_gaps` is: its arguments and results, any kind, statement, worksites and buffer, tied by the
-- plain reading that Rattle makes of what the function ensures, and by nothing else. Assumes nothing.
use Prim.Native.Nat.{ℕ}
use mathlib.Core.List.{List, []}
use contract.Lifetimes.{Lfts}
use denote.Triple.Clauses.{AtExit}
use denote.Triple.Impl.{rested}
use borrow.Fn.Kinds.{Dens, slots, kepts, ended_of}
use Rattle.std.specs.Prelude.{Result}
use Rattle.rules.specs.declared.refusal.Refusal.{Refusal}
use Rattle.rules.specs.Answer.{answer_no, lines_no}
use Rattle.rules.specs.Worksites.{WorksitesPost}
use Rattle.worksites.proofs.lines.write_gaps.Kinds as gaps-kinds
use Rattle.worksites.proofs.lines.write_gaps.Reads as gaps-reads

-- `write_gaps` was handed a kind, a statement, the worksites and a buffer, returned out, and left the buffer as buffer'
pub data WritingGaps : ℕ → ℕ → List ℕ → List ℕ → List ℕ → Result ℕ Refusal → List ℕ → Type 0 where
  writing_gaps : (κs : Lfts 3) (a : Dens κs gaps-kinds.ps) (out : Result ℕ Refusal)
      (x : AtExit (ended_of 3 gaps-kinds.ps gaps-kinds.r) κs) → gaps-reads.Post κs a out x
      → WritingGaps a.0 a.1.0 a.1.1.0.now a.1.1.1.0.now a.1.1.1.1.0.now out x.1.1.1.1.0.now

-- ---- a use is what the contract says

pub gaps_post : {kind stated : ℕ} {from to buffer : List ℕ} {out : Result ℕ Refusal} {buffer' : List ℕ}
    → WritingGaps kind stated from to buffer out buffer'
    → WorksitesPost kind stated from to buffer (answer_no out) (lines_no out) buffer'
gaps_post (writing_gaps κs a out x p) = p

-- ---- and whatever the contract allows is a use: nothing more is known of one

pub post_gaps : {kind stated : ℕ} {from to buffer : List ℕ} {out : Result ℕ Refusal} {buffer' : List ℕ}
    → WorksitesPost kind stated from to buffer (answer_no out) (lines_no out) buffer'
    → WritingGaps kind stated from to buffer out buffer'
post_gaps {kind} {stated} {from} {to} {buffer} {out} {buffer'} p =
    let κs : Lfts 3 = ([], ([], ([], tt))) in
    let lent : List ℕ → Dens κs gaps-kinds.ps =
    λ bytes. (
      kind,
      (
        stated,
        (
          record { ref_ptr = (0, 0); now = from },
          (
            record { ref_ptr = (0, 0); now = to },
            (record { ref_ptr = (0, 0); ghost_name = 0; now = bytes }, tt),
          ),
        ),
      ),
    ) in
    writing_gaps κs (lent buffer) out (rested 3 κs (slots gaps-kinds.ps) (kepts gaps-kinds.ps) (lent buffer')) p
