-- What one use of `write_sheet` is: its arguments and results, any buffer, tied by the plain reading that Rattle makes
-- of what the function ensures, and by nothing else. Assumes nothing.
use Prim.Native.Nat.{ℕ}
use mathlib.Core.Path.{◌≡◌, sym, subst}
use mathlib.Core.List.{List, []}
use contract.Lifetimes.{Lfts}
use denote.Triple.Clauses.{AtExit}
use denote.Triple.Impl.{rested}
use borrow.Fn.Kinds.{Dens, slots, kepts, ended_of}
use Rattle.std.specs.Prelude.{Result}
use Rattle.rules.specs.declared.Register.{Register}
use Rattle.rules.specs.declared.refusal.Refusal.{Refusal}
use Rattle.rules.specs.Answer.{answer_no, lines_no}
use Rattle.rules.specs.Sheet.{SheetPost}
use Rattle.rules.specs.Step.{Kept}
use Rattle.sheet.proofs.page.write_sheet.Kinds as sheet-kinds
use Rattle.sheet.proofs.page.write_sheet.Reads as sheet-reads

-- `write_sheet` was lent a register and a page, returned out, and left the page as page'
pub data WritingSheet : Register → List ℕ → Result ℕ Refusal → List ℕ → Type 0 where
  writing_sheet : (κs : Lfts 2) (a : Dens κs sheet-kinds.ps) (out : Result ℕ Refusal)
      (x : AtExit (ended_of 2 sheet-kinds.ps sheet-kinds.r) κs) → sheet-reads.Post κs a out x
      → WritingSheet a.0.now a.1.0.now out x.1.0.now

-- what `write_sheet` requires where it is lent this register, with any page
abbrev pub SheetAsks : Register → Type 0
SheetAsks r = (κs : Lfts 2) (a : Dens κs sheet-kinds.ps) → a.0.now ≡ r → sheet-reads.Pre κs a

-- ---- a use is what the contract says

pub sheet_post : {register : Register} {page : List ℕ} {out : Result ℕ Refusal} {page' : List ℕ}
    → WritingSheet register page out page'
    → SheetPost register page (answer_no out) (lines_no out) page'
sheet_post (writing_sheet κs a out x p) = p

pub sheet_asks : (r : Register) → Kept r → SheetAsks r
sheet_asks r k κs a e = subst Kept (sym e) k

-- ---- and whatever the contract allows is a use: nothing more is known of one

pub post_sheet : {register : Register} {page : List ℕ} {out : Result ℕ Refusal} {page' : List ℕ}
    → SheetPost register page (answer_no out) (lines_no out) page'
    → WritingSheet register page out page'
post_sheet {register} {page} {out} {page'} p =
    let κs : Lfts 2 = ([], ([], tt)) in
    let lent : List ℕ → Dens κs sheet-kinds.ps =
    λ bytes.
    (record { ref_ptr = (0, 0); now = register }, (record { ref_ptr = (0, 0); ghost_name = 0; now = bytes }, tt)) in
    writing_sheet κs (lent page) out (rested 2 κs (slots sheet-kinds.ps) (kepts sheet-kinds.ps) (lent page')) p
