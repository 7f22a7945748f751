-- What one use of `run` is: its arguments and results, any text of calls, any buffer, tied by the plain reading that
-- Rattle makes of what the function ensures, and by nothing else. Assumes nothing.
use Prim.Native.Nat.{ℕ}
use mathlib.Core.Path.{◌≡◌, sym, subst}
use mathlib.Core.List.{List, []}
use contract.Lifetimes.{Lfts}
use denote.Triple.Clauses.{AtExit}
use denote.Triple.Impl.{rested}
use borrow.Fn.Kinds.{Dens, slots, kepts, ended_of}
use Rattle.rules.specs.declared.Register.{Register}
use Rattle.rules.specs.Step.{Kept}
use Rattle.calls.specs.Run.{RunPost}
use Rattle.calls.specs.declared.piece.AfterRun.{AfterRun}
use Rattle.calls.proofs.piece.run.Kinds as run-kinds
use Rattle.calls.proofs.piece.run.Reads as run-reads

-- `run` was handed a register, a text and a buffer, returned out, and left the buffer as buffer'
pub data Running : Register → List ℕ → List ℕ → AfterRun → List ℕ → Type 0 where
  running : (κs : Lfts 2) (a : Dens κs run-kinds.ps) (out : AfterRun)
      (x : AtExit (ended_of 2 run-kinds.ps run-kinds.r) κs)
      → run-reads.Post κs a out x
      → Running a.0 a.1.0.now a.1.1.0.now out x.1.1.0.now

-- what `run` requires where it is handed this register, with any text and any buffer
abbrev pub RunAsks : Register → Type 0
RunAsks r = (κs : Lfts 2) (a : Dens κs run-kinds.ps) → a.0 ≡ r → run-reads.Pre κs a

-- ---- a use is what the contract says

pub running_post : {before : Register} {text buffer : List ℕ} {out : AfterRun} {buffer' : List ℕ}
    → Running before text buffer out buffer'
    → RunPost before text buffer out.register out.lines buffer'
running_post (running κs a out x p) = p

pub run_asks : (r : Register) → Kept r → RunAsks r
run_asks r k κs a e = subst Kept (sym e) k

-- ---- and whatever the contract allows is a use: nothing more is known of one

pub post_running : {before : Register} {text buffer : List ℕ} {out : AfterRun} {buffer' : List ℕ}
    → RunPost before text buffer out.register out.lines buffer'
    → Running before text buffer out buffer'
post_running {before} {text} {buffer} {out} {buffer'} p =
    let κs : Lfts 2 = ([], ([], tt)) in
    let lent : List ℕ → Dens κs run-kinds.ps =
    λ bytes. (
      before,
      (record { ref_ptr = (0, 0); now = text }, (record { ref_ptr = (0, 0); ghost_name = 0; now = bytes }, tt)),
    ) in
    running κs (lent buffer) out (rested 2 κs (slots run-kinds.ps) (kepts run-kinds.ps) (lent buffer')) p
