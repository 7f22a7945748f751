-- What one use of `open` or `call` is: its arguments and results, any plan text, any seven numbers, any buffer, tied by
-- the plain reading that Rattle makes of what the function ensures, and by nothing else. Assumes nothing.
use Prim.Native.Nat.{ℕ}
use mathlib.Core.Path.{◌≡◌, sym, subst}
use mathlib.Core.List.{List, []}
use contract.Lifetimes.{Lfts}
use denote.Triple.Clauses.{AtExit}
use denote.Triple.Impl.{rested}
use borrow.Fn.Kinds.{Dens, slots, kepts, ended_of}
use Rattle.rules.specs.declared.Seven.{Seven}
use Rattle.rules.specs.declared.Opened.{Opened}
use Rattle.rules.specs.declared.Called.{Called}
use Rattle.rules.specs.declared.Register.{Register}
use Rattle.rules.specs.Step.{Kept, OpenPost, CallPost}
use Rattle.board.proofs.entry.open.Kinds as open-kinds
use Rattle.board.proofs.entry.open.Reads as open-reads
use Rattle.board.proofs.entry.call.Kinds as call-kinds
use Rattle.board.proofs.entry.call.Reads as call-reads

-- `open` was handed a text and returned r
pub data Opening : List ℕ → Opened → Type 0 where
  opening : (κs : Lfts 1) (a : Dens κs open-kinds.ps) (r : Opened)
      (x : AtExit (ended_of 1 open-kinds.ps open-kinds.r) κs) → open-reads.Post κs a r x
      → Opening a.0.now r

-- `call` was handed a register, seven numbers and a buffer, returned out, and left the buffer as buffer'
pub data Calling : Register → Seven → List ℕ → Called → List ℕ → Type 0 where
  calling : (κs : Lfts 1) (a : Dens κs call-kinds.ps) (out : Called)
      (x : AtExit (ended_of 1 call-kinds.ps call-kinds.r) κs) → call-reads.Post κs a out x
      → Calling a.0 a.1.0 a.1.1.0.now out x.1.1.0.now

-- what `call` requires where it is handed this register, with any seven numbers and any buffer
abbrev pub CallAsks : Register → Type 0
CallAsks r = (κs : Lfts 1) (a : Dens κs call-kinds.ps) → a.0 ≡ r → call-reads.Pre κs a

-- ---- a use is what the contract says

pub opening_post : {text : List ℕ} {r : Opened} → Opening text r → OpenPost text r
opening_post (opening κs a r x p) = p

pub calling_post : {before : Register} {s : Seven} {buffer : List ℕ} {out : Called} {buffer' : List ℕ}
    → Calling before s buffer out buffer'
    → CallPost before s buffer out buffer'
calling_post (calling κs a out x p) = p

pub call_asks : (r : Register) → Kept r → CallAsks r
call_asks r k κs a e = subst Kept (sym e) k

-- ---- and whatever the contract allows is a use: nothing more is known of one

pub post_opening : {text : List ℕ} {r : Opened} → OpenPost text r → Opening text r
post_opening {text} {r} p =
    let a : Dens ([], tt) open-kinds.ps = (record { ref_ptr = (0, 0); now = text }, tt) in
    opening ([], tt) a r (rested 1 ([], tt) (slots open-kinds.ps) (kepts open-kinds.ps) a) p

pub post_calling : {before : Register} {s : Seven} {buffer : List ℕ} {out : Called} {buffer' : List ℕ}
    → CallPost before s buffer out buffer'
    → Calling before s buffer out buffer'
post_calling {before} {s} {buffer} {out} {buffer'} p =
    let lent : List ℕ → Dens ([], tt) call-kinds.ps =
    λ bytes. (before, (s, (record { ref_ptr = (0, 0); ghost_name = 0; now = bytes }, tt))) in
    calling ([], tt) (lent buffer) out
    (rested 1 ([], tt) (slots call-kinds.ps) (kepts call-kinds.ps) (lent buffer')) p
