-- 13 of GRANT and CONTINUE, decided from the sets that a register holds, for an authority that is live and pending; and
-- that the one which the call names is live. Assumes nothing.
use Prim.Native.Nat.{ℕ}
use mathlib.Core.Path.{◌≡◌, refl, sym, ◌∙◌}
use mathlib.Core.Bool.{Bool, true, false, cond}
use mathlib.Core.List.{Memᴰ}
use borrow.Author.Tests.{not-false}
use Rattle.std.specs.Prelude.{Result, Ok, Err}
use Rattle.rules.specs.declared.AuthorityNo.{AuthorityNo}
use Rattle.rules.specs.declared.Authority.{Authority}
use Rattle.rules.specs.declared.Register.{Register}
use Rattle.rules.specs.declared.refusal.Refusal.{Refusal}
use Rattle.rules.specs.declared.refusal.Refusal.TheVariants.{NotLive, Stage, Officer}
use Rattle.rules.specs.Board.{board_of, live, authority}
use Rattle.rules.specs.Refusals.{not_live}
use Rattle.rules.proofs.Follows.{authority_there}
use Rattle.answers.specs.declared.answer.Stage.TheVariants.{Pending}
use Rattle.answers.specs.Held.{held_by}

-- the authority that a call names, where it is live
pub named_live : (r : Register) (n : AuthorityNo) {a : Authority} → not_live (board_of r) n ≡ false
    → authority (board_of r) n ≡ a
    → Memᴰ a r.authorities.items
unfolding not_live board_of
named_live r n l is = rw (← is) (authority_there (board_of r) n (not-false (live (board_of r) n) l)).0

-- and where it is held while pending
held_step : {x a : Authority} (s t u : Bool)
    → Ok a ≡ cond s (Err NotLive) (cond t (Err Stage) (cond u (Err Officer) (Ok x))) → (s ≡ false) × (x ≡ a)
held_step true t u e = absurd cc
held_step false true u e = absurd cc
held_step false false true e = absurd cc
held_step false false false e = (refl, cc)

pub held_live : (r : Register) (n : AuthorityNo) (officer : ℕ) {f : Result Authority Refusal} {a : Authority}
    → f ≡ Ok a → f ≡ held_by (board_of r) n Pending officer → Memᴰ a r.authorities.items
held_live r n officer is held = let h = held_step _ _ _ (sym is ∙ held) in named_live r n h.0 h.1
