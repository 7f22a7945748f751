-- What the answer of a search over the authorities says, in the rules' words. Assumes nothing.
use Prim.Native.Nat.{ℕ}
use mathlib.Core.Path.{◌≡◌, sym, ◌∙◌}
use mathlib.Core.Bool.{true, false}
use Rattle.std.specs.Prelude.{Option, Some, None, find}
use Rattle.lists.specs.Search.{first}
use Rattle.lists.proofs.Finds.{found_none, found_is}
use Rattle.rules.specs.declared.AuthorityNo.{AuthorityNo}
use Rattle.rules.specs.declared.Authority.{Authority}
use Rattle.rules.specs.Board.{Board, is_authority, no_authority, live, authority}
use Rattle.rules.specs.Refusals.{not_live, is_e, is_w, any_e, any_w, the_w}

-- ---- the authority with a number, looked for

module _ (b : Board) (n : AuthorityNo) {f : Option Authority} (looked : f ≡ find (is_authority n) b.authorities) where
  pub not_found : f ≡ None → not_live b n ≡ true
  unfolding not_live live
  not_found none = rw (found_none (is_authority n) b.authorities (sym looked ∙ none))

  pub found : {a : Authority} → f ≡ Some a → (not_live b n ≡ false) × (authority b n ≡ a)
  unfolding not_live live authority
  found is = let h = found_is (is_authority n) no_authority b.authorities (sym looked ∙ is) in (rw h.0, h.1)

-- ---- E, looked for

module _ (b : Board) (p : ℕ) {e : Option Authority} (looked : e ≡ find (is_e p) b.authorities) where
  pub no_e : e ≡ None → any_e b p ≡ false
  unfolding any_e
  no_e none = found_none (is_e p) b.authorities (sym looked ∙ none)

  pub is_the_e : {a : Authority} → e ≡ Some a → (any_e b p ≡ true) × (first (is_e p) no_authority b.authorities ≡ a)
  unfolding any_e
  is_the_e is = found_is (is_e p) no_authority b.authorities (sym looked ∙ is)

-- ---- W, looked for

module _ (b : Board) (p : ℕ) {w : Option Authority} (looked : w ≡ find (is_w p) b.authorities) where
  pub no_w : w ≡ None → any_w b p ≡ false
  unfolding any_w
  no_w none = found_none (is_w p) b.authorities (sym looked ∙ none)

  pub is_the_w : {a : Authority} → w ≡ Some a → (any_w b p ≡ true) × (the_w b p ≡ a)
  unfolding any_w the_w
  is_the_w is = found_is (is_w p) no_authority b.authorities (sym looked ∙ is)

-- for `search`: what is found, or not, of E and of W
pub ruleset holders = (no_e, is_the_e, no_w, is_the_w)
