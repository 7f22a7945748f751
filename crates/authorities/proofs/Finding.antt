-- The answer to a call: the first refusal of its list that holds, and what the search for an authority, or for two,
-- says of `live` and `authority`. Assumes nothing.
use Prim.Native.Nat.{ℕ}
use mathlib.Core.Path.{◌≡◌, refl, sym, ◌∙◌}
use mathlib.Core.Bool.{Bool, true, false, ◌||◌}
use mathlib.Core.List.{List, [], ◌∷◌}
use borrow.Author.Tests.{eq-eqb, ne_eqb}
use Rattle.std.specs.Prelude.{Option, Some, find}
use Rattle.std.proofs.lemmas.Bool.{not_from_false, not_from_true}
use Rattle.rules.specs.declared.AuthorityNo.{AuthorityNo}
use Rattle.rules.specs.declared.Authority.{Authority}
use Rattle.rules.specs.Board.{Board, is_authority, authority}
use Rattle.rules.specs.Refusals.{Refusal, ◌when◌, lowest, not_live}
use Rattle.authorities.proofs.AuthorityLaws.{found}

-- ---- the first refusal that holds

pub holds : (n : ℕ) (t : Bool) (rs : List Refusal) → t ≡ true → n ≡ lowest (n when t ∷ rs)
unfolding lowest
holds n t rs e = rw e

pub fails : (n m : ℕ) (t : Bool) (rs : List Refusal) → t ≡ false → m ≡ lowest rs → m ≡ lowest (n when t ∷ rs)
unfolding lowest
fails n m t rs e l = rw e l

pub none : 0 ≡ lowest []
unfolding lowest
none = refl

-- a test that a called function made
pub of_call : {s t v : Bool} → s ≡ t → s ≡ v → t ≡ v
of_call e f = sym e ∙ f

-- for `search`: an answer that is the lowest refusal of a list, or 0, from the flags on the way
pub ruleset refusals = (holds, fails, none, not_from_false, not_from_true, of_call, eq-eqb, ne_eqb)

-- ---- the authority with a number, looked for

-- a call that names two is answered 5 where either is not live, else by its other refusals, of the two found
pub both_live : (b : Board) (n m : AuthorityNo) (rs : List Refusal) {f : Option Authority}
    (looked : f ≡ find (is_authority n) b.authorities)
    {a : Authority} (is : f ≡ Some a) {g : Option Authority} (looked_too : g ≡ find (is_authority m) b.authorities)
    {c : Authority} {v : ℕ} → g ≡ Some c → (authority b n ≡ a → authority b m ≡ c → v ≡ lowest rs)
    → v ≡ lowest (5 when (not_live b n || not_live b m) ∷ rs)
unfolding lowest
both_live b n m rs looked is looked_too is' decided =
    let h = found b n looked is in
    let k = found b m looked_too is' in
    rw (h.0, k.0) (decided h.1 k.1)
