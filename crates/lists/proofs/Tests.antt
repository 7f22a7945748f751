-- Truth values: taking a test apart and putting one together; two numbers compared. Assumes nothing.
use Prim.Native.Nat.{ℕ, ◌≤◌, ◌<◌}
use mathlib.Core.Path.{◌≡◌, refl, sym, ◌∙◌}
use mathlib.Core.Logic.{◌⊎◌, inl, inr, ⊎_elim}
use mathlib.Core.Bool.{Bool, true, false, ◌&&◌, ◌||◌, false≢true, true≢false}
use borrow.Author.Tests.{ltb-true, ltb-false}
use lib.Dec.{ltb}
use Rattle.std.proofs.lemmas.Bool.{and_from, or_from, or_left, or_right, not-false, not-true}

pub truth : (t : Bool) → (t ≡ true) ⊎ (t ≡ false)
truth true = inl refl
truth false = inr refl

-- nothing is both true and false
pub clash {ℓ} : {A : Type ℓ} {t : Bool} → t ≡ true → t ≡ false → A
clash p q = absurd (true≢false (sym p ∙ q))

-- two tests that follow from each other are equal
pub same_test : (a b : Bool) → (a ≡ true → b ≡ true) → (b ≡ true → a ≡ true) → a ≡ b
same_test true b f g = sym (f refl)
same_test false true f g = g refl
same_test false false f g = refl

pub and_l : (a b : Bool) → (a && b) ≡ true → a ≡ true
and_l true b h = refl
and_l false b h = h

pub and_r : (a b : Bool) → (a && b) ≡ true → b ≡ true
and_r true b h = h
and_r false b h = absurd (false≢true h)

-- a conjunction that is false, with its first part true
pub and_no_r : (a b : Bool) → (a && b) ≡ false → a ≡ true → b ≡ false
and_no_r true b h p = h
and_no_r false b h p = absurd (false≢true p)

pub or_no_l : (a b : Bool) → (a || b) ≡ false → a ≡ false
or_no_l true b h = h
or_no_l false b h = refl

pub or_no_r : (a b : Bool) → (a || b) ≡ false → b ≡ false
or_no_r true b h = absurd (true≢false h)
or_no_r false b h = h

-- for `search`: from a test to its parts, and from the parts to the test
pub ruleset told = (not-false, not-true, and_l, and_r, or_no_l, or_no_r)

pub ruleset shown = (and_from, or_from, or_left, or_right, and_no_r)

-- of two numbers the first is below the second, or the second is no greater
pub lt_or_le : (a b : ℕ) → (a < b) ⊎ (b ≤ a)
lt_or_le a b = ⊎_elim (λ e. inl (ltb-true a b e)) (λ e. inr (ltb-false a b e)) (truth (ltb a b))
