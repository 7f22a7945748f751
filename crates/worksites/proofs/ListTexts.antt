-- What a text of worksites holds, from the pairs of numbers that were read of it. Assumes nothing.
use mathlib.Core.Path.{◌≡◌, refl, sym, ap, ◌∙◌}
use mathlib.Core.Bool.{true, false, or-true}
use mathlib.Core.List.{List, ◌∷◌, map}
use Prim.Native.Nat.{ℕ, ◌+◌, ◌*◌}
use native.Mathlib.Omega.{arith}
use borrow.Author.Tests.{ne_eqb, eq-eqb}
use lib.ListN.{length}
use Rattle.std.specs.Prelude.{min}
use Rattle.worksites.specs.ListText.{pairs_in, is_malformed, malformed_line, narrowed, kind_in, stated_in, from_in}
use Rattle.worksites.specs.ListText.{to_in}

module _ (text : List ℕ) (pairs : List (ℕ × ℕ)) (p : pairs ≡ pairs_in text) where
  -- no line was read
  pub no_line : length pairs ≡ 0 → (is_malformed text ≡ true) × (1 ≡ malformed_line text)
  unfolding is_malformed
  no_line e = let n : length (pairs_in text) ≡ 0 = ap length (sym p) ∙ e in (rw n, omega (arith, n))

  -- bytes were left behind the lines that were read
  pub bytes_left : (17 * length pairs ≡ min (length text) 578 → ⊥)
      → (is_malformed text ≡ true) × (length pairs + 1 ≡ malformed_line text)
  unfolding is_malformed
  bytes_left h =
      let left : 17 * length (pairs_in text) ≡ min (length text) 578 → ⊥ =
      λ e. h (ap (λ n. 17 * n) (ap length p) ∙ e) in
      (rw (ne_eqb (17 * length (pairs_in text)) (min (length text) 578) left) (or-true _), rw p)

  -- all was read
  module _ (first : ℕ × ℕ) (rest : List (ℕ × ℕ)) (e : pairs ≡ first ∷ rest) where
    pub all_read : 17 * length pairs ≡ min (length text) 578 → is_malformed text ≡ false
    unfolding is_malformed
    all_read h =
        let some : length (pairs_in text) ≡ 0 → ⊥ = λ z. omega (arith, ap length (sym p), ap length e, z) in
        let whole : 17 * length (pairs_in text) ≡ min (length text) 578 = ap (λ n. 17 * n) (ap length (sym p)) ∙ h in
        rw (
          ne_eqb (length (pairs_in text)) 0 some,
          eq-eqb (17 * length (pairs_in text)) (min (length text) 578) whole,
        )

    pub first_sent : (narrowed first.0 ≡ kind_in text) × (narrowed first.1 ≡ stated_in text)
    first_sent = rw (← p, e) (refl, refl)

    pub worksites_sent : (map (λ x. x.0) rest ≡ from_in text) × (map (λ x. x.1) rest ≡ to_in text)
    worksites_sent = rw (← p, e) (refl, refl)
