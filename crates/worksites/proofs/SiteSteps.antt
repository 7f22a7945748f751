-- The loop that tests worksites: those still to come, after the end of the last one. Assumes nothing.
use mathlib.Core.Path.{◌≡◌, refl, sym, ◌∙◌}
use mathlib.Core.Bool.{Bool, true, false, ◌&&◌}
use mathlib.Core.List.{List, [], ◌∷◌}
use Prim.Native.Nat.{ℕ}
use native.Mathlib.Omega.{arith}
use lib.Dec.{leb}
use lib.ListN.{length}
use Rattle.rules.specs.Worksites.{are_worksites}
use Rattle.rules.proofs.Gaps.{sites_paired}

-- lists of two lengths are none
pub sites_unpaired : (from to : List ℕ) → (length from ≡ length to → ⊥) → false ≡ are_worksites 0 from to
sites_unpaired from to h = go (are_worksites 0 from to) refl
  where
    go : (t : Bool) → are_worksites 0 from to ≡ t → false ≡ t
    go true e = absurd (h (sites_paired 0 from to e))
    go false e = refl

-- the answer is that of the worksites still to come
abbrev pub ToCome : List ℕ → List ℕ → ℕ → List ℕ → List ℕ → Type 0
ToCome from to end starts ends =
    (length starts ≡ length ends) × (are_worksites 0 from to ≡ are_worksites end starts ends)

module _ (from to : List ℕ) (end f t : ℕ) (starts ends : List ℕ) (c : ToCome from to end (f ∷ starts) (t ∷ ends)) where
  pub site_no : (leb end f && leb f t && leb t 999999) ≡ false → false ≡ are_worksites 0 from to
  unfolding are_worksites
  site_no e = sym (c.1 ∙ rw e)

  pub site_next : (leb end f && leb f t && leb t 999999) ≡ true → ToCome from to t starts ends
  unfolding are_worksites
  site_next e = (omega (arith, c.0), c.1 ∙ rw e)

pub sites_end : (from to : List ℕ) (end : ℕ) (starts ends : List ℕ) → ToCome from to end starts ends → starts ≡ []
    → ends ≡ [] → true ≡ are_worksites 0 from to
unfolding are_worksites
sites_end from to end starts ends c e k = sym (c.1 ∙ rw (e, k))
