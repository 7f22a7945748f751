-- The loop that gathers the gaps: those so far, and those between the ends and the starts still to come. Assumes
-- nothing.
use mathlib.Core.Path.{◌≡◌, refl, sym, ◌∙◌}
use mathlib.Core.Logic.{◌⊎◌, inl, inr}
use mathlib.Core.List.{List, [], ◌∷◌, ◌++◌, append_assoc, append-nil}
use Prim.Native.Nat.{ℕ, ◌+◌, ◌-◌, ◌≤◌}
use native.Mathlib.Omega.{arith}
use lib.ListN.{length, drop, length-append, length-drop}
use Rattle.rules.specs.Worksites.{distances, gaps}

pub record SoFar (from to found ends starts : List ℕ) : Type 0 where
  pub room : length found + length starts ≤ 31
  pub whole : gaps from to ≡ found ++ distances ends starts

pub none_yet : (from to starts : List ℕ) → 1 ≤ length from → length from ≤ 32 → starts ≡ drop 1 from
    → SoFar from to [] to starts
none_yet from to starts h k e = rw e (record { room = omega (arith, length-drop 1 from); whole = refl })

module _ (from to found : List ℕ) (t f : ℕ) (ends starts : List ℕ)
    (s : SoFar from to found (t ∷ ends) (f ∷ starts)) where
  pub gap_room : length found + 1 ≤ 31
  gap_room = omega (arith, s.room)

  pub gap_next : SoFar from to (found ++ ((f - t) ∷ [])) ends starts
  unfolding distances
  gap_next = record {
    room = omega (arith, s.room, length-append found ((f - t) ∷ []));
    whole = s.whole ∙ sym (append_assoc found ((f - t) ∷ []) (distances ends starts));
  }

-- nothing is left of the one or the other
pub gaps_end : (from to found ends starts : List ℕ) → SoFar from to found ends starts → (ends ≡ []) ⊎ (starts ≡ [])
    → found ≡ gaps from to
unfolding distances
gaps_end from to found ends starts s (inl e) = sym (s.whole ∙ rw e (none starts ∙ append-nil found))
  where
    none : (starts : List ℕ) → found ++ distances [] starts ≡ found ++ []
    none [] = refl
    none (f ∷ starts) = refl
gaps_end from to found ends starts s (inr e) = sym (s.whole ∙ rw e (append-nil found))
