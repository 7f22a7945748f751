-- A read into the part of a buffer behind what was read before.
use Rattle.std.proofs.Common.{◌≡◌, ℕ, ◌+◌, ◌≤◌, List, ◌++◌, Option, length, take, sym, ap, ap₂, ◌∙◌, subst, le_refl}
use Rattle.std.proofs.Common.{drop_at, length-take-le}
use Rattle.std.proofs.lemmas.Slice.{take-put_mid_below}
use Rattle.std.proofs.Math.Seq.{take-add, take-append-le}
use Rattle.std.specs.Io.KnownBytes.{Consumes}
use Rattle.std.proofs.KnownBytes.{Consumes-trans}
use borrow.Rule.Slice.PartMut.{put_mid, post_of}

-- the front of the buffer is then what was read before, and what was read now
take-put_mid : (at k n : ℕ) (buf part : List ℕ) → at ≤ length buf → n ≤ length part
    → take (at + n) (put_mid at k buf part) ≡ take at buf ++ take n part
take-put_mid at k n buf part within fits =
    let after = post_of at k buf in
    let whole = put_mid at k buf part in
    let rest =
    ap (take n) (drop_at (take at buf) (part ++ after) at (length-take-le at buf within))
    ∙ take-append-le n part after fits in
    take-add at n whole ∙ ap₂ (λ (xs ys : List ℕ). xs ++ ys) (take-put_mid_below _ _ _ _ _ (le_refl _) within) rest

pub filled-more : (a b c : Option (List ℕ)) (at k n : ℕ) (buf part : List ℕ) → at ≤ length buf → n ≤ length part
    → Consumes a b (take at buf) → Consumes b c (take n part) → Consumes a c (take (at + n) (put_mid at k buf part))
filled-more a b c at k n buf part within fits before now =
    subst (Consumes a c) (sym (take-put_mid at k n buf part within fits)) (Consumes-trans a b c _ _ before now)
