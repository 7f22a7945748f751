-- A page made line by line in a lent buffer: the lines so far at its front, and later bytes as they were. For lines of
-- any width, and for the lines of any things. Assumes nothing.
use mathlib.Core.Path.{◌≡◌, refl, sym, ap, ap₂, ◌∙◌}
use mathlib.Core.List.{List, [], ◌∷◌, ◌++◌, map, map-append, append_assoc, append-nil}
use Prim.Native.Nat.{ℕ, ◌+◌, ◌-◌, ◌*◌, ◌≤◌, ◌<◌}
use native.Mathlib.Omega.{arith}
use native.Mathlib.Nat.{mul-add}
use native.Mathlib.Numerals.{add-one}
use lib.ListN.{length, take, drop, get_or, length-append, length-drop}
use lib.Seq.{take_at, drop_at, take-suc, drop-drop}
use borrow.Rule.Slice.PartMut.{put_mid, Post-is}
use Rattle.std.proofs.lemmas.List.{take_all}
use Rattle.rules.specs.Sheet.{page_of}

-- one line more
page_snoc : (lines : List (List ℕ)) (line : List ℕ) → page_of (lines ++ (line ∷ [])) ≡ page_of lines ++ line
unfolding page_of
page_snoc [] line = append-nil line
page_snoc (l ∷ lines) line =
    ap (λ (t : List ℕ). l ++ t) (page_snoc lines line) ∙ sym (append_assoc l (page_of lines) line)

-- after some lines, in at bytes: they stand at the front of the page, and later bytes are as they were
pub record Printed (lines : List (List ℕ)) (at : ℕ) (page₀ page : List ℕ) : Type 0 where
  pub size : length (page_of lines) ≡ at
  pub long : length page ≡ length page₀
  pub bytes : page ≡ page_of lines ++ drop at page₀

pub printed_none : (page : List ℕ) → Printed [] 0 page page
unfolding page_of
printed_none page = record { size = refl; long = refl; bytes = refl }

-- one line more, filled into the w bytes from at
pub printed_next : (w : ℕ) (lines : List (List ℕ)) (line : List ℕ) (at : ℕ) (page₀ page : List ℕ)
    → at + w ≤ length page₀ → Printed lines at page₀ page → length line ≡ w
    → Printed (lines ++ (line ∷ [])) (at + w) page₀ (put_mid at (at + w - at) page line)
printed_next w lines line at page₀ page h b e =
    let done = page_of lines in
    let size : length (page_of (lines ++ (line ∷ []))) ≡ at + w =
    ap length (page_snoc lines line) ∙ simp (length-append, b.size, e) in
    let front : take at page ≡ done = ap (take at) b.bytes ∙ take_at done (drop at page₀) at b.size in
    let rest : drop at page ≡ drop at page₀ = ap (drop at) b.bytes ∙ drop_at done (drop at page₀) at b.size in
    let behind : drop (at + w) page ≡ drop (at + w) page₀ =
    sym (drop-drop w at page) ∙ ap (drop w) rest ∙ drop-drop w at page₀ in
    let bytes : put_mid at (at + w - at) page line ≡ page_of (lines ++ (line ∷ [])) ++ drop (at + w) page₀ =
    ap₂ (λ (x y : List ℕ). x ++ (line ++ y)) front (Post-is at (at + w) page (omega arith) ∙ behind)
    ∙ rw (page_snoc lines line) (sym (append_assoc done line (drop (at + w) page₀))) in
    record {
      size = size;
      long = ap length bytes ∙ simp (length-append, length-drop, size) (omega arith);
      bytes = bytes;
    }

-- ---- a line of w bytes for each thing of a list, as f writes it
module _ {A : Type 0} (f : A → List ℕ) (w : ℕ) (xs : List A) (page₀ : List ℕ) where
  -- the lines of the first i things stand on the page
  abbrev pub Listed : ℕ → List ℕ → Type 0
  Listed i page = Printed (map f (take i xs)) (w * i) page₀ page

  pub listed_next : (i : ℕ) (page : List ℕ) → Listed i page → i < length xs → w * i + w ≤ length page₀
      → (d : A) (line : List ℕ) → line ≡ f (get_or xs i d) → length line ≡ w
      → Listed (i + 1) (put_mid (w * i) (w * i + w - w * i) page line)
  listed_next i page b h room d line e l =
      let at : w * (i + 1) ≡ w * i + w = omega (arith, mul-add w i 1) in
      let next : map f (take (i + 1) xs) ≡ map f (take i xs) ++ (line ∷ []) =
      rw (add-one, take-suc xs i d h, map-append, e) in
      rw (next, at) (printed_next w (map f (take i xs)) line (w * i) page₀ page room b l)

  -- all lines
  pub listed_all : (i : ℕ) (page : List ℕ) → Listed i page → length xs ≤ i → i ≤ length xs
      → Printed (map f xs) (w * length xs) page₀ page
  listed_all i page b h k =
      let e : i ≡ length xs = omega arith in
      let all : take (length xs) xs ≡ xs = take_all (length xs) xs (omega arith) in
      rw (e, all) at b
