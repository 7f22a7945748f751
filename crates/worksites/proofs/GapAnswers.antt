-- The whole result, answer by answer. Assumes nothing.
use mathlib.Core.Path.{◌≡◌, refl, sym, ◌∙◌}
use mathlib.Core.Bool.{Bool, true, false, ◌&&◌}
use mathlib.Core.List.{List, [], ◌∷◌, ◌++◌}
use Prim.Native.Nat.{ℕ, ◌*◌, ◌≤◌, ◌<◌}
use native.Mathlib.Omega.{arith}
use borrow.Author.Tests.{lt-ltb, le-ltb}
use lib.ListN.{length, drop}
use Rattle.std.specs.List.{All}
use Rattle.lists.specs.Search.{any}
use Rattle.lists.proofs.Tests.{and_r}
use Rattle.columns.specs.Line.{Written}
use Rattle.columns.proofs.Writing.{total, line_fills}
use Rattle.rules.specs.Refusals.{lowest}
use Rattle.rules.specs.Worksites.{is_twa_no, is_stated, is_list, gaps, is_too_far, are_too_far}
use Rattle.rules.specs.Worksites.{worksites_refusals, worksites_answer, due, gap_widths, gap_line, gap_lines}
use Rattle.rules.specs.Worksites.{WorksitesPost}
use Rattle.rules.proofs.Gaps.{list_within, sent_gaps, gap_fits}

module _ (kind stated : ℕ) (from to buffer : List ℕ) where
  abbrev Post : ℕ → ℕ → List ℕ → Type 0
  Post given lines after = WorksitesPost kind stated from to buffer given lines after

  abbrev answer : ℕ
  answer = worksites_answer kind stated from to (length buffer)

  -- a buffer that is too short
  pub short_of_lines : length buffer < 527 → Post 1 0 buffer
  unfolding worksites_answer worksites_refusals lowest
  short_of_lines h = record { answered = rw (lt-ltb (length buffer) 527 h); counted = refl; bytes = refl }

  module _ (room : 527 ≤ length buffer) where
    long : answer ≡ lowest (drop 1 (worksites_refusals kind stated from to (length buffer)))
    unfolding worksites_answer worksites_refusals lowest
    long = rw (le-ltb (length buffer) 527 room)

    -- what is no list for the kind
    pub not_a_list : (is_stated kind stated && is_list from to) ≡ false → Post 26 0 buffer
    unfolding worksites_refusals lowest
    not_a_list e = record { answered = sym (long ∙ rw e); counted = refl; bytes = refl }

    module _ (sent : (is_stated kind stated && is_list from to) ≡ true) where
      -- a TWA's gap that is too far
      pub too_far : (is_twa_no kind && any is_too_far (gaps from to)) ≡ true → Post 27 0 buffer
      unfolding worksites_refusals are_too_far lowest
      too_far e = record { answered = sym (long ∙ rw (sent, e)); counted = refl; bytes = refl }

      -- the lines
      pub lines_written : (is_twa_no kind && any is_too_far (gaps from to)) ≡ false → (after : List ℕ)
          → let text = gap_lines kind stated (gaps from to) in
          after ≡ text ++ drop (length text) buffer → Post 0 (length (gaps from to)) after
      unfolding worksites_refusals are_too_far lowest
      lines_written e after w =
          record { answered = sym (long ∙ rw (sent, e)); counted = refl; bytes = w }

-- a list of worksites for the kind: there is one at least and 32 at most, so there is room for a line for each gap
module _ (kind stated : ℕ) (from to : List ℕ) (sent : (is_stated kind stated && is_list from to) ≡ true) where
  pub some_worksites : (1 ≤ length from) × (length from ≤ 32)
  some_worksites = list_within from to (and_r (is_stated kind stated) (is_list from to) sent)

  -- and each is in range
  pub lines_due : (xs : List ℕ) → xs ≡ gaps from to → (room : ℕ) → 527 ≤ room
      → (17 * length xs ≤ room) × All (λ gap. gap ≤ 999999) xs
  lines_due xs e room h = let g = sent_gaps kind stated from to sent in rw e (omega (arith, g.0), g.1)

-- ---- a line

-- a buffer of 17 bytes is filled by the line of a gap
pub line_filled : (kind stated gap what : ℕ) (buffer after : List ℕ) (answer : Bool) → stated < 65536 → gap ≤ 999999
    → length buffer ≡ 17 → what ≡ due kind stated gap
    → Written gap_widths (gap ∷ what ∷ []) buffer after answer → after ≡ gap_line kind stated gap
unfolding gap_line total
line_filled kind stated gap what buffer after answer s g l d w =
    line_fills gap_widths (gap ∷ due kind stated gap ∷ []) buffer after answer (rw d at w)
    (gap_fits kind stated gap s g) l
