-- The journal line of a call is 55 bytes long, whatever the seven numbers are: each is one of 16 bits. Assumes nothing.
use Prim.Native.Nat.{ℕ, ◌<◌}
use native.Mathlib.Omega.{arith}
use mathlib.Core.Path.{◌≡◌}
use mathlib.Core.Bool.{true}
use mathlib.Core.List.{List, [], ◌∷◌}
use lib.ListN.{length}
use Rattle.lists.proofs.Search.{Each}
use Rattle.columns.specs.Column.{fits}
use Rattle.columns.specs.Line.{all_fit, fit_of}
use Rattle.columns.proofs.Writing.{fits_below, total, line-length}
use Rattle.rules.specs.declared.Seven.{Seven}
use Rattle.rules.specs.Journal.{journal_widths, journal_line}

-- the nine numbers of a line
abbrev pub nine : Seven → ℕ → ℕ → List ℕ
nine s answer number = s.day ∷ s.time ∷ s.call ∷ s.a ∷ s.b ∷ s.c ∷ s.d ∷ answer ∷ number ∷ []

-- each is a number of 16 bits
abbrev pub Small : ℕ → Type 0
Small n = n < 65536

small_fits : (n : ℕ) → Small n → fits 6 n ≡ true
small_fits n h = fits_below 6 n (omega arith) (omega arith)

pub nine_fit : (s : Seven) (answer number : ℕ) → Each Small (nine s answer number)
    → all_fit journal_widths (nine s answer number) ≡ true
unfolding fit_of
nine_fit s answer number (a, (b, (c, (d, (e, (f, (g, (h, (i, u))))))))) =
    rw (
      small_fits s.day a,
      small_fits s.time b,
      small_fits s.call c,
      small_fits s.a d,
      small_fits s.b e,
      small_fits s.c f,
      small_fits s.d g,
      small_fits answer h,
      small_fits number i,
    )

-- THEOREM: the line is 55 bytes long
pub line_55 : (s : Seven) (answer number : ℕ) → Each Small (nine s answer number)
    → length (journal_line s answer number) ≡ 55
unfolding journal_line total
line_55 s answer number h = line-length journal_widths (nine s answer number) (nine_fit s answer number h)
