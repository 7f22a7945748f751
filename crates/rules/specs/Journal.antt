-- The journal line of a call (01, "The journal"). Assumes nothing.
use Rattle.std.specs.Prelude.{ℕ, cond, List, [], ◌∷◌, ◌++◌, length, drop, ltb}
use Rattle.columns.specs.Line.{line}
use Rattle.rules.specs.declared.Seven.{Seven}

abbrev pub journal_widths : List ℕ
journal_widths = 6 ∷ 6 ∷ 6 ∷ 6 ∷ 6 ∷ 6 ∷ 6 ∷ 6 ∷ 6 ∷ []

-- "the seven numbers, the answer (0 or refusal), the number allotted by REQUEST (else 0), each right-justified in 6
-- columns, then a line feed": 55 bytes
unfoldable pub journal_line : Seven → ℕ → ℕ → List ℕ
journal_line s given number =
    line journal_widths
    (s.day ∷ s.time ∷ s.call ∷ s.a ∷ s.b ∷ s.c ∷ s.d ∷ given ∷ number ∷ [])

-- "Each call but one refused with 1 fills the first 55 bytes of the buffer"; "Later bytes stay."
unfoldable pub line_after : Seven → ℕ → ℕ → List ℕ → List ℕ
line_after s given number buffer =
    cond (ltb (length buffer) 55) buffer (journal_line s given number ++ drop 55 buffer)
