-- A line of a text of calls (01, "The journal"). Assumes nothing.
use Rattle.std.specs.Prelude.{ℕ, cond, List, [], ◌∷◌, get_or, Option, Some, None}
use Rattle.columns.specs.Reading.{row_of}
use Rattle.rules.specs.declared.Seven.{Seven}

abbrev pub call_widths : List ℕ
call_widths = 6 ∷ 6 ∷ 6 ∷ 6 ∷ 6 ∷ 6 ∷ 6 ∷ []

-- the seven numbers of a call, by their order in the line
abbrev pub seven_of : List ℕ → Seven
seven_of ns = record {
  day = get_or ns 0 0;
  time = get_or ns 1 0;
  call = get_or ns 2 0;
  a = get_or ns 3 0;
  b = get_or ns 4 0;
  c = get_or ns 5 0;
  d = get_or ns 6 0;
}

-- what a line holds: "the seven numbers in the same columns, 43 bytes a line"; "a number above 65535 makes" a malformed
-- one
unfoldable pub line_in : List ℕ → Option Seven
line_in s = cond (row_of 65535 call_widths s).whole (Some (seven_of (row_of 65535 call_widths s).numbers)) None
