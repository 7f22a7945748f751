-- The shift sheet, a page that the outgoing supervisor signs (02, order 2; order 7: the recorded agreement). Assumes
-- nothing.
use Rattle.std.specs.Prelude.{ℕ, ◌+◌, ◌*◌, ◌≡◌, Bool, cond, ◌&&◌, List, [], ◌∷◌, ◌++◌, map, length, drop, ltb}
use Rattle.lists.specs.Search.{any}
use Rattle.columns.specs.declared.cells.Cell.{Cell}
use Rattle.columns.specs.declared.cells.Cell.TheVariants.{Empty, Number}
use Rattle.columns.specs.Cells.{difference, cell_line}
use Rattle.sets.specs.Sets.{has, set_of, size, least, greatest}
use Rattle.rules.specs.declared.Authority.{Authority}
use Rattle.rules.specs.declared.Register.{Register}
use Rattle.rules.specs.Board.{Board, board_of, kind_no, is_in_force, has_workers_on, has_term, authority_no}
use Rattle.rules.specs.Call.{minute_of}

-- ---- a line for a live authority

-- "stage (1 pending, 2 in force)"
abbrev pub stage_no : Authority → ℕ
stage_no a = cond (is_in_force a) 2 1

-- "site (1 on, 2 clear)"
abbrev pub site_no : Authority → ℕ
site_no a = cond (has_workers_on a) 1 2

-- "Now is the last stamp, a day being 1440 minutes."
abbrev pub now_of : Board → ℕ
now_of b = minute_of b.day b.time

-- "Minutes in hand is start plus length, minus now, with a minus sign in overrun; blank where there is no term."
unfoldable pub minutes_in_hand : ℕ → Authority → Cell
minutes_in_hand now a = cond (has_term a) (difference (a.start + a.minutes) now) Empty

-- "number, kind, first, last, officer, stage (1 pending, 2 in force), site (1 on, 2 clear), minutes in hand": first and
-- last are the least and the greatest portion of the limits. Order 7: "Officers taking over a joint site want to know
-- whose agreement it rests on. [..] The sheet gets it as a ninth column, 0 for none"
unfoldable pub authority_cells : ℕ → Authority → List Cell
authority_cells now a =
    Number (authority_no a)
    ∷ Number (kind_no a.kind)
    ∷ Number (least a.limits)
    ∷ Number (greatest a.limits)
    ∷ Number a.officer
    ∷ Number (stage_no a)
    ∷ Number (site_no a)
    ∷ minutes_in_hand now a
    ∷ Number a.agreed.0
    ∷ []

-- "72 columns wide", right-justified; order 7: "kind 7 wide, minutes in hand 9, the other seven 8, lines still 72"
abbrev pub authority_widths : List ℕ
authority_widths = 8 ∷ 7 ∷ 8 ∷ 8 ∷ 8 ∷ 8 ∷ 8 ∷ 9 ∷ 8 ∷ []

-- "each line ended by a line feed"
unfoldable pub authority_line : ℕ → Authority → List ℕ
authority_line now a = cell_line authority_widths (authority_cells now a)

-- ---- the last line

-- "A portion is held if an authority in force has it in its limits."
abbrev pub holds : ℕ → Authority → Bool
holds p a = is_in_force a && has p a.limits

abbrev pub is_held : List Authority → ℕ → Bool
is_held authorities p = any (holds p) authorities

-- the portions held, as a set
unfoldable pub held_portions : List Authority → ℕ
held_portions authorities = set_of 64 (is_held authorities)

-- "The last line counts the portions held and the gates blocked, 9 columns each", "blanks to the full width"
unfoldable pub total_cells : Board → List Cell
total_cells b = Number (size (held_portions b.authorities)) ∷ Number (size b.blocks) ∷ Empty ∷ []

abbrev pub total_widths : List ℕ
total_widths = 9 ∷ 9 ∷ 54 ∷ []

unfoldable pub total_line : Board → List ℕ
total_line b = cell_line total_widths (total_cells b)

-- ---- the page

-- "one line a live authority"; "Lines stand in the register's order."; and the last line
unfoldable pub sheet_lines : Board → List (List ℕ)
sheet_lines b = map (authority_line (now_of b)) b.authorities ++ (total_line b ∷ [])

-- the lines, one behind the other
unfoldable pub page_of : List (List ℕ) → List ℕ
page_of [] = []
page_of (l ∷ ls) = l ++ page_of ls

unfoldable pub sheet : Board → List ℕ
sheet b = page_of (sheet_lines b)

-- "The lent buffer must hold 33 lines of 73 bytes"
abbrev pub is_short : ℕ → Bool
is_short room = ltb room (33 * 73)

-- the whole result of writing the sheet of a register into a buffer: "later bytes stay and the number of lines comes
-- back. 23 when it is shorter, with nothing written."
pub record SheetPost (register : Register) (buffer : List ℕ) (given lines : ℕ) (buffer' : List ℕ) : Type 0 where
  pub answered : given ≡ cond (is_short (length buffer)) 23 0
  pub counted : lines ≡ cond (is_short (length buffer)) 0 (length (sheet_lines (board_of register)))
  pub bytes : buffer'
      ≡ cond (is_short (length buffer)) buffer
      (sheet (board_of register) ++ drop (length (sheet (board_of register))) buffer)
