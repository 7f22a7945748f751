-- The lines of the live authorities, one authority a turn, and the whole page. Assumes nothing.
use mathlib.Core.Path.{◌≡◌, refl, sym, ap, subst, ◌∙◌}
use mathlib.Core.Bool.{Bool, true, false, cond}
use mathlib.Core.List.{List, [], ◌∷◌, ◌++◌, map, Memᴰ}
use Prim.Native.Nat.{ℕ, ◌+◌, ◌-◌, ◌*◌, ◌≤◌, ◌<◌}
use native.Mathlib.Omega.{arith}
use borrow.Author.Tests.{lt-ltb}
use lib.ListN.{length, drop, get_or, length-append, length-drop, length-map}
use borrow.Rule.Slice.PartMut.{put_mid}
use Rattle.lists.proofs.Search.{member_at}
use Rattle.columns.specs.declared.cells.Cell.{Cell}
use Rattle.columns.specs.Cells.{cell_line, cells_fit}
use Rattle.rules.specs.declared.Authority.{Authority}
use Rattle.rules.specs.declared.Register.{Register}
use Rattle.rules.specs.Board.{board_of}
use Rattle.rules.specs.Call.{minute_of}
use Rattle.rules.specs.Step.{Kept}
use Rattle.rules.specs.Sheet.{authority_cells, authority_widths, authority_line, total_cells, total_widths, total_line}
use Rattle.rules.specs.Sheet.{sheet_lines, page_of, sheet, is_short, SheetPost}
use Rattle.rules.proofs.PrintedLines.{Printed, printed_next, Listed, listed_next}
use Rattle.sheet.proofs.Fitting.{authority_73, total_73}

-- ---- the live authorities

module _ (r : Register) (k : Kept r) (xs : List Authority) (e : xs ≡ r.authorities.items) where
  -- there are 32 at most
  pub few : length xs ≤ 32
  unfolding board_of
  few = rw e k.once.live

  -- and the term of each starts within the days
  pub starts_at : (i : ℕ) (d : Authority) → i < length xs → (get_or xs i d).start < 10000 * 1440
  unfolding board_of
  starts_at i d h = k.starts (get_or xs i d) (subst (Memᴰ (get_or xs i d)) e (member_at d xs i h))

-- ---- a line on the page

module _ (xs : List Authority) (now i : ℕ) (page₀ page : List ℕ)
    (b : Listed (authority_line now) 73 xs page₀ i page) where
  -- there is room for one line more
  pub listed_room : i < length xs → length xs ≤ 32 → 2409 ≤ length page₀ → 73 * i + 73 ≤ length page
  listed_room h few room = omega (arith, b.long)

  -- and it is written
  pub line_written : i < length xs → length xs ≤ 32 → 2409 ≤ length page₀
      → (d : Authority) (cells : List Cell) (line : List ℕ)
      → (cells ≡ authority_cells now (get_or xs i d)) × (cells_fit authority_widths cells ≡ true)
      → line ≡ cell_line authority_widths cells
      → Listed (authority_line now) 73 xs page₀ (i + 1) (put_mid (73 * i) (73 * i + 73 - 73 * i) page line)
  unfolding authority_line
  line_written h few room d cells line c e =
      listed_next (authority_line now) 73 xs page₀ i page b h (omega arith) d line
      (e ∙ ap (cell_line authority_widths) c.0) (ap length e ∙ authority_73 cells c.1)

-- ---- the whole page

-- a buffer that is too short
pub sheet_short : (r : Register) (buffer : List ℕ) → length buffer < 2409 → SheetPost r buffer 23 0 buffer
sheet_short r buffer h =
    let e = lt-ltb (length buffer) 2409 h in record { answered = rw e; counted = rw e; bytes = rw e }

module _ (r : Register) (buffer page : List ℕ) (k : Kept r) (h : 2409 ≤ length buffer)
    (long : length page ≡ length buffer) (live : ℕ) (n : live ≡ length r.authorities.items) where
  abbrev lines : List (List ℕ)
  lines = map (authority_line (minute_of r.day r.time)) r.authorities.items

  -- there is room for the last line
  pub page_room : 73 * live + 73 ≤ length page
  page_room = omega (arith, few r k r.authorities.items refl)

  -- where the lines of the live authorities stand on the page, and the last line is written, the sheet is
  pub sheet_printed : page ≡ page_of lines ++ drop (73 * length lines) buffer → (cells : List Cell) (last : List ℕ)
      → (cells ≡ total_cells (board_of r)) × (cells_fit total_widths cells ≡ true) → last ≡ cell_line total_widths cells
      → (length (sheet (board_of r)) ≡ 73 * (live + 1))
      × (put_mid (73 * live) (73 * live + 73 - 73 * live) page last
      ≡ sheet (board_of r) ++ drop (73 * (live + 1)) buffer)
  unfolding board_of total_line sheet_lines sheet
  sheet_printed e cells last c q =
      let count : length lines ≡ live =
      length-map r.authorities.items (authority_line (minute_of r.day r.time)) ∙ sym n in
      let bytes : page ≡ page_of lines ++ drop (73 * live) buffer = e ∙ rw count in
      let whole : length (page_of lines) + (length buffer - 73 * live) ≡ length buffer =
      sym (simp (length-append, length-drop) at (ap length bytes)) ∙ long in
      let room : 73 * live ≤ length buffer = omega (arith, page_room) in
      let all : Printed lines (73 * live) buffer page = record { size = omega arith; long = long; bytes = bytes } in
      let is : lines ++ (last ∷ []) ≡ sheet_lines (board_of r) =
      ap (λ (t : List ℕ). lines ++ (t ∷ [])) (q ∙ ap (cell_line total_widths) c.0) in
      let at : 73 * live + 73 ≡ 73 * (live + 1) = omega arith in
      let printed = printed_next 73 lines last (73 * live) buffer page (omega (arith, page_room)) all
      (ap length q ∙ total_73 cells c.1) in (
        rw (← is) printed.size ∙ at,
        rw (← is, ← at) printed.bytes,
      )

-- the sheet has a line for each live authority, and one more
pub lines_live : (r : Register) → length (sheet_lines (board_of r)) ≡ length r.authorities.items + 1
unfolding board_of sheet_lines
lines_live r = simp (length-append, length-map)

-- ---- what callers cite

-- a page has 33 lines at most
pub lines_few : {r : Register} {buffer buffer' : List ℕ} {given lines : ℕ} → Kept r
    → SheetPost r buffer given lines buffer' → lines ≤ 33
lines_few {r} {buffer} k p = subst (λ (n : ℕ). n ≤ 33) (sym p.counted) (few (is_short (length buffer)))
  where
    most : length (sheet_lines (board_of r)) ≤ 33
    most = unfold sheet_lines in simp (length-append, length-map) (omega (arith, k.once.live))

    few : (t : Bool) → cond t 0 (length (sheet_lines (board_of r))) ≤ 33
    few true = omega arith
    few false = most
