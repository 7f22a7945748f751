-- A line of the page made cell by cell in a lent buffer. Assumes nothing.
use mathlib.Core.Path.{◌≡◌, refl, sym, ap, ◌∙◌}
use mathlib.Core.Bool.{Bool, true}
use mathlib.Core.List.{List, [], ◌∷◌, ◌++◌}
use Prim.Native.Nat.{ℕ, suc, ◌+◌, ◌-◌, ◌≤◌, ◌<◌}
use native.Mathlib.Omega.{arith}
use lib.ListN.{length, take, drop, set, length-append, length-drop, drop_of_length-le}
use lib.Seq.{length-take-le, set_split}
use borrow.Rule.Slice.PartMut.{mid_of, put_mid}
use Rattle.columns.proofs.Writing.{part_length, part_back, total}
use Rattle.columns.specs.declared.cells.Cell.{Cell}
use Rattle.columns.specs.Cells.{cell, cell_line, cells_fit, Filled}
use Rattle.columns.proofs.CellsLaws.{cell-length, cell_line-length, cells_next, cell_line_step}
use Rattle.columns.specs.Line.{line_of}

-- where cells stand in at bytes of the line: those still to come fit, there is room for them and for the line feed, and
-- the whole line is what stands there and theirs
pub record Begun (ws : List ℕ) (cells : List Cell) (whole : List ℕ) (at : ℕ) (line : List ℕ) : Type 0 where
  pub long : length line ≡ at + (total ws + 1)
  pub fit : cells_fit ws cells ≡ true
  pub so_far : whole ≡ take at line ++ cell_line ws cells

pub begun : (ws : List ℕ) (cells : List Cell) (line : List ℕ) → length line ≡ length (cell_line ws cells)
    → cells_fit ws cells ≡ true → Begun ws cells (cell_line ws cells) 0 line
begun ws cells line l f = record { long = l ∙ cell_line-length ws cells f ∙ omega arith; fit = f; so_far = refl }

-- one cell more, in the bytes from at on
module _ (w at : ℕ) (c : Cell) (ws : List ℕ) (cells : List Cell) (whole line : List ℕ)
    (b : Begun (w ∷ ws) (c ∷ cells) whole at line) where
  -- there is room for it, and for the line feed
  pub begun_room : at + w < length line
  unfolding total
  begun_room = omega (arith, b.long)

  pub begun_next : (part : List ℕ) (answer : Bool) → Filled (mid_of at (at + w - at) line) c part answer
      → Begun ws cells whole (at + w) (put_mid at (at + w - at) line part)
  unfolding total
  begun_next part answer p =
      let n = cells_next w c ws cells b.fit in
      let end : at + w ≤ length line = omega (arith, begun_room) in
      let l : length (mid_of at (at + w - at) line) ≡ w = part_length at (at + w) w line end refl in
      let q : part ≡ cell (length (mid_of at (at + w - at) line)) c = p.bytes ∙ rw (l, n.0) in
      let put : put_mid at (at + w - at) line part ≡ take at line ++ (cell w c ++ drop (at + w) line) =
      part_back (λ (m : ℕ). cell m c) at (at + w) w line part end refl q in
      let size : length (take at line ++ (cell w c ++ drop (at + w) line)) ≡ length line =
      simp (length-append, length-drop, length-take-le at line (omega arith), cell-length w c n.0) (omega arith) in
      record {
        long = ap length put ∙ size ∙ b.long ∙ omega arith;
        fit = n.1;
        so_far = b.so_far ∙ cell_line_step w c ws cells at line _ end n.0 put;
      }

-- the line feed, after the last cell
pub begun_end : (ws : List ℕ) (cells : List Cell) (whole : List ℕ) (at : ℕ) (line : List ℕ) → ws ≡ []
    → Begun ws cells whole at line → set line at 10 ≡ whole
unfolding line_of total
begun_end ws cells whole at line e b =
    let n : length line ≡ at + 1 = rw e at b.long in
    let l : length line ≤ suc at = omega arith in
    set_split line at 10 (omega arith) ∙ rw (drop_of_length-le line l) (sym (rw e at b.so_far))
