-- The calls of a file made piece by piece, from a reader to a writer. Assumes nothing.
use Prim.Native.Nat.{ℕ, ◌+◌, ◌*◌, ◌^◌, ◌≤◌, ◌<◌}
use native.Mathlib.Omega.{arith}
use mathlib.Core.Path.{◌≡◌, refl, sym, ap, subst, ◌∙◌}
use mathlib.Core.List.{List, [], ◌++◌, append_assoc}
use mathlib.Core.Logic.{◌⊎◌, inl, inr}
use lib.ListN.{length, take, length-append}
use lib.Seq.{length-take-le}
use borrow.Author.Tests.{ne_eqb, eq-eqb}
use Rattle.std.specs.Prelude.{Option, Some, None, Ok, Err}
use Rattle.std.specs.Io.KnownBytes.{Consumes, Appends, IsAtEnd}
use Rattle.std.proofs.KnownBytes.{Consumes-nil, Consumes-trans, Appends-nil, Appends-trans}
use Rattle.std.proofs.Common.{Bor}
use Rattle.std.proofs.lemmas.Bool.{cases_lt}
use Rattle.rules.specs.declared.Register.{Register}
use Rattle.rules.specs.Board.{Board, board_of}
use Rattle.calls.specs.Run.{run_of}
use Rattle.calls.proofs.Parts.{going, run_none}
use Rattle.folder.specs.declared.failure.Failure.TheVariants as failure
use Rattle.folder.specs.declared.piece.Rest.{Rest}
use Rattle.folder.specs.declared.piece.Rest.TheVariants.{More, End, Malformed}
use Rattle.folder.specs.Behind.{behind, PieceRan}
use Rattle.folder.specs.Outcomes.{whole_run, Has, IsEndless, RanAll}
use Rattle.folder.proofs.WholeRuns.{Stops, run_on, run_end}

-- ---- the pieces so far

-- after so many pieces of 1024 lines, each of them a call: what was read is what the reader had, the board is that of
-- its run, and the journal of it is written
pub record SoFar (b₀ b : Board) (pieces : ℕ) (had has held holds : Option (List ℕ)) : Type 0 where
  pub read : List ℕ
  pub text : List ℕ
  pub size : length read ≡ 43 * (1024 * pieces)
  pub ran : run_of (1024 * pieces) b₀ read ≡ going b text (1024 * pieces)
  pub consumed : Consumes had has read
  pub written : Appends held holds text

pub none_yet : (b : Board) (had held : Option (List ℕ)) → SoFar b b 0 had had held held
none_yet b had held = record {
  read = [];
  text = [];
  size = refl;
  ran = run_none b [];
  consumed = Consumes-nil had;
  written = Appends-nil held;
}

-- ---- one piece more

-- a piece read, run and written
pub record Turn (b b' : Board) (s : List ℕ) (made : ℕ) (has has' holds holds' : Option (List ℕ)) : Type 0 where
  pub board : b' ≡ (run_of 1024 b s).board
  pub lines : made ≡ (run_of 1024 b s).lines
  pub few : made ≤ 1024
  pub most : length s ≤ 43 * 1024
  pub consumed : Consumes has has' s
  pub at_end : length s < 43 * 1024 → IsAtEnd has'
  pub written : Appends holds holds' (run_of 1024 b s).text

-- by what filling the buffer, running what was read and writing the journal give
module _ (b : Board) (before made n : ℕ) (rest : Rest) (after : Register) (buffer out : List ℕ)
    (has has' holds holds' : Option (List ℕ)) where
  pub turned : length buffer ≡ 43 * 1024 → n ≤ length buffer → 55 * made ≤ 55 * 1024
      → PieceRan before (43 * 1024) b (take n buffer) after made rest out → Consumes has has' (take n buffer)
      → (n < length buffer → IsAtEnd has') → Appends holds holds' (take (55 * made) out)
      → Turn b (board_of after) (take n buffer) made has has' holds holds'
  turned room bound few ran consumed end written =
      let size = length-take-le n buffer bound in
      record {
        board = ran.board;
        lines = ran.lines;
        few = omega (arith, few);
        most = omega (arith, size, bound, room);
        consumed = consumed;
        at_end = λ less. end (omega (arith, less, size, room));
        written = subst (Appends holds holds') ran.journal written;
      }

-- how the file goes on behind a piece, told by its numbers
module _ (before made bytes room : ℕ) where
  pub is_more : behind before made bytes room ≡ More → (43 * made ≡ bytes) × (room ≤ bytes)
  is_more e = grind (arith, e)

  pub is_end : behind before made bytes room ≡ End → (43 * made ≡ bytes) × (bytes < room)
  is_end e = grind (arith, e)

  pub is_line : (line : ℕ) → behind before made bytes room ≡ Malformed line
      → (43 * made ≡ bytes → ⊥) × (line ≡ before + made + 1)
  is_line line e = grind (arith, e)

-- what a reader had is what was read, and the rest, of which there is none at its end
had_all : (had has : Option (List ℕ)) (read : List ℕ) → Consumes had has read
    → (rest : List ℕ) × Has had (read ++ rest) × (IsAtEnd has → rest ≡ [])
had_all None has read c = ([], tt, λ e. refl)
had_all (Some x) None read c = absurd c
had_all (Some x) (Some y) read c = (y, c, λ e. e)

-- the pieces are counted to the end
pub too_long : (b₀ b : Board) (pieces : ℕ) (had has held holds : Option (List ℕ)) → SoFar b₀ b pieces had has held holds
    → 2 ^ 50 ≤ pieces → IsEndless had
too_long b₀ b pieces had has held holds so most =
    let all = had_all had has so.read so.consumed in
    (so.read ++ all.0, all.1, rw (length-append so.read all.0, so.size) (omega arith))

module _ (b₀ b b' : Board) (pieces : ℕ) (s : List ℕ) (made : ℕ) (had has has' held holds holds' : Option (List ℕ))
    (so : SoFar b₀ b pieces had has held holds) (turn : Turn b b' s made has has' holds holds') where
  consumed : Consumes had has' (so.read ++ s)
  consumed = Consumes-trans had has has' so.read s so.consumed turn.consumed

  written : Appends held holds' (so.text ++ (run_of 1024 b s).text)
  written = Appends-trans held holds holds' so.text (run_of 1024 b s).text so.written turn.written

  -- each line of the piece is a call, and it fills its room
  pub one_more : 43 * made ≡ length s → 43 * 1024 ≤ length s → SoFar b₀ b' (pieces + 1) had has' held holds'
  one_more e full =
      let most : length s ≡ 43 * 1024 = omega (arith, turn.most) in
      let lines : (run_of 1024 b s).lines ≡ 1024 = omega (arith, turn.lines) in
      let more : 1024 * (pieces + 1) ≡ 1024 * pieces + 1024 = omega arith in
      record {
        read = so.read ++ s;
        text = so.text ++ (run_of 1024 b s).text;
        size = rw (length-append so.read s, so.size, most) (omega arith);
        ran = rw (more, turn.board) (run_on b₀ b (1024 * pieces) so.read so.text so.size so.ran 1024 s lines);
        consumed = consumed;
        written = written;
      }

  -- where the run ends with the piece: the run of all that the reader had
  last : (rest : List ℕ) → Has had ((so.read ++ s) ++ rest) → Stops s rest
      → let calls = so.read ++ (s ++ rest) in let w = whole_run b₀ calls in
      Has had calls × (w.board ≡ b') × (w.lines ≡ 1024 * pieces + made) × Appends held holds' w.text
      × (length calls ≡ 43 * (1024 * pieces) + (length s + length rest))
  last rest all stop =
      let w = run_end b₀ b (1024 * pieces) so.read so.text so.size so.ran s rest turn.most stop in (
        subst (Has had) (append_assoc so.read s rest) all,
        rw turn.board w.0,
        rw turn.lines w.2,
        rw w.1 written,
        rw (length-append so.read (s ++ rest), so.size, length-append s rest),
      )

  -- each line of the piece is a call, and it does not fill its room
  pub to_end : (r : Register) → board_of r ≡ b' → 43 * made ≡ length s → length s < 43 * 1024
      → RanAll b₀ had held holds' (Ok r)
  to_end r is e less =
      let all = had_all had has' (so.read ++ s) consumed in
      let none = all.2 (turn.at_end less) in
      let l = last all.0 all.1 (inl none) in
      let size : 43 * (1024 * pieces + made) ≡ 43 * (1024 * pieces) + (length s + length all.0) =
      omega (arith, e, ap length none) in
      (so.read ++ (s ++ all.0), l.0, record { board = is ∙ sym l.1; all = rw (l.2, l.4) (eq-eqb _ _ size) }, l.3)

  -- a line of the piece is none: it is the last piece, or has more lines than calls
  stops : (rest : List ℕ) → (43 * made ≡ length s → ⊥) → (IsAtEnd has' → rest ≡ []) → Stops s rest
  unfolding run_of
  stops rest part none = go (cases_lt (length s) (43 * 1024))
    where
      go : ((length s < 43 * 1024) ⊎ (43 * 1024 ≤ length s)) → Stops s rest
      go (inl less) = inl (none (turn.at_end less))
      go (inr full) =
          inr (omega (arith, full, turn.most), λ all. part (omega (arith, all, turn.lines, full, turn.most)))

  beyond : (rest : List ℕ) → (43 * made ≡ length s → ⊥) → Stops s rest
      → 43 * (1024 * pieces + made) ≡ 43 * (1024 * pieces) + (length s + length rest) → ⊥
  beyond rest part (inl none) e = part (omega (arith, e, ap length none))
  beyond rest part (inr (full, other)) e = part (omega (arith, e, full, turn.few))

  pub to_line : (name : Bor (List ℕ)) → (43 * made ≡ length s → ⊥)
      → RanAll b₀ had held holds' (Err (failure.Malformed name (1024 * pieces + made + 1)))
  to_line name part =
      let all = had_all had has' (so.read ++ s) consumed in
      let stop = stops all.0 part all.2 in
      let l = last all.0 all.1 stop in
      let short = ne_eqb _ _ (beyond all.0 part stop) in (
        so.read ++ (s ++ all.0),
        l.0,
        record { line = ap (λ (n : ℕ). n + 1) (sym l.2); part = rw (l.2, l.4) short },
        l.3,
      )
