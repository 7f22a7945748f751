-- A call on a register by value, and its line: a buffer long enough is as good as one of 55 bytes. Assumes nothing.
use Prim.Native.Nat.{ℕ, ◌≤◌, ◌<◌}
use native.Mathlib.Omega.{arith}
use mathlib.Core.Path.{◌≡◌, sym, refl, ◌∙◌}
use mathlib.Core.List.{List, ◌++◌}
use lib.ListN.{length, drop}
use borrow.Author.Tests.{le-ltb, ne_eqb}
use Rattle.std.specs.Prelude.{Err}
use Rattle.rules.specs.declared.refusal.Refusal.TheVariants.{ShortLine}
use Rattle.rules.specs.Answer.{answer_no, number_no}
use Rattle.rules.specs.declared.Seven.{Seven}
use Rattle.rules.specs.declared.Called.{Called}
use Rattle.rules.specs.declared.Register.{Register}
use Rattle.rules.specs.Board.{Board, board_of}
use Rattle.rules.specs.Refusals.{lowest, conditions, answer}
use Rattle.rules.specs.Journal.{journal_line}
use Rattle.rules.specs.Step.{Kept, after, allotted, CallPost}
use Rattle.rules.proofs.Answers.{refused_same, refused_none, short_answer, short_line, long_line}
use Rattle.board.specs.Taking.{with_room, TakePost}

-- ---- a buffer long enough is as good as one of 55 bytes

pub room-answer : (b : Board) (s : Seven) (room : ℕ) → 55 ≤ room → answer b s room ≡ with_room b s
unfolding answer conditions lowest
room-answer b s room h = rw (le-ltb room 55 h)

room_after : (b : Board) (s : Seven) (room : ℕ) → 55 ≤ room → after b s room ≡ after b s 55
unfolding after
room_after b s room h = rw (room-answer b s room h)

room-allotted : (b : Board) (s : Seven) (room : ℕ) → 55 ≤ room → allotted b s room ≡ allotted b s 55
unfolding allotted
room-allotted b s room h = rw (room-answer b s room h)

-- ---- the whole call

pub called_short : (r : Register) (s : Seven) (buffer : List ℕ) → Kept r → length buffer < 55
    → CallPost r s buffer (record { register = r; answer = Err ShortLine }) buffer
called_short r s buffer k h =
    let one : answer (board_of r) s (length buffer) ≡ 1 = short_answer (board_of r) s (length buffer) h in
    let no : answer (board_of r) s (length buffer) ≡ 0 → ⊥ = λ z. omega arith in
    record {
      board = sym (refused_same (board_of r) s (length buffer) no);
      answered = sym one;
      number = sym (refused_none (board_of r) s (length buffer) no);
      numbered = rw (ne_eqb (answer (board_of r) s (length buffer)) 0 no);
      line = sym (short_line s 1 0 buffer h);
      unchanged = λ e. refl;
      kept = k;
    }

pub called_long : (r : Register) (s : Seven) (buffer buffer' : List ℕ) (out : Called) → 55 ≤ length buffer
    → TakePost r s out.register out.answer
    → buffer' ≡ journal_line s (answer_no out.answer) (number_no out.answer) ++ drop 55 buffer
    → CallPost r s buffer out buffer'
called_long r s buffer buffer' out h p e = record {
  board = p.board ∙ sym (room_after (board_of r) s (length buffer) h);
  answered = p.answered ∙ sym (room-answer (board_of r) s (length buffer) h);
  number = p.number ∙ sym (room-allotted (board_of r) s (length buffer) h);
  numbered = rw (room-answer (board_of r) s (length buffer) h) p.numbered;
  line = e ∙ sym (long_line s (answer_no out.answer) (number_no out.answer) buffer h);
  unchanged = p.unchanged;
  kept = p.kept;
}
