-- `board::entry::write_journal` meets its contract: nine numbers in columns of six. Assumes nothing.
use Rattle.std.proofs.Common.{rules}
use Rattle.rules.specs.Answer.{answer_no, number_no}
use Rattle.board.proofs.JournalWritten.{journal_written}
use Rattle.board.proofs.entry.write_journal.Goals as goal

pub returns : goal.returns
returns c =
    journal_written c.args.s (answer_no c.args.answer) (number_no c.args.answer) _ _ _
    (rw (← c.answer_number.ensures, ← c.allotted_number.ensures) (search rules)) c.requires
    (rw (
      c.from.ensures,
      c.from-2.ensures,
      c.from-3.ensures,
      c.from-4.ensures,
      c.from-5.ensures,
      c.from-6.ensures,
      c.from-7.ensures,
      c.from-8.ensures,
      c.from-9.ensures,
      c.answer_number.ensures,
      c.allotted_number.ensures,
    ) at c.write_line.ensures)
