-- `calls::journal::write_journal` meets its contract: a line that holds a call is 43 bytes long, and its first 42 with
-- the numbers written behind them are the journal line. Assumes nothing.
use Rattle.std.proofs.Common.{◌≤◌, arith, rules, length, length-take}
use Rattle.calls.proofs.CallLines.{call_length}
use Rattle.calls.proofs.Journals.{journal_filled}
use Rattle.calls.proofs.journal.write_journal.Goals as goal

pub slice_bounds-copy_from_slice-end : goal.slice_bounds-copy_from_slice-end
slice_bounds-copy_from_slice-end c =
    let long : 42 ≤ length c.args.text.now = omega (arith, call_length _ _ c.requires.0) in search rules

pub copy_from_slice-requires : goal.copy_from_slice-requires
copy_from_slice-requires c = omega (arith, length-take 42 c.args.text.now, call_length _ _ c.requires.0)

pub returns : goal.returns
returns c =
    let w = c.write_line in
    let wrote =
    rw (c.from.ensures, c.from-2.ensures, c.answer_number.ensures, c.allotted_number.ensures) at w.ensures in
    journal_filled _ _ _ _ _ _ _ _ wrote c.requires.0 c.copy_from_slice.ensures.after (omega arith) (search rules)
    (search rules)
