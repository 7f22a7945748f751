-- A refused plan's answer is printed, or the journal on the board of an accepted one.
use Rattle.folder.specs.Outcomes.{journal_of}
use Rattle.folder.proofs.Folders.{accepted, refused}
use Rattle.folder.proofs.journal.print_folder.Goals as goal
use Rattle.folder.proofs.journal.print_folder.Goals.{in-Some+in_ok-run_calls, in_default}

pub returns : goal.returns
returns g c =
    let o = c.in_ok-board.ensures.opened in
    elim c.match-branch-2.branch [
      | in-Some+in_ok-run_calls w ↦ let ran = w.in_ok-run_calls.ensures in
          rw w.output-is (accepted journal_of o.0 _ _ _ _ ran.0 (rw w.in-Some.is at o.1) ran.2.all ran.3)
      | in_default w ↦ rw w.output-is (refused journal_of o.0 _ _ (rw w.in_default.is at o.1))
    ]
