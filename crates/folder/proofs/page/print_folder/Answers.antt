-- A refused plan's answer is printed, or the sheet of the board of an accepted one after the calls.
use Rattle.folder.specs.Outcomes.{sheet_of}
use Rattle.folder.proofs.Folders.{accepted, refused}
use Rattle.folder.proofs.page.print_folder.Goals as goal
use Rattle.folder.proofs.page.print_folder.Goals.{in-Some+in_ok-print_page_after, in_default}

pub returns : goal.returns
returns g c =
    let o = c.in_ok-board.ensures.opened in
    elim c.match-branch-2.branch [
      | in-Some+in_ok-print_page_after w ↦ let ran = w.in_ok-print_page_after.ensures in
          rw w.output-is (accepted sheet_of o.0 _ _ _ _ ran.0 (rw w.in-Some.is at o.1) ran.2 ran.3)
      | in_default w ↦ rw w.output-is (refused sheet_of o.0 _ _ (rw w.in_default.is at o.1))
    ]
