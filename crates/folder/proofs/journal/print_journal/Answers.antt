-- Where the exit status is 0, the journal was printed.
use Rattle.folder.proofs.Folders.{not_failed}
use Rattle.folder.proofs.journal.print_journal.Goals as goal

pub returns : goal.returns
returns g c = not_failed _ _ _ c.end_run.ensures.failed c.print_folder.ensures
