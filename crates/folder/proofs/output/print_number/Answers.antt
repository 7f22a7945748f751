-- The buffer is the number's line.
use Rattle.std.proofs.Common.{rules, refl, subst, OnOk}
use Rattle.std.specs.Io.KnownBytes.{Appends}
use Rattle.folder.proofs.NumberLines.{number_line}
use Rattle.folder.proofs.output.print_number.Goals as goal

pub returns-clause-written : goal.returns-clause-written
returns-clause-written g c =
    let held = g.W.Write.contents in
    let is = number_line c.args.n _ _ _ (rw c.from.ensures at c.write_line.ensures) (search rules) refl in
    subst
    (λ l. OnOk c.print.result (Appends (held c.args.output.now) (held c.print.new.output) l))
    is c.print.ensures.written
