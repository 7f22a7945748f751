use Rattle.std.proofs.Common.{◌≤◌, ◌≡◌, drop}
use Rattle.columns.specs.Steps.{scan_digits}
use Rattle.columns.proofs.reading.number_from.Given as goal

abbrev pub invariant-loop-byte : goal.invariant-loop-byte
invariant-loop-byte l =
    (l.number ≤ l.most) × (scan_digits l.most 0 l.digits ≡ scan_digits l.most l.number (drop l.byte-index l.digits))
