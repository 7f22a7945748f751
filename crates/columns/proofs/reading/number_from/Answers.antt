-- `columns::reading::number_from` meets its contract. The loop's invariant: scanning the rest of the digits behind the
-- number is scanning the whole, and the number is at most `most`. Assumes nothing.
use Rattle.std.proofs.Common.{◌<◌, ◌≡◌, sym, ◌∙◌, arith, length, get_or, None}
use Rattle.columns.specs.Steps.{scan_digits}
use Rattle.columns.proofs.Scan.{Goes, scan_step, scan_stop, scan_end}
use Rattle.columns.proofs.reading.number_from.Goals as goal
use Rattle.columns.proofs.reading.number_from.Goals.{At-loop-byte}

-- a byte that the scan stops at
stops : (l : At-loop-byte) → l.loop-byte.byte-index < length l.args.digits.now
    → (Goes l.args.most l.loop-byte.number (get_or l.args.digits.now l.loop-byte.byte-index 0) → ⊥)
    → None ≡ scan_digits l.args.most 0 l.args.digits.now
stops l h g =
    sym (l.loop-byte.invariant.1
    ∙ scan_stop l.loop-byte.byte-index l.args.digits.now l.args.most l.loop-byte.number h g)

pub returns-in_default : goal.returns-in_default
returns-in_default c = stops (goal.at.returns-in_default c).At-loop-byte (omega arith) (λ g. omega arith)

pub returns-in_default-2 : goal.returns-in_default-2
returns-in_default-2 c = stops (goal.at.returns-in_default-2 c).At-loop-byte (omega arith) (λ g. omega arith)

pub returns-then-from-number : goal.returns-then-from-number
returns-then-from-number c = stops (goal.at.returns-then-from-number c).At-loop-byte (omega arith) (λ g. omega arith)

pub loop-byte-preserved : goal.loop-byte-preserved
loop-byte-preserved c =
    let s =
    scan_step c.loop-byte.byte-index c.args.digits.now c.args.most c.loop-byte.number (omega arith) (omega arith) in
    (omega arith, rw c.from.ensures (c.loop-byte.invariant.1 ∙ s))

pub returns : goal.returns
returns c =
    sym (c.loop-byte.invariant.1
    ∙ scan_end c.loop-byte.byte-index c.args.digits.now c.args.most c.loop-byte.number (omega arith))
