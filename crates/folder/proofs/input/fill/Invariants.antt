-- No more is read than the buffer holds, and its front is what was read. The measure is how much room is left.
use Rattle.std.proofs.Common.{length, take, ◌-◌, ◌≤◌}
use Rattle.std.specs.Io.KnownBytes.{Consumes}
use Rattle.folder.proofs.input.fill.Given as goal

abbrev pub invariant-loop-bytes : goal.invariant-loop-bytes
invariant-loop-bytes g l =
    (l.bytes ≤ length l.buf) ×
    Consumes (g.F.Read.remaining l.initial.file) (g.F.Read.remaining l.file) (take l.bytes l.buf)

abbrev pub decreases-loop-bytes : goal.decreases-loop-bytes
decreases-loop-bytes g l = length l.initial.buf - l.bytes
