-- `worksites::lines::write_lines` meets its contract. The loop's invariant: the lines of the first i gaps stand at the
-- front. Assumes nothing.
use Rattle.std.proofs.Common.{◌∙◌, arith, ap, length, get_or}
use Rattle.rules.specs.Worksites.{gap_line, gap_lines}
use Rattle.rules.proofs.Gaps.{gap_17}
use Rattle.rules.proofs.PrintedLines.{printed_none, listed_next, listed_all}
use Rattle.worksites.proofs.lines.write_lines.Goals as goal

pub loop-i-init : goal.loop-i-init
loop-i-init c = printed_none _

pub loop-i-preserved : goal.loop-i-preserved
loop-i-preserved c =
    let l = c.loop-i in
    let xs = c.args.gaps.now in
    let long = gap_17 c.args.kind c.args.stated (get_or xs l.i 0) (omega (arith, c.ranges.stated))
    (c.requires.1 l.i 0 c.loop-i-test.true) in
    listed_next (gap_line c.args.kind c.args.stated) 17 xs c.args.lines.now l.i l.lines l.invariant c.loop-i-test.true
    (omega (arith, c.requires.0)) 0 _ c.write_line.ensures (ap length c.write_line.ensures ∙ long)

pub returns : goal.returns
unfolding gap_lines
returns c =
    let l = c.loop-i in
    let all = listed_all (gap_line c.args.kind c.args.stated) 17 c.args.gaps.now c.args.lines.now l.i l.lines
    l.invariant c.loop-i-test.false l.auto.i-end in
    all.bytes ∙ rw all.size
