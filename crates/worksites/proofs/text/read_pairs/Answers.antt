-- `worksites::text::read_pairs` meets its contract. The loop's invariant: the whole is what is read so far, and then
-- what the lines left hold. Assumes nothing.
use Rattle.std.proofs.Common.{arith, ap, sym, length, length-drop, ◌*◌, ◌∙◌}
use Rattle.columns.proofs.Chunks.{next_line}
use Rattle.columns.proofs.LinesRead.{line_more, line_malformed, lines_over}
use Rattle.worksites.specs.ListText.{pair_in, pairs_in}
use Rattle.worksites.proofs.PairLines.{no_pair}
use Rattle.worksites.proofs.text.read_pairs.Goals as goal

pub returns-in_default : goal.returns-in_default
unfolding pairs_in
returns-in_default c =
    let i = c.loop-line.invariant in
    let s = c.in-Some.ensures.steps in
    let next = next_line 17 _ c.args.text.now _ _ _ (omega arith) i.1 s.0.1.0 (s.0.1.1 ∙ i.2) in
    line_malformed pair_in 17 34 _ _ i.0 _ next.0 (sym c.read_pair.ensures ∙ c.in_default.is)

pub loop-line-preserved : goal.loop-line-preserved
loop-line-preserved c =
    let i = c.loop-line.invariant in
    let s = c.in-Some.ensures.steps in
    let next = next_line 17 _ c.args.text.now _ _ _ (omega arith) i.1 s.0.1.0 (s.0.1.1 ∙ i.2) in
    let room = i.3 in
    let count = s.1 in
    let more = line_more pair_in 17 34 _ _ i.0 _ _ next.0 (sym c.read_pair.ensures ∙ c.in-Some-read_pair.is)
    (omega arith) in
    rw c.push.ensures.len (rw c.push.ensures.items more, next.1, s.0.0 ∙ i.2, omega arith)

pub returns : goal.returns
unfolding pairs_in
returns c =
    let i = c.loop-line.invariant in
    let room = i.3 in
    let behind = length-drop (17 * length c.loop-line.pairs.items) c.args.text.now in
    lines_over pair_in 17 34 _ _ i.0 (omega arith) no_pair
    (λ h. omega (arith, (c.in-None.ensures.steps (omega arith)).1.0, i.2, ap length i.1, behind))
