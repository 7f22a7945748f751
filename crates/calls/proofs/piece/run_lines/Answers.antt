-- `calls::piece::run_lines` meets its contract. The loop's invariant: the register is one that calls return, and the
-- run of the whole text is the lines written so far with the run of what is left behind them. Assumes nothing.
use Rattle.std.proofs.Common.{sym, ◌∙◌, ◌*◌, arith, length-drop, ap, length}
use Rattle.columns.proofs.Chunks.{next_line}
use Rattle.calls.proofs.Running.{so_far_call, done_over, done_malformed}
use Rattle.calls.proofs.piece.run_lines.Goals as goal

pub returns-in_default : goal.returns-in_default
returns-in_default c =
    let i = c.loop-line.invariant in
    let s = c.in-Some.ensures.steps in
    let next = next_line 43 _ c.args.text.now _ _ _ (omega arith) i.2 s.0.1.0 (s.0.1.1 ∙ i.3) in
    let room = i.4 in
    let count = s.1 in
    done_malformed _ _ _ _ _ _ i.1 i.0 _ (omega arith) next.0 (sym c.read_line.ensures ∙ c.in_default.is)

pub loop-line-preserved : goal.loop-line-preserved
loop-line-preserved c =
    let i = c.loop-line.invariant in
    let s = c.in-Some.ensures.steps in
    let next = next_line 43 _ c.args.text.now _ _ _ (omega arith) i.2 s.0.1.0 (s.0.1.1 ∙ i.3) in
    let room = i.4 in
    let count = s.1 in
    let t = c.take-answer.ensures in
    let w = c.write_journal in (
      t.kept,
      so_far_call _ _ _ _ _ _ _ i.1 c.in-Some-read_line.seven _ _ w.new.out (omega arith) next.2 (omega arith) next.0
          (sym c.read_line.ensures ∙ c.in-Some-read_line.is) t.board w.auto.out (w.ensures ∙ rw (t.answered, t.number)),
      next.1,
      s.0.0 ∙ i.3,
      omega arith,
    )

pub returns : goal.returns
returns c =
    let i = c.loop-line.invariant in
    let room = i.4 in
    done_over _ _ _ _ _ _ i.1 i.0
    (λ h. omega (
      arith,
      (c.in-None.ensures.steps (omega arith)).1.0,
      i.3,
      ap length i.2,
      length-drop (43 * c.loop-line.lines) c.args.text.now,
    ))
