-- The pieces are run one after another to the end of the file.
use Rattle.std.proofs.Common.{arith, rules, true, refl, sym, ◌∙◌}
use Rattle.folder.proofs.FileRuns.{turned, is_more, is_end, is_line, none_yet, one_more, too_long, to_end, to_line}
use Rattle.folder.proofs.pieces.run_pieces.Goals as goal

pub loop-piece-init : goal.loop-piece-init
loop-piece-init g c = none_yet _ _ _

pub loop-piece-preserved : goal.loop-piece-preserved
loop-piece-preserved g c =
    let filled = c.fill-filled.ensures in
    let ran = c.run_piece-next.ensures in
    let done = turned _ _ _ _ _ _ _ _ _ _ _ _ (search rules) filled.count.0 (search rules) ran.ran filled.front
    (filled.end (c.in_ok-check.ensures.ok.0 (refl {a = true}))) c.in_ok-print.ensures.written in
    let more = is_more _ _ _ _ (sym ran.ran.rest ∙ c.in-More.is) in
    one_more _ _ _ _ _ _ _ _ _ _ _ _ c.loop-piece.invariant done more.0 more.1

pub returns-in-End : goal.returns-in-End
returns-in-End g c =
    let filled = c.fill-filled.ensures in
    let ran = c.run_piece-next.ensures in
    let done = turned _ _ _ _ _ _ _ _ _ _ _ _ (search rules) filled.count.0 (search rules) ran.ran filled.front
    (filled.end (c.in_ok-check.ensures.ok.0 (refl {a = true}))) c.in_ok-print.ensures.written in
    let end = is_end _ _ _ _ (sym ran.ran.rest ∙ c.in-End.is) in
    to_end _ _ _ _ _ _ _ _ _ _ _ _ c.loop-piece.invariant done _ refl end.0 end.1

pub returns-in-Malformed : goal.returns-in-Malformed
returns-in-Malformed g c =
    let filled = c.fill-filled.ensures in
    let ran = c.run_piece-next.ensures in
    let done = turned _ _ _ _ _ _ _ _ _ _ _ _ (search rules) filled.count.0 (search rules) ran.ran filled.front
    (filled.end (c.in_ok-check.ensures.ok.0 (refl {a = true}))) c.in_ok-print.ensures.written in
    let line = is_line _ _ _ _ _ (sym ran.ran.rest ∙ c.in-Malformed.is) in
    rw line.1 (to_line _ _ _ _ _ _ _ _ _ _ _ _ c.loop-piece.invariant done c.args.name line.0)

pub returns : goal.returns
returns g c = too_long _ _ _ _ _ _ _ c.loop-piece.invariant (omega (arith, c.loop-piece-test.false))
