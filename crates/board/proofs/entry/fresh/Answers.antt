-- `board::entry::fresh` meets its contract. Assumes nothing.
use Rattle.std.proofs.Common.{◌≡◌, refl, rules}
use Rattle.std.proofs.lemmas.List.{take-replicate}
use Rattle.rules.specs.Board.{board_of, no_booking, opened}
use Rattle.board.proofs.OpeningBoard.{none_stored}
use Rattle.board.proofs.entry.fresh.Goals as goal

pub returns : goal.returns
unfolding board_of opened
returns c =
    let none : c.default.result ≡ no_booking = search rules in
    none_stored _ c.args.plan.portions c.args.plan.gates.items
    (rw (
      c.truncate.ensures.items,
      c.from-bookings.ensures.0,
      none,
      take-replicate c.len.result 64 no_booking c.len.ensures.fits,
      c.len.ensures.value,
      c.new.ensures,
      c.new-2.ensures,
    ))
    refl refl refl
