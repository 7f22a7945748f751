-- `effects::running::insert_train` meets its contract. Assumes nothing.
use Rattle.std.proofs.Common.{◌≡◌, ◌∙◌, lit<}
use Rattle.std.specs.List.{position_or_len}
use Rattle.std.proofs.lemmas.List.Sums.{prefix_len-le-length}
use Rattle.rules.specs.Board.{train_no}
use Rattle.effects.specs.Room.{is_above}
use Rattle.effects.proofs.Inserting.{place_of, insert_by-insert}
use Rattle.effects.proofs.running.insert_train.Goals as goal
use Rattle.effects.proofs.running.insert_train.Goals.{After-unwrap_or-place}

-- the place is that of the first train with a higher number, or the end
place_is : (c : After-unwrap_or-place)
    → c.unwrap_or-place.result ≡ position_or_len (is_above c.args.t.number) c.args.trains.now.items
place_is c =
    c.unwrap_or-place.ensures
    ∙ rw (c.first_above.ensures, c.deref.ensures.0, c.len.ensures.value)
    (place_of (is_above c.args.t.number) c.args.trains.now.items)

pub insert-requires : goal.insert-requires
insert-requires c =
    (lit< tt, (rw (place_is (goal.at.insert-requires c).After-unwrap_or-place) (prefix_len-le-length _ _), c.requires))

pub returns : goal.returns
returns c =
    rw (insert_by-insert train_no c.args.t)
    (rw (place_is (goal.at.returns c).After-unwrap_or-place) at c.insert.ensures.items)
