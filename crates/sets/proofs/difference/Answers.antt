-- `sets::difference` meets its contract: the set that it returns has the members of `difference`. Assumes nothing.
use Rattle.std.proofs.Common.{◌∙◌, ◌-◌, ◌^◌, lt_of_le_of_lt}
use lib.Bits.{and_le_l}
use Rattle.sets.specs.Sets.{in_first_only, difference}
use Rattle.sets.proofs.Bits.{has_and, has-not}
use Rattle.sets.proofs.Laws.{is_set_of}
use Rattle.sets.proofs.difference.Goals as goal

pub returns : goal.returns
unfolding difference
returns c =
    let a = c.args.a in
    let b = c.args.b in
    is_set_of 64 _ (in_first_only a b) (lt_of_le_of_lt (and_le_l a _) c.ranges.a.fits)
    (λ p l. has_and p a ((2 ^ 64 - 1) - b) ∙ rw (has-not 64 p b c.ranges.b.fits l))
