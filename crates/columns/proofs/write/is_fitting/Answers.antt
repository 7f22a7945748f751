-- `columns::write::is_fitting` meets its contract: its table is that of the powers of ten, and ten columns take every
-- u32. Assumes nothing.
use Rattle.std.proofs.Common.{arith, sym}
use native.Mathlib.Nat.{pow-le-pow_right}
use Rattle.columns.proofs.Writing.{fits_below}
use Rattle.columns.proofs.Filling.{powers, fits_table}
use Rattle.columns.proofs.write.is_fitting.Goals as goal

pub returns-in-Some : goal.returns-in-Some
unfolding powers
returns-in-Some c =
    let entry = c.in-Some.ensures.lookup.3 in
    rw (entry.1 0) (fits_table 9 c.args.width c.args.n (omega (arith, entry.0)))

pub returns-in-None : goal.returns-in-None
returns-in-None c =
    let w = c.args.width in
    let wide = c.in-None.ensures.lookup.3 in
    sym (fits_below w c.args.n (omega (arith, wide))
    (omega (arith, wide, pow-le-pow_right {n = 10} (omega arith) {i = 10} {j = w} (omega (arith, wide)))))
