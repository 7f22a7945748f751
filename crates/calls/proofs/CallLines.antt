-- Laws of a call line: what it is where it holds a call. Assumes nothing.
use Prim.Native.Nat.{ℕ, zero, suc, ◌+◌}
use native.Mathlib.Omega.{arith}
use mathlib.Core.Path.{◌≡◌, refl, sym}
use mathlib.Core.Bool.{true}
use mathlib.Core.List.{List, [], ◌∷◌}
use lib.ListN.{length, drop, get_or, replicate, drop_of_length-le}
use lib.Seq.{drop-cons}
use Rattle.columns.specs.Line.{all_fit, fit_of}
use Rattle.columns.specs.Reading.{row_of}
use Rattle.columns.proofs.Writing.{fits_below, total, line-length}
use Rattle.columns.proofs.Rows.{at_most, IsLine, line_read}
use Rattle.rules.specs.declared.Seven.{Seven}
use Rattle.std.specs.Prelude.{Some}
use Rattle.calls.specs.CallLine.{call_widths, seven_of, line_in}

-- ---- a line that holds a call

-- the seven numbers of a call, in the order of its line
abbrev pub numbers_of : Seven → List ℕ
numbers_of c = c.day ∷ c.time ∷ c.call ∷ c.a ∷ c.b ∷ c.c ∷ c.d ∷ []

-- k numbers from place i on
gets : ℕ → ℕ → List ℕ → List ℕ
gets zero i ns = []
gets (suc k) i ns = get_or ns i 0 ∷ gets k (suc i) ns

gets_all : (k i : ℕ) (ns : List ℕ) → i + k ≡ length ns → gets k i ns ≡ drop i ns
unfolding gets
gets_all zero i ns e = sym (drop_of_length-le ns {i = i} (omega arith))
gets_all (suc k) i ns e = rw (drop-cons ns i 0 (omega arith), gets_all k (suc i) ns (omega arith))

-- seven numbers are those of the call that they make
seven_numbers : (ns : List ℕ) → length ns ≡ 7 → numbers_of (seven_of ns) ≡ ns
unfolding gets
seven_numbers ns e = gets_all 7 0 ns (sym e)

-- a line that holds a call is the line of the call's numbers, none above 65535
pub call_line : (s : List ℕ) (c : Seven) → line_in s ≡ Some c → IsLine 65535 call_widths s (numbers_of c)
unfolding line_in
call_line s c e =
    let ns = (row_of 65535 call_widths s).numbers in
    let whole : (row_of 65535 call_widths s).whole ≡ true = grind (arith, e) in
    let same : seven_of ns ≡ c = grind (arith, e) in
    let r = line_read 65535 call_widths s whole in
    rw (← same, seven_numbers ns r.count) r

-- numbers of 16 bits fit columns of six
pub six_fit : (ns : List ℕ) → at_most 65535 ns ≡ true → all_fit (replicate (length ns) 6) ns ≡ true
unfolding at_most fit_of
six_fit [] h = refl
six_fit (n ∷ ns) h = grind (arith, fits_below 6 n, six_fit ns)

-- a line that holds a call is 43 bytes long
pub call_length : (s : List ℕ) (c : Seven) → line_in s ≡ Some c → length s ≡ 43
unfolding total
call_length s c e =
    let l = call_line s c e in
    rw l.text (line-length call_widths (numbers_of c) (six_fit (numbers_of c) l.small))
