-- The shift sheet (02, order 2): first and last are those of the REQUEST after every list of calls; its lines ascend
-- (order 5); the ninth column is the agreement that is reckoned (order 7); the portions held are those of the two sets
-- (order 8); and a page worked out, byte for byte. Assumes nothing.
use Prim.Native.Nat.{ℕ, zero, suc, ◌<◌}
use native.Mathlib.Omega.{arith}
use mathlib.Core.Path.{◌≡◌, refl, sym, ap}
use mathlib.Core.Logic.{⊎_elim}
use mathlib.Core.Bool.{Bool, true, false, ◌&&◌, ◌||◌, or-false}
use mathlib.Core.List.{List, [], ◌∷◌, ◌++◌, map}
use lib.ListN.{length, get_or}
use Rattle.lists.specs.Search.{first, last, below}
use Rattle.lists.proofs.Tests.{truth}
use Rattle.lists.specs.Order.{Ascending}
use Rattle.lists.proofs.Search.{Member, any_or}
use Rattle.lists.proofs.Order.{ascending_at}
use Rattle.columns.specs.Text.{bytes}
use Rattle.columns.specs.Column.{digits_in, digits}
use Rattle.columns.specs.declared.cells.Cell.TheVariants.{Empty, Number}
use Rattle.columns.specs.Line.{line_of}
use Rattle.columns.specs.Cells.{difference, marks, cell}
use Rattle.sets.specs.Sets.{has, set_of, run, in_either, union, size, least, greatest}
use Rattle.sets.proofs.Laws.{in_set_of, set_of_agree}
use Rattle.sets.proofs.Ends.{least_is, greatest_is}
use Rattle.rules.specs.declared.kind.Kind.{Kind}
use Rattle.rules.specs.declared.kind.Kind.TheVariants.{Lpa, Toa, Twa}
use Rattle.rules.specs.declared.Authority.{Authority}
use Rattle.rules.specs.Board.{Board, exclusive, is_twa, is_in_force, no_authority, authority_no}
use Rattle.rules.specs.Call.{authority_of, minute_of}
use Rattle.rules.specs.Refusals.{is_e, is_w, any_e, any_w}
use Rattle.rules.specs.Plan.{open_board}
use Rattle.rules.specs.Step.{Made, trace, final}
use Rattle.rules.specs.Reckoning.{Reckoned, at_start, agreement, reckoned}
use Rattle.rules.specs.Sheet.{now_of, minutes_in_hand, authority_cells, authority_line, holds, is_held, held_portions}
use Rattle.rules.specs.Sheet.{total_cells, total_line, sheet_lines, page_of, sheet}
use Rattle.rules.specs.Stored.{exclusive_portions, twa_portions}
use Rattle.rules.proofs.Follows.{Held}
use Rattle.rules.proofs.Safety.{list_follows}
use Rattle.rules.proofs.Agreements.{list_agreements}

-- ---- first and last are those of the REQUEST

-- an authority that is as it is reckoned
held_ends : {requests : ℕ} (x : Reckoned) (a : Authority) → Held requests x a
    → (least a.limits ≡ x.first) × (greatest a.limits ≡ x.last)
held_ends x a h = (
  least_is a.limits x.first (omega (arith, h.first, h.last)) (h.from x.first (omega (arith, h.first)))
      (λ q lower. ⊎_elim (λ e. absurd (omega (arith, h.into q e))) (λ e. e) (truth (has q a.limits))),
  greatest_is a.limits x.last h.last (h.from x.last (omega (arith, h.first)))
      (λ q above most. ⊎_elim (λ e. absurd (omega (arith, h.into q e))) (λ e. e) (truth (has q a.limits))),
)

-- THEOREM: on a board opened from any plan text, after any list of calls, the least and the greatest portion of the
-- limits of each live authority are the first and the last of its REQUEST, and its kind is the REQUEST's: read off the
-- calls and answers alone
pub first-last : (text : List ℕ) (ms : List Made) (a : Authority) → Member a (final (open_board text) ms).authorities
    → let x = (reckoned (open_board text).gates at_start (trace (open_board text) ms)).authority (authority_no a) in
    (a.kind ≡ x.kind) × (least a.limits ≡ x.first) × (greatest a.limits ≡ x.last)
first-last text ms a m =
    let h = (list_follows text ms).held a m in
    let e = held_ends _ a h in
    (sym h.kind, e.0, e.1)

-- ---- lines by ascending number (02, order 5)

-- the line of the authority at place i
line_at : (f : Authority → List ℕ) (xs : List Authority) (rest : List (List ℕ)) (i : ℕ) → i < length xs
    → get_or (map f xs ++ rest) i [] ≡ f (get_or xs i no_authority)
line_at f [] rest i l = absurd (omega arith)
line_at f (x ∷ xs) rest zero l = refl
line_at f (x ∷ xs) rest (suc i) l = line_at f xs rest i (omega arith)

-- lines i and j are those of two authorities, each with its number in the first column, and the upper one has the lower
-- number
pub record Ascend (b : Board) (i j : ℕ) : Type 0 where
  pub upper : Authority
  pub lower : Authority
  pub upper_line : get_or (sheet_lines b) i [] ≡ authority_line (now_of b) upper
  pub lower_line : get_or (sheet_lines b) j [] ≡ authority_line (now_of b) lower
  pub ascend : authority_no upper < authority_no lower

-- THEOREM: of any two lines of live authorities the upper has the lower number
pub lines_ascend : (b : Board) → Ascending authority_no b.authorities → (i j : ℕ) → i < j → j < length b.authorities
    → Ascend b i j
unfolding sheet_lines
lines_ascend b u i j l k = record {
  upper = get_or b.authorities i no_authority;
  lower = get_or b.authorities j no_authority;
  upper_line = line_at (authority_line (now_of b)) b.authorities (total_line b ∷ []) i (omega arith);
  lower_line = line_at (authority_line (now_of b)) b.authorities (total_line b ∷ []) j k;
  ascend = ascending_at authority_no no_authority b.authorities u i j l k;
}

-- ---- the ninth column (02, order 7)

-- THEOREM: on a board opened from any plan text, after any list of calls, the ninth column of each live authority's
-- line is the number that its last AGREE or JOIN names, 0 for none: read off the calls and answers alone
pub agreement_shown : (text : List ℕ) (ms : List Made) (now : ℕ) (a : Authority)
    → Member a (final (open_board text) ms).authorities
    → let x = (reckoned (open_board text).gates at_start (trace (open_board text) ms)).authority (authority_no a) in
    get_or (authority_cells now a) 8 Empty ≡ Number (agreement x)
unfolding authority_cells
agreement_shown text ms now a m = ap Number (list_agreements text ms a m).number

-- ---- the portions held (02, order 8)

-- the authority has the portion as an exclusive one, or as a TWA, where it holds it
of_a_sort : (k : Kind) (force has_it : Bool)
    → ((force && exclusive k && has_it) || (force && is_twa k && has_it)) ≡ (force && has_it)
of_a_sort k false has_it = refl
of_a_sort Lpa true has_it = or-false has_it
of_a_sort Toa true has_it = or-false has_it
of_a_sort Twa true has_it = refl

-- THEOREM: the portions held are those of the exclusive authorities in force and those of the TWAs in force
pub held_by_sort : (b : Board) → union (exclusive_portions b) (twa_portions b) ≡ held_portions b.authorities
unfolding union exclusive_portions twa_portions any_e any_w is_e is_w held_portions
held_by_sort b =
    set_of_agree 64 (in_either (exclusive_portions b) (twa_portions b)) (is_held b.authorities)
    (λ p l.
    rw (in_set_of 64 (any_e b) p l, in_set_of 64 (any_w b) p l)
    (any_or (is_e p) (is_w p) (holds p) b.authorities (λ a. of_a_sort a.kind (is_in_force a) (has p a.limits))))

-- ---- a page

-- on day 12 at 0555: an LPA over 2 to 3 whose term of 420 minutes from 2200 the day before is over, its site on; a TOA
-- over 0 to 1, and a TWA over 1 that it has agreed, its site clear; an LPA over 63, pending, with no term; gates 0, 5
-- and 63 blocked
abbrev last_night : Board
last_night = record {
  portions = 64;
  gates = [];
  bookings = [];
  day = 12;
  time = 555;
  last = authority_of 9999;
  blocks = 9223372036854775841;
  authorities =
      record {
        number = authority_of 1;
        kind = Lpa;
        limits = run 2 3;
        officer = 42;
        in_force = true;
        workers_on = true;
        agreed = authority_of 0;
        start = minute_of 11 2200;
        minutes = 420;
      }
      ∷ record {
        number = authority_of 3;
        kind = Toa;
        limits = run 0 1;
        officer = 63;
        in_force = true;
        workers_on = true;
        agreed = authority_of 0;
        start = 0;
        minutes = 0;
      }
      ∷ record {
        number = authority_of 4;
        kind = Twa;
        limits = run 1 1;
        officer = 7;
        in_force = true;
        workers_on = false;
        agreed = authority_of 3;
        start = 0;
        minutes = 0;
      }
      ∷ record {
        number = authority_of 9999;
        kind = Lpa;
        limits = run 63 63;
        officer = 999;
        in_force = false;
        workers_on = false;
        agreed = authority_of 0;
        start = 0;
        minutes = 0;
      }
      ∷ [];
  trains = [];
}

unfoldable pub last_night_bytes : List ℕ
last_night_bytes =
    bytes "       1      1       2       3      42       2       1      -55       0\n"
    ++ bytes "       3      2       0       1      63       2       1                0\n"
    ++ bytes "       4      3       1       1       7       2       2                3\n"
    ++ bytes "    9999      1      63      63     999       1       2                0\n"
    ++ bytes "        4        3                                                      \n"

pub last_night-sheet : sheet last_night ≡ last_night_bytes
unfolding sheet page_of sheet_lines authority_line authority_cells minutes_in_hand difference total_line total_cells
    held_portions line_of cell marks digits digits_in least greatest size first last below has set_of run minute_of
    last_night_bytes bytes
last_night-sheet = refl
