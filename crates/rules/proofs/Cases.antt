-- The ten cases of 01 marked E, and those of 02's orders 1, 4, 5, 6 and 7, from the rules by computation, in one joint
-- theorem. Assumes nothing.
use Prim.Native.Nat.{ℕ}
use mathlib.Core.Path.{◌≡◌, refl}
use mathlib.Core.List.{List, [], ◌∷◌, ◌++◌, map}
use lib.ListN.{replicate}
use Rattle.lists.specs.Search as Search
use Rattle.lists.specs.Order as Order
use Rattle.columns.specs.Text.{bytes}
use Rattle.columns.specs.Column as Column
use Rattle.columns.specs.Line as Line
use Rattle.columns.specs.Reading as Reading
use Rattle.sets.specs.Sets as Sets
use Rattle.rules.specs.declared.Seven.{Seven}
use Rattle.rules.specs.declared.Booking.{Booking}
use Rattle.rules.specs.declared.Authority.{Authority}
use Rattle.rules.specs.Board as Board
use Rattle.rules.specs.Call as Call
use Rattle.rules.specs.Refusals as Refusals
use Rattle.rules.specs.Effects as Effects
use Rattle.rules.specs.Plan as Plan
use Rattle.rules.specs.Journal as Journal
use Rattle.rules.specs.Step as Step

-- "Plan: P 3, G 4, gates 99 to 0, 0 to 1, 1 to 2, 2 to 99, all kind 1."
unfoldable pub plan_text : List ℕ
plan_text =
    bytes "     3     4     0\n" ++ bytes "    99     0     1\n" ++ bytes "     0     1     1\n"
    ++ bytes "     1     2     1\n"
    ++ bytes "     2    99     1\n"

-- the call at a time of a day, and of day 0
abbrev pub on_day : ℕ → ℕ → ℕ → ℕ → ℕ → ℕ → ℕ → Seven
on_day day time call a b c d = record { day = day; time = time; call = call; a = a; b = b; c = c; d = d }

abbrev pub at : ℕ → ℕ → ℕ → ℕ → ℕ → ℕ → Seven
at time call a b c d = on_day 0 time call a b c d

-- the journal of a list of calls: the lines that they write to buffers of 55 bytes
unfoldable pub printed : Board.Board → List Seven → List ℕ
printed b [] = []
printed b (s ∷ ss) =
    Journal.line_after s (Refusals.answer b s 55) (Step.allotted b s 55) (replicate 55 0)
    ++ printed (Step.after b s 55) ss

-- the answers of a list of calls
unfoldable pub answers : Board.Board → List Seven → List ℕ
answers b [] = []
answers b (s ∷ ss) = Refusals.answer b s 55 ∷ answers (Step.after b s 55) ss

-- "GRANTs on that plan with no trains, every gate blocked and the officer right": the answers after the four BLOCKs
abbrev pub block_all : List Seven
block_all = at 1 4 0 0 0 0 ∷ at 1 4 1 0 0 0 ∷ at 1 4 2 0 0 0 ∷ at 1 4 3 0 0 0 ∷ []

abbrev pub on_blocked : List Seven → List ℕ
on_blocked rest = answers (Plan.open_board plan_text) (block_all ++ rest)

-- an LPA over portion 1, its gate blocked, with a TERM made at 0600 of day 0: the answers of these three and of the
-- calls that follow
abbrev pub on_term : ℕ → ℕ → ℕ → List Seven → List ℕ
on_term day time minutes rest =
    answers (Plan.open_board plan_text) (at 600 1 1 1 1 7 ∷ at 600 4 1 0 0 0 ∷ at 600 14 1 day time minutes ∷ rest)

-- E10's two, a TWA in force over portion 1 and a pending TOA over 0 to 2, with a JOIN at that distance: the answers of
-- the four BLOCKs, of these four calls and of the calls that follow
abbrev pub on_join : ℕ → List Seven → List ℕ
on_join distance rest =
    on_blocked (at 1 1 3 1 1 7 ∷ at 1 6 1 7 0 0 ∷ at 1 1 2 0 2 8 ∷ at 1 15 1 2 7 distance ∷ rest)

-- the numbers of the trains on the board after a list of calls, in the register's order
unfoldable pub trains_after : Board.Board → List Seven → List ℕ
trains_after b [] = map Board.train_no b.trains
trains_after b (s ∷ ss) = trains_after (Step.after b s 55) ss

-- train 3 enters and goes on to portion 2, then 1 enters and goes on to portion 1, then 2 enters
abbrev pub three_enter : List Seven
three_enter =
    at 1 12 3 0 0 0 ∷ at 1 12 3 1 0 0 ∷ at 1 13 3 0 0 0 ∷ at 1 12 3 2 0 0 ∷ at 1 13 3 0 0 0 ∷ at 1 12 1 0 0 0
    ∷ at 1 12 1 1 0 0 ∷ at 1 13 1 0 0 0 ∷ at 1 12 2 0 0 0 ∷ []

-- one portion, into it a plain automatic signal, out of it a controlled one
unfoldable pub plain_text : List ℕ
plain_text = bytes "     1     2     0\n" ++ bytes "    99     0     4\n" ++ bytes "     0    99     1\n"

abbrev pub on_plain : List Seven → List ℕ
on_plain rest = answers (Plan.open_board plain_text) rest

-- the paper of each gate, and the one that it replaced, after a list of calls
abbrev pub papers : Booking → List ℕ
papers x = x.paper.0 ∷ x.replaced.0 ∷ []

unfoldable pub papers_after : Board.Board → List Seven → List (List ℕ)
papers_after b [] = map papers b.bookings
papers_after b (s ∷ ss) = papers_after (Step.after b s 55) ss

-- the number of each live authority and the one that it has recorded, after a list of calls on that plan with every
-- gate blocked
abbrev pub pair_of : Authority → List ℕ
pair_of a = Board.authority_no a ∷ a.agreed.0 ∷ []

unfoldable pub recorded_after : Board.Board → List Seven → List (List ℕ)
recorded_after b [] = map pair_of b.authorities
recorded_after b (s ∷ ss) = recorded_after (Step.after b s 55) ss

abbrev pub recorded_on : List Seven → List (List ℕ)
recorded_on rest = recorded_after (Plan.open_board plan_text) (block_all ++ rest)

-- E9's two in force, a TOA over 0 to 2 and the TWA over 1 that it has agreed; and E10's two with a JOIN, both in force
abbrev pub agreed_two : List Seven
agreed_two = at 1 1 2 0 2 7 ∷ at 1 6 1 7 0 0 ∷ at 1 1 3 1 1 8 ∷ at 1 3 1 2 7 0 ∷ at 1 6 2 8 0 0 ∷ []

abbrev pub joined_two : List Seven
joined_two = at 1 1 3 1 1 7 ∷ at 1 6 1 7 0 0 ∷ at 1 1 2 0 2 8 ∷ at 1 15 1 2 7 500 ∷ at 1 6 2 8 0 0 ∷ []

pub record Cases : Type 0 where
  -- E1 to E6: the whole output for six calls, byte for byte
  pub journal : printed (Plan.open_board plan_text)
      (at 2200 1 2 1 1 7 ∷ at 2201 6 1 7 0 0 ∷ at 2202 4 1 0 0 0 ∷ at 2203 6 1 7 0 0 ∷ at 2204 5 1 0 0 0
      ∷ at 2260 5 1 0 0 0 ∷ [])
      ≡ bytes "     0  2200     1     2     1     1     7     0     1\n"
      ++ bytes "     0  2201     6     1     7     0     0    11     0\n"
      ++ bytes "     0  2202     4     1     0     0     0     0     0\n"
      ++ bytes "     0  2203     6     1     7     0     0     0     0\n"
      ++ bytes "     0  2204     5     1     0     0     0    16     0\n"
      ++ bytes "     0  2260     5     1     0     0     0     3     0\n"
  -- E7: "a TOA over 1 to 1 beside one in force over 0 to 0: 0, neighbours share nothing"
  pub e7 : on_blocked (at 1 1 2 0 0 7 ∷ at 1 6 1 7 0 0 ∷ at 1 1 2 1 1 7 ∷ at 1 6 2 7 0 0 ∷ [])
      ≡ 0 ∷ 0 ∷ 0 ∷ 0 ∷ 0 ∷ 0 ∷ 0 ∷ 0 ∷ []
  -- E8: "a TOA over 1 to 2 beside one in force over 0 to 1: 13"
  pub e8 : on_blocked (at 1 1 2 0 1 7 ∷ at 1 6 1 7 0 0 ∷ at 1 1 2 1 2 7 ∷ at 1 6 2 7 0 0 ∷ [])
      ≡ 0 ∷ 0 ∷ 0 ∷ 0 ∷ 0 ∷ 0 ∷ 0 ∷ 13 ∷ []
  -- E9: "TWA inside a TOA, agreed: 0"
  pub e9 : on_blocked (at 1 1 2 0 2 7 ∷ at 1 6 1 7 0 0 ∷ at 1 1 3 1 1 8 ∷ at 1 3 1 2 7 0 ∷ at 1 6 2 8 0 0 ∷ [])
      ≡ 0 ∷ 0 ∷ 0 ∷ 0 ∷ 0 ∷ 0 ∷ 0 ∷ 0 ∷ 0 ∷ []
  -- E10: "a pending TOA over a TWA in force: 13"
  pub e10 : on_blocked (at 1 1 3 1 1 7 ∷ at 1 6 1 7 0 0 ∷ at 1 1 2 0 2 8 ∷ at 1 6 2 8 0 0 ∷ [])
      ≡ 0 ∷ 0 ∷ 0 ∷ 0 ∷ 0 ∷ 0 ∷ 0 ∷ 13 ∷ []
  -- order 1: the six calls of E1 to E6 with an LPA in the first, byte for byte. It has no term, so E4 answers 22, and
  -- E5 0, since the gate is not needed.
  pub lpa : printed (Plan.open_board plan_text)
      (at 2200 1 1 1 1 7 ∷ at 2201 6 1 7 0 0 ∷ at 2202 4 1 0 0 0 ∷ at 2203 6 1 7 0 0 ∷ at 2204 5 1 0 0 0
      ∷ at 2260 5 1 0 0 0 ∷ [])
      ≡ bytes "     0  2200     1     1     1     1     7     0     1\n"
      ++ bytes "     0  2201     6     1     7     0     0    11     0\n"
      ++ bytes "     0  2202     4     1     0     0     0     0     0\n"
      ++ bytes "     0  2203     6     1     7     0     0    22     0\n"
      ++ bytes "     0  2204     5     1     0     0     0     0     0\n"
      ++ bytes "     0  2260     5     1     0     0     0     3     0\n"
  -- order 1: 10,079 minutes ahead is 21 and leaves no term, 10,080 serves; a second TERM is 8
  pub notice : on_term 7 559 60 (on_day 7 559 6 1 7 0 0 ∷ []) ≡ 0 ∷ 0 ∷ 21 ∷ 22 ∷ []
  pub week : on_term 7 600 60 (at 600 14 1 7 600 60 ∷ []) ≡ 0 ∷ 0 ∷ 0 ∷ 8 ∷ []
  -- order 1: from 2330 of day 7 for an hour, over midnight: 22 in the minute before, 0 at the start; 0 in the last
  -- minute, 22 in the one after
  pub start : on_term 7 2330 60 (on_day 7 2329 6 1 7 0 0 ∷ on_day 7 2330 6 1 7 0 0 ∷ []) ≡ 0 ∷ 0 ∷ 0 ∷ 22 ∷ 0 ∷ []
  pub end : on_term 7 2330 60 (on_day 8 29 6 1 7 0 0 ∷ []) ≡ 0 ∷ 0 ∷ 0 ∷ 0 ∷ []
  pub over : on_term 7 2330 60 (on_day 8 30 6 1 7 0 0 ∷ []) ≡ 0 ∷ 0 ∷ 0 ∷ 22 ∷ []
  -- order 4: E10 with a JOIN at 500 and at 1000 metres: 0. At 499 and at 1001 JOIN is 24 and leaves nothing: 13
  pub nearest : on_join 500 (at 1 6 2 8 0 0 ∷ []) ≡ 0 ∷ 0 ∷ 0 ∷ 0 ∷ 0 ∷ 0 ∷ 0 ∷ 0 ∷ 0 ∷ []
  pub farthest : on_join 1000 (at 1 6 2 8 0 0 ∷ []) ≡ 0 ∷ 0 ∷ 0 ∷ 0 ∷ 0 ∷ 0 ∷ 0 ∷ 0 ∷ 0 ∷ []
  pub too_near : on_join 499 (at 1 6 2 8 0 0 ∷ []) ≡ 0 ∷ 0 ∷ 0 ∷ 0 ∷ 0 ∷ 0 ∷ 0 ∷ 24 ∷ 13 ∷ []
  pub too_far : on_join 1001 (at 1 6 2 8 0 0 ∷ []) ≡ 0 ∷ 0 ∷ 0 ∷ 0 ∷ 0 ∷ 0 ∷ 0 ∷ 24 ∷ 13 ∷ []
  -- order 4: the TWA is cleared and fulfilled and another over the same portion comes into force: the JOIN names the
  -- first, so 13
  pub another : on_join 500 (at 1 7 1 7 0 0 ∷ at 1 10 1 7 7 0 ∷ at 1 1 3 1 1 9 ∷ at 1 6 3 9 0 0 ∷ at 1 6 2 8 0 0 ∷ [])
      ≡ 0 ∷ 0 ∷ 0 ∷ 0 ∷ 0 ∷ 0 ∷ 0 ∷ 0 ∷ 0 ∷ 0 ∷ 0 ∷ 0 ∷ 13 ∷ []
  -- order 5: trains that enter as 3, 1, 2 are held as 1, 2, 3, and once 3 has left as 1, 2
  pub entered : trains_after (Plan.open_board plan_text) three_enter ≡ 1 ∷ 2 ∷ 3 ∷ []
  pub left : trains_after (Plan.open_board plan_text) (three_enter ++ (at 1 12 3 3 0 0 ∷ at 1 13 3 0 0 0 ∷ []))
      ≡ 1 ∷ 2 ∷ []
  -- order 6: a plain signal can be blocked only while it is out; BOOK IN is 25 while its block is on, and restores it
  -- once that is off
  pub plain : on_plain
      (at 1 4 0 0 0 0 ∷ at 1 16 0 5 0 0 ∷ at 1 4 0 0 0 0 ∷ at 1 17 0 5 1 0 ∷ at 1 5 0 0 0 0 ∷ at 1 17 0 5 1 0
      ∷ at 1 4 0 0 0 0 ∷ [])
      ≡ 10 ∷ 0 ∷ 0 ∷ 25 ∷ 0 ∷ 0 ∷ 10 ∷ []
  -- order 6: it protects a TOA; UNBLOCK is 16, to restore it 25, a new paper serves; another paper is 5, before 25
  pub protects : on_plain
      (at 1 1 2 0 0 7 ∷ at 1 16 0 5 0 0 ∷ at 1 6 1 7 0 0 ∷ at 1 4 0 0 0 0 ∷ at 1 6 1 7 0 0 ∷ at 1 5 0 0 0 0
      ∷ at 1 17 0 5 1 0 ∷ at 1 17 0 5 0 6 ∷ at 1 17 0 5 1 0 ∷ at 1 17 0 6 1 0 ∷ [])
      ≡ 0 ∷ 0 ∷ 11 ∷ 0 ∷ 0 ∷ 16 ∷ 25 ∷ 0 ∷ 5 ∷ 25 ∷ []
  -- order 6: out twice is 8, a gate of another kind 10; BOOK IN of it, or of one that isn't out, 5
  pub out : on_plain (at 1 17 0 5 1 0 ∷ at 1 16 1 5 0 0 ∷ at 1 17 1 5 1 0 ∷ at 1 16 0 5 0 0 ∷ at 1 16 0 6 0 0 ∷ [])
      ≡ 5 ∷ 10 ∷ 5 ∷ 0 ∷ 8 ∷ []
  -- order 6: certified 1 with a new paper, 0 with none and with the same, and 2 are 3
  pub combinations : on_plain
      (at 1 16 0 5 0 0 ∷ at 1 17 0 5 1 6 ∷ at 1 17 0 5 0 0 ∷ at 1 17 0 5 0 5 ∷ at 1 17 0 5 2 0 ∷ at 1 17 0 5 0 9999
      ∷ [])
      ≡ 0 ∷ 3 ∷ 3 ∷ 3 ∷ 3 ∷ 0 ∷ []
  -- order 6: out under 5, then 6, then 7: beside 7 stands 6; restored, nothing
  pub renewed : papers_after (Plan.open_board plain_text) (at 1 16 0 5 0 0 ∷ at 1 17 0 5 0 6 ∷ at 1 17 0 6 0 7 ∷ [])
      ≡ (7 ∷ 6 ∷ []) ∷ (0 ∷ 0 ∷ []) ∷ []
  pub restored : papers_after (Plan.open_board plain_text) (at 1 16 0 5 0 0 ∷ at 1 17 0 5 0 6 ∷ at 1 17 0 6 1 0 ∷ [])
      ≡ (0 ∷ 0 ∷ []) ∷ (0 ∷ 0 ∷ []) ∷ []
  -- order 7: the agreement of a TWA whose TOA has ended, and of a TOA whose joined TWA has
  pub toa_ended : recorded_on (agreed_two ++ (at 1 7 1 7 0 0 ∷ at 1 10 1 7 7 0 ∷ [])) ≡ (2 ∷ 1 ∷ []) ∷ []
  pub twa_ended : recorded_on (joined_two ++ (at 1 7 1 7 0 0 ∷ at 1 10 1 7 7 0 ∷ [])) ≡ (2 ∷ 1 ∷ []) ∷ []
  -- order 7: through a handover of either, CLEAR and REOCCUPY
  pub handed_over : recorded_on
      (agreed_two ++ (at 1 9 1 7 9 0 ∷ at 1 9 2 8 10 0 ∷ at 1 7 2 10 0 0 ∷ at 1 8 2 10 0 0 ∷ []))
      ≡ (1 ∷ 0 ∷ []) ∷ (2 ∷ 1 ∷ []) ∷ []
  pub joined_handed_over : recorded_on
      (joined_two ++ (at 1 9 1 7 9 0 ∷ at 1 9 2 8 10 0 ∷ at 1 7 2 10 0 0 ∷ at 1 8 2 10 0 0 ∷ []))
      ≡ (1 ∷ 0 ∷ []) ∷ (2 ∷ 1 ∷ []) ∷ []
  -- order 7: after CONTINUE the new one's own: none, and that with another TOA
  pub continued_none : recorded_on
      (at 1 1 2 0 0 7 ∷ at 1 6 1 7 0 0 ∷ at 1 1 3 0 0 8 ∷ at 1 3 1 2 7 0 ∷ at 1 6 2 8 0 0 ∷ at 1 1 3 1 1 9
      ∷ at 1 11 2 3 8 9 ∷ [])
      ≡ (1 ∷ 0 ∷ []) ∷ (3 ∷ 0 ∷ []) ∷ []
  pub continued_own : recorded_on
      (at 1 1 2 0 0 7 ∷ at 1 6 1 7 0 0 ∷ at 1 1 3 0 0 8 ∷ at 1 3 1 2 7 0 ∷ at 1 6 2 8 0 0 ∷ at 1 1 2 2 2 5
      ∷ at 1 6 3 5 0 0 ∷ at 1 1 3 2 2 9 ∷ at 1 3 3 4 5 0 ∷ at 1 11 2 4 8 9 ∷ [])
      ≡ (1 ∷ 0 ∷ []) ∷ (3 ∷ 0 ∷ []) ∷ (4 ∷ 3 ∷ []) ∷ []

pub cases : Cases
unfolding plan_text plain_text printed answers trains_after papers_after recorded_after bytes Search.first Search.change
    Search.below Order.insert_by Column.digits_in Column.digits Column.column Line.line_of Reading.same_text
    Reading.value_from Reading.is_column Reading.read_column Reading.first_column Reading.row_of Sets.has Sets.set_of
    Sets.run Sets.insert Sets.remove Sets.shares Board.opened Board.closed Board.live Board.authority Board.on_board
    Board.train Board.touches Board.touches_portion Board.needs Board.is_out Board.can_be_blocked Call.is_day
    Call.is_time Call.minute_of Call.in_range Call.in_ranges Call.calls Call.entry_of Call.is_call Call.named
    Call.in_form Refusals.lowest Refusals.early Refusals.not_live Refusals.not_officer Refusals.not_to_agree
    Refusals.not_to_join Refusals.rests_on Refusals.not_at_distance Refusals.is_e Refusals.is_w Refusals.any_e
    Refusals.any_w Refusals.the_w Refusals.no_room Refusals.is_other_at Refusals.taken Refusals.worked_on Refusals.is_at
    Refusals.not_there Refusals.barred Refusals.pilot Refusals.not_piloted Refusals.full Refusals.is_open
    Refusals.unprotected Refusals.occupied Refusals.occupied_beside Refusals.in_the_way Refusals.clashes
    Refusals.overlaps Refusals.in_force_needs Refusals.still_needed Refusals.minute Refusals.not_pending_lpa
    Refusals.too_soon Refusals.in_term Refusals.outside_term Refusals.not_booked Refusals.restores_blocked Refusals.own
    Refusals.conditions Refusals.answer Effects.effect Plan.plan_line Plan.plan_number Plan.is_head Plan.is_place
    Plan.is_gate Plan.gate_on Plan.are_gates Plan.gates_on Plan.is_plan Plan.open_board Journal.journal_line
    Journal.line_after Step.after Step.allotted
cases = record {
  journal = refl;
  e7 = refl;
  e8 = refl;
  e9 = refl;
  e10 = refl;
  lpa = refl;
  notice = refl;
  week = refl;
  start =
      refl;
  end =
      refl;
  over =
      refl;
  nearest =
      refl;
  farthest =
      refl;
  too_near =
      refl;
  too_far =
      refl;
  another =
      refl;
  entered =
      refl;
  left =
      refl;
  plain =
      refl;
  protects =
      refl;
  out =
      refl;
  combinations =
      refl;
  renewed =
      refl;
  restored =
      refl;
  toa_ended =
      refl;
  twa_ended =
      refl;
  handed_over =
      refl;
  joined_handed_over =
      refl;
  continued_none =
      refl;
  continued_own = refl;
}
