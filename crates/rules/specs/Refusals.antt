-- The conditions for refusal of each call, and its answer (01, "The thirteen calls" and "Refusal words"; 02, orders 1,
-- 4 and 6). Assumes nothing.
use Rattle.std.specs.Prelude.{ℕ, ◌+◌, Bool, cond, not, ◌&&◌, ◌||◌, List, [], ◌∷◌, length, eqb, leb, ltb, Option, Some}
use Rattle.std.specs.Prelude.{None}
use Rattle.lists.specs.Search.{any, first, below}
use Rattle.sets.specs.Sets.{has, shares}
use Rattle.rules.specs.declared.AuthorityNo.{AuthorityNo}
use Rattle.rules.specs.declared.TrainNo.{TrainNo}
use Rattle.rules.specs.declared.GateNo.{GateNo}
use Rattle.rules.specs.declared.PaperNo.{PaperNo}
use Rattle.rules.specs.declared.Gate.{Gate}
use Rattle.rules.specs.declared.Authority.{Authority}
use Rattle.rules.specs.declared.Train.{Train}
use Rattle.rules.specs.declared.Seven.{Seven}
use Rattle.rules.specs.declared.Call.{Call}
use Rattle.rules.specs.declared.Call.TheVariants.{Request, Withdraw, Agree, Block, Unblock, Grant, Clear, Reoccupy}
use Rattle.rules.specs.declared.Call.TheVariants.{HandOver, Fulfil, Continue, Move, Passed, Term, Join, BookOut, BookIn}
use Rattle.rules.specs.Board.{Board, is_outside, no_authority, gate_at, booking_at, is_out, is_plain, can_be_blocked}
use Rattle.rules.specs.Board.{exclusive, is_lpa, is_toa, is_twa, is_in_force, has_workers_on, has_term, authority_no}
use Rattle.rules.specs.Board.{is_authority, is_train, live, authority, on_board, train, touches, touches_portion, needs}
use Rattle.rules.specs.Call.{authority_of, gate_of, minute_of, is_call, named, in_ranges}

-- ---- "The lowest number whose condition holds is given."

-- a refusal's number, and whether its condition holds
pub record Refusal : Type 0 where
  pub number : ℕ
  pub holds : Bool

infix 70 ◌when◌
abbrev pub ◌when◌ : ℕ → Bool → Refusal
n when condition = record { number = n; holds = condition }

-- the first whose condition holds, 0 where none does. Each call's list is ascending (theorem `ascending`), so it is the
-- lowest.
unfoldable pub lowest : List Refusal → ℕ
lowest [] = 0
lowest (r ∷ rs) = cond r.holds r.number (lowest rs)

-- ---- the refusal words that several calls share

-- 4 clock: "stamp before that of the last accepted call"
unfoldable pub early : Board → Seven → Bool
early b s = ltb s.day b.day || (eqb s.day b.day && ltb s.time b.time)

-- 5 not live: "no live authority has that number"
unfoldable pub not_live : Board → AuthorityNo → Bool
not_live b n = not (live b n)

-- 7 officer: "not the authority's officer"
unfoldable pub not_officer : Board → AuthorityNo → ℕ → Bool
not_officer b n officer = not (eqb (authority b n).officer officer)

-- 6 stage, of AGREE: "not a TOA in force and a pending TWA"
unfoldable pub not_to_agree : Authority → Authority → Bool
not_to_agree toa twa = not (is_toa toa.kind && is_in_force toa && is_twa twa.kind && not (is_in_force twa))

-- 6 stage, of JOIN (02, order 4): not a "TWA in force" and a "pending TOA"
unfoldable pub not_to_join : Authority → Authority → Bool
not_to_join twa toa = not (is_twa twa.kind && is_in_force twa && is_toa toa.kind && not (is_in_force toa))

-- 8 already so, of AGREE and JOIN: "that TOA already recorded", or that TWA
abbrev pub has_recorded : AuthorityNo → Authority → Bool
has_recorded other a = eqb a.agreed.0 other.0

-- 9 full: "32 held, or 9999 allotted"
unfoldable pub full : Board → Bool
full b = leb 32 (length b.authorities) || leb 9999 b.last.0

-- 11 unprotected: "a needed gate isn't blocked"; `g` is a place of the plan
unfoldable pub is_open : Board → ℕ → ℕ → Bool
is_open b limits g = needs limits (gate_at b.gates (gate_of g)) && not (has g b.blocks)

unfoldable pub unprotected : Board → Authority → Bool
unprotected b a = any (is_open b a.limits) (below (length b.gates))

-- 12 occupied, of GRANT and REOCCUPY: "a train touches the limits"
unfoldable pub occupied : Board → Authority → Bool
occupied b a = any (touches a.limits) b.trains

-- 12 occupied, of CONTINUE: "for a new TWA, a train touches its limits; otherwise a train touches them that isn't with
-- old or whose head isn't in them"
unfoldable pub in_the_way : AuthorityNo → Authority → Train → Bool
in_the_way old a t = touches a.limits t && (is_twa a.kind || not (eqb t.with.0 old.0) || not (has t.head a.limits))

unfoldable pub occupied_beside : Board → AuthorityNo → Authority → Bool
occupied_beside b old a = any (in_the_way old a) b.trains

-- this rests on the agreement of that one's officer: "this is a TWA and that is the TOA it has agreed"; 02, order 4:
-- "the matching exception", this is a TOA and that is the TWA it has joined
unfoldable pub rests_on : Authority → Authority → Bool
rests_on a o = (is_twa a.kind || is_toa a.kind) && is_authority a.agreed o

-- 13 overlap: "another in force shares a portion, unless this is a TWA and that is the TOA it has agreed", or as order
-- 4 says; "For 13 old isn't counted": `old` is 0 in GRANT, and no authority has the number 0
unfoldable pub clashes : AuthorityNo → Authority → Authority → Bool
clashes old a o =
    is_in_force o && not (is_authority a.number o) && not (is_authority old o)
    && shares a.limits o.limits
    && not (rests_on a o)

unfoldable pub overlaps : Board → AuthorityNo → Authority → Bool
overlaps b old a = any (clashes old a) b.authorities

-- 16 still needed: "an authority in force needs the gate"
unfoldable pub in_force_needs : Gate → Authority → Bool
in_force_needs gate a = is_in_force a && needs a.limits gate

unfoldable pub still_needed : Board → GateNo → Bool
still_needed b g = any (in_force_needs (gate_at b.gates g)) b.authorities

-- ---- terms (02, order 1)

-- the minute of a call
unfoldable pub minute : Seven → ℕ
minute s = minute_of s.day s.time

-- 6 stage, of TERM: "not a pending LPA"
unfoldable pub not_pending_lpa : Authority → Bool
not_pending_lpa a = not (is_lpa a.kind && not (is_in_force a))

-- 21: "the start is before the call or less than 10,080 minutes after it"
unfoldable pub too_soon : Seven → ℕ → Bool
too_soon s start = ltb start (minute s) || ltb start (minute s + 10080)

-- "from the start minute up to the minute before start plus length"
unfoldable pub in_term : Seven → Authority → Bool
in_term s a = leb a.start (minute s) && ltb (minute s) (a.start + a.minutes)

-- 22: "an LPA has no term or the minute is outside it"
unfoldable pub outside_term : Seven → Authority → Bool
outside_term s a = is_lpa a.kind && (not (has_term a) || not (in_term s a))

-- ---- the railway track signals that the TWA's officer has placed (02, order 4)

-- 24: "the distance is under 500 or over 1000"
unfoldable pub not_at_distance : ℕ → Bool
not_at_distance distance = ltb distance 500 || ltb 1000 distance

-- ---- bookings (02, order 6)

-- 5, of BOOK IN: the paper is "not the one booked". A gate that isn't out has the paper 0, and no call's paper is 0.
unfoldable pub not_booked : Board → GateNo → PaperNo → Bool
not_booked b g paper = not (eqb (booking_at b.bookings g).paper.0 paper.0)

-- 25: "BOOK IN would restore a gate whose block is on"
unfoldable pub restores_blocked : Board → GateNo → Bool → Bool
restores_blocked b g certified = certified && has g.0 b.blocks

-- ---- MOVE

-- "Let E be the exclusive authority and W the TWA in force whose limits hold the gate's "to"."
unfoldable pub is_e : ℕ → Authority → Bool
is_e to a = is_in_force a && exclusive a.kind && has to a.limits

unfoldable pub is_w : ℕ → Authority → Bool
is_w to a = is_in_force a && is_twa a.kind && has to a.limits

unfoldable pub any_e : Board → ℕ → Bool
any_e b to = any (is_e to) b.authorities

unfoldable pub any_w : Board → ℕ → Bool
any_w b to = any (is_w to) b.authorities

unfoldable pub the_w : Board → ℕ → Authority
the_w b to = first (is_w to) no_authority b.authorities

-- 9: "from outside, 32 trains on the board"
unfoldable pub no_room : Board → Gate → Bool
no_room b gate = is_outside gate.from && leb 32 (length b.trains)

-- 12: "no E, and another train touches "to""
unfoldable pub is_other_at : TrainNo → ℕ → Train → Bool
is_other_at n to t = not (is_train n t) && touches_portion to t

unfoldable pub taken : Board → TrainNo → ℕ → Bool
taken b n to = not (any_e b to) && any (is_other_at n to) b.trains

-- 14: "W has workers on"
unfoldable pub worked_on : Board → ℕ → Bool
worked_on b to = any_w b to && has_workers_on (the_w b to)

-- 17: "from outside, the train is on the board; else it isn't there with head and rear both at "from""
unfoldable pub is_at : ℕ → Train → Bool
is_at p t = eqb t.head p && eqb t.rear p

unfoldable pub not_there : Board → TrainNo → Gate → Bool
not_there b n gate = cond (is_outside gate.from) (on_board b n) (not (on_board b n && is_at gate.from (train b n)))

-- 18: "gate blocked, no E and no W"
unfoldable pub barred : Board → GateNo → ℕ → Bool
barred b g to = has g.0 b.blocks && not (any_e b to) && not (any_w b to)

-- 19: "authority and officer aren't those of E, else those of W, else 0 and 0"
unfoldable pub pilot : Board → ℕ → Authority
pilot b to =
    cond (any_e b to) (first (is_e to) no_authority b.authorities)
    (cond (any_w b to) (the_w b to) no_authority)

unfoldable pub not_piloted : Board → ℕ → AuthorityNo → ℕ → Bool
not_piloted b to n officer = not (eqb n.0 (authority_no (pilot b to)) && eqb officer (pilot b to).officer)

-- ---- the conditions of each call, in ascending order

-- REQUEST {9}
abbrev pub request_refusals : Board → List Refusal
request_refusals b =
    9 when full b
    ∷ []

-- WITHDRAW {5; 6 not pending; 7}
abbrev pub withdraw_refusals : Board → AuthorityNo → ℕ → List Refusal
withdraw_refusals b n officer =
    5 when not_live b n
    ∷ 6 when is_in_force (authority b n)
    ∷ 7 when not_officer b n officer
    ∷ []

-- AGREE {5; 6 not a TOA in force and a pending TWA; 7; 8 that TOA already recorded}
abbrev pub agree_refusals : Board → AuthorityNo → AuthorityNo → ℕ → List Refusal
agree_refusals b toa twa officer =
    5 when (not_live b toa || not_live b twa)
    ∷ 6 when not_to_agree (authority b toa) (authority b twa)
    ∷ 7 when not_officer b toa officer
    ∷ 8 when has_recorded toa (authority b twa)
    ∷ []

-- BLOCK {8; 10 "gate of kind 4"; 02, order 6: "10 at BLOCK, now follow the booking"}
abbrev pub block_refusals : Board → GateNo → List Refusal
block_refusals b g =
    8 when has g.0 b.blocks
    ∷ 10 when not (can_be_blocked b g)
    ∷ []

-- UNBLOCK {8; 16}
abbrev pub unblock_refusals : Board → GateNo → List Refusal
unblock_refusals b g =
    8 when not (has g.0 b.blocks)
    ∷ 16 when still_needed b g
    ∷ []

-- GRANT {5; 6 not pending; 7; 11; 12 a train touches the limits; 13}; 22, order 1
abbrev pub grant_refusals : Board → Seven → AuthorityNo → ℕ → List Refusal
grant_refusals b s n officer =
    5 when not_live b n
    ∷ 6 when is_in_force (authority b n)
    ∷ 7 when not_officer b n officer
    ∷ 11 when unprotected b (authority b n)
    ∷ 12 when occupied b (authority b n)
    ∷ 13 when overlaps b (authority_of 0) (authority b n)
    ∷ 22 when outside_term s (authority b n)
    ∷ []

-- CLEAR {5; 6 not in force; 7; 8}
abbrev pub clear_refusals : Board → AuthorityNo → ℕ → List Refusal
clear_refusals b n officer =
    5 when not_live b n
    ∷ 6 when not (is_in_force (authority b n))
    ∷ 7 when not_officer b n officer
    ∷ 8 when not (has_workers_on (authority b n))
    ∷ []

-- REOCCUPY {5; 6 not in force; 7; 8; "REOCCUPY of a TWA also 12 a train touches the limits"}
abbrev pub reoccupy_refusals : Board → AuthorityNo → ℕ → List Refusal
reoccupy_refusals b n officer =
    5 when not_live b n
    ∷ 6 when not (is_in_force (authority b n))
    ∷ 7 when not_officer b n officer
    ∷ 8 when has_workers_on (authority b n)
    ∷ 12 when (is_twa (authority b n).kind && occupied b (authority b n))
    ∷ []

-- HAND OVER {5; 7 for out; 8 both the same}, "Either stage."
abbrev pub hand_over_refusals : Board → AuthorityNo → ℕ → ℕ → List Refusal
hand_over_refusals b n out into =
    5 when not_live b n
    ∷ 7 when not_officer b n out
    ∷ 8 when eqb out into
    ∷ []

-- FULFIL {5; 6 not in force; 7; 14 workers on; 15 "not 7"}
abbrev pub fulfil_refusals : Board → AuthorityNo → ℕ → ℕ → List Refusal
fulfil_refusals b n officer assurances =
    5 when not_live b n
    ∷ 6 when not (is_in_force (authority b n))
    ∷ 7 when not_officer b n officer
    ∷ 14 when has_workers_on (authority b n)
    ∷ 15 when not (eqb assurances 7)
    ∷ []

-- CONTINUE {.. 6 old not in force or new not pending; 7 either; 11, 12, 13 for the new}; 22 for the new, order 1: what
-- comes behind 5, of the two that are live
abbrev pub of_continue : Board → Seven → AuthorityNo → Authority → Authority → ℕ → ℕ → List Refusal
of_continue b s old x y officer_old officer_new =
    6 when (not (is_in_force x) || is_in_force y)
    ∷ 7 when (not (eqb x.officer officer_old) || not (eqb y.officer officer_new))
    ∷ 11 when unprotected b y
    ∷ 12 when occupied_beside b old y
    ∷ 13 when overlaps b old y
    ∷ 22 when outside_term s y
    ∷ []

-- CONTINUE {5; ..}
abbrev pub continue_refusals : Board → Seven → AuthorityNo → AuthorityNo → ℕ → ℕ → List Refusal
continue_refusals b s old new officer_old officer_new =
    5 when (not_live b old || not_live b new)
    ∷ of_continue b s old (authority b old) (authority b new) officer_old officer_new

-- MOVE {9, 12, 14, 17, 18, 19}, through the gate with the number g
abbrev pub move_refusals : Board → TrainNo → GateNo → Gate → AuthorityNo → ℕ → List Refusal
move_refusals b t g gate n officer =
    9 when no_room b gate
    ∷ 12 when taken b t gate.to
    ∷ 14 when worked_on b gate.to
    ∷ 17 when not_there b t gate
    ∷ 18 when barred b g gate.to
    ∷ 19 when not_piloted b gate.to n officer
    ∷ []

-- PASSED {8 head equals rear; 17 not on the board}
abbrev pub passed_refusals : Board → TrainNo → List Refusal
passed_refusals b t =
    8 when (on_board b t && eqb (train b t).head (train b t).rear)
    ∷ 17 when not (on_board b t)
    ∷ []

-- TERM, order 1 {5; 6 not a pending LPA; 8 it has a term; 21}, for a term from the minute `start` on
abbrev pub term_refusals : Board → Seven → AuthorityNo → ℕ → List Refusal
term_refusals b s n start =
    5 when not_live b n
    ∷ 6 when not_pending_lpa (authority b n)
    ∷ 8 when has_term (authority b n)
    ∷ 21 when too_soon s start
    ∷ []

-- JOIN, order 4 {"5, 6, 7, 8 as for AGREE": 5; 6 not a TWA in force and a pending TOA; 7 not the TWA's officer; 8 that
-- TWA already recorded; 24}
abbrev pub join_refusals : Board → AuthorityNo → AuthorityNo → ℕ → ℕ → List Refusal
join_refusals b twa toa officer distance =
    5 when (not_live b twa || not_live b toa)
    ∷ 6 when not_to_join (authority b twa) (authority b toa)
    ∷ 7 when not_officer b twa officer
    ∷ 8 when has_recorded twa (authority b toa)
    ∷ 24 when not_at_distance distance
    ∷ []

-- BOOK OUT, order 6: "gate of kind 4 (10 for another kind, 8 if out)"
abbrev pub book_out_refusals : Board → GateNo → List Refusal
book_out_refusals b g =
    8 when is_out b g
    ∷ 10 when not (is_plain (gate_at b.gates g))
    ∷ []

-- BOOK IN, order 6: "paper (5 if not the one booked)"; 25, "tested last"
abbrev pub book_in_refusals : Board → GateNo → PaperNo → Bool → List Refusal
book_in_refusals b g paper certified =
    5 when not_booked b g paper
    ∷ 25 when restores_blocked b g certified
    ∷ []

-- the conditions of a call; `s` has its stamp
unfoldable pub own : Board → Seven → Option Call → List Refusal
own b s None = []
own b s (Some (Request kind low high officer)) = request_refusals b
own b s (Some (Withdraw n officer)) = withdraw_refusals b n officer
own b s (Some (Agree toa twa officer)) = agree_refusals b toa twa officer
own b s (Some (Block g)) = block_refusals b g
own b s (Some (Unblock g)) = unblock_refusals b g
own b s (Some (Grant n officer)) = grant_refusals b s n officer
own b s (Some (Clear n officer)) = clear_refusals b n officer
own b s (Some (Reoccupy n officer)) = reoccupy_refusals b n officer
own b s (Some (HandOver n out into)) = hand_over_refusals b n out into
own b s (Some (Fulfil n officer assurances)) = fulfil_refusals b n officer assurances
own b s (Some (Continue old new officer_old officer_new)) = continue_refusals b s old new officer_old officer_new
own b s (Some (Move t g n officer)) = move_refusals b t g (gate_at b.gates g) n officer
own b s (Some (Passed t)) = passed_refusals b t
own b s (Some (Term n day time minutes)) = term_refusals b s n (minute_of day time)
own b s (Some (Join twa toa officer distance)) = join_refusals b twa toa officer distance
own b s (Some (BookOut g paper)) = book_out_refusals b g
own b s (Some (BookIn g paper certified new)) = book_in_refusals b g paper certified

-- all conditions of a call; `room` is the length of the buffer for its line
unfoldable pub conditions : Board → Seven → ℕ → List Refusal
conditions b s room =
    -- 1 short line: "buffer under 55 bytes"
    1 when ltb room 55
    -- 2 no such call: "a number that no call has" (02, order 1)
    ∷ 2 when not (is_call s.call)
    -- 3 field: "a range above, or an unused field not 0"
    ∷ 3 when not (in_ranges b.portions (length b.gates) s)
    -- 4 clock
    ∷ 4 when early b s
    ∷ own b s (named s)

-- the answer: 0, or the refusal
unfoldable pub answer : Board → Seven → ℕ → ℕ
answer b s room = lowest (conditions b s room)
