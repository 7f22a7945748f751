-- What an accepted call does (01, "The thirteen calls"; 02, order 1: TERM, order 4: JOIN, order 5: the order, order 6:
-- BOOK OUT and BOOK IN). Nothing else changes. Assumes nothing.
use Rattle.std.specs.Prelude.{ℕ, suc, Bool, true, false, cond, List, [], ◌∷◌, ◌++◌, set, eqb, Option, Some, None}
use Rattle.lists.specs.Search.{change}
use Rattle.lists.specs.Order.{insert_by}
use Rattle.sets.specs.Sets.{has, run, insert, remove}
use Rattle.rules.specs.declared.AuthorityNo.{AuthorityNo}
use Rattle.rules.specs.declared.TrainNo.{TrainNo}
use Rattle.rules.specs.declared.PaperNo.{PaperNo}
use Rattle.rules.specs.declared.Booking.{Booking}
use Rattle.rules.specs.declared.kind.Kind.{Kind}
use Rattle.rules.specs.declared.Authority.{Authority}
use Rattle.rules.specs.declared.Train.{Train}
use Rattle.rules.specs.declared.Call.{Call}
use Rattle.rules.specs.declared.Call.TheVariants.{Request, Withdraw, Agree, Block, Unblock, Grant, Clear, Reoccupy}
use Rattle.rules.specs.declared.Call.TheVariants.{HandOver, Fulfil, Continue, Move, Passed, Term, Join, BookOut, BookIn}
use Rattle.rules.specs.Board.{Board, is_outside, no_booking, gate_at, is_in_force, has_workers_on, train_no, authority}
use Rattle.rules.specs.Board.{train, with_authorities, with_trains, with_blocks, with_bookings, with_last, amended}
use Rattle.rules.specs.Board.{ended, moved, gone}
use Rattle.rules.specs.Call.{authority_of, paper_of, minute_of}

-- ---- what becomes of one authority

-- REQUEST "Adds it pending, site clear, agreed 0.", and with no term
abbrev pub requested : AuthorityNo → Kind → ℕ → ℕ → Authority
requested n kind limits officer = record {
  number = n;
  kind = kind;
  limits = limits;
  officer = officer;
  in_force = false;
  workers_on = false;
  agreed = authority_of 0;
  start = 0;
  minutes = 0;
}

-- with these in the places that calls change; number, kind and limits are those of its REQUEST
abbrev pub amended_to : Authority → ℕ → Bool → Bool → AuthorityNo → ℕ → ℕ → Authority
amended_to a officer in_force workers_on agreed start minutes = record {
  number = a.number;
  kind = a.kind;
  limits = a.limits;
  officer = officer;
  in_force = in_force;
  workers_on = workers_on;
  agreed = agreed;
  start = start;
  minutes = minutes;
}

-- GRANT, and CONTINUE as new: "In force, workers on."
abbrev pub granted : Authority → Authority
granted a = amended_to a a.officer true true a.agreed a.start a.minutes

-- CLEAR and REOCCUPY: "They set the site."
abbrev pub with_site : Bool → Authority → Authority
with_site on a = amended_to a a.officer (is_in_force a) on a.agreed a.start a.minutes

-- HAND OVER
abbrev pub with_officer : ℕ → Authority → Authority
with_officer officer a = amended_to a officer (is_in_force a) (has_workers_on a) a.agreed a.start a.minutes

-- AGREE, of the TWA: "Replaces an earlier agreement."; JOIN (order 4), of the TOA: "The TOA records the TWA"
abbrev pub with_agreed : AuthorityNo → Authority → Authority
with_agreed other a = amended_to a a.officer (is_in_force a) (has_workers_on a) other a.start a.minutes

-- TERM: "start day, start time, length in minutes": the minute in which the term starts, and its length in minutes. No
-- other call changes it.
abbrev pub with_term : ℕ → ℕ → Authority → Authority
with_term start minutes a = amended_to a a.officer (is_in_force a) (has_workers_on a) a.agreed start minutes

-- ---- what becomes of one train

abbrev pub with_authority : AuthorityNo → Train → Train
with_authority n t = record { number = t.number; head = t.head; rear = t.rear; with = n }

-- MOVE: "(from outside, both go to "to"); the train is with that authority"
abbrev pub entered : TrainNo → ℕ → AuthorityNo → Train
entered t to n = record { number = t; head = to; rear = to; with = n }

-- MOVE: "The head goes to "to", the rear stays"
abbrev pub with_head : ℕ → AuthorityNo → Train → Train
with_head to n t = record { number = t.number; head = to; rear = t.rear; with = n }

-- PASSED: "Rear becomes head"
abbrev pub with_rear_in : Train → Train
with_rear_in t = record { number = t.number; head = t.head; rear = t.head; with = t.with }

-- the train is with authority n
abbrev pub is_with : AuthorityNo → Train → Bool
is_with n t = eqb t.with.0 n.0

-- FULFIL: "Trains with it are then with 0."
abbrev pub freed : AuthorityNo → List Train → List Train
freed n ts = change (is_with n) (with_authority (authority_of 0)) ts

-- CONTINUE: "Trains with old are then with new if their head is in its limits, else with 0."
abbrev pub continued_with : AuthorityNo → ℕ → Train → Train
continued_with new limits t = with_authority (cond (has t.head limits) new (authority_of 0)) t

abbrev pub continued : AuthorityNo → AuthorityNo → ℕ → List Train → List Train
continued old new limits ts = change (is_with old) (continued_with new limits) ts

-- ---- what becomes of one booking

-- BOOK OUT: the gate is out under the paper, which replaces none
abbrev pub booked_out : PaperNo → Booking
booked_out paper = record { paper = paper; replaced = paper_of 0 }

-- BOOK IN: "Certified 1 with new paper 0 restores the gate. Certified 0 with a new paper [..] keeps it out under the
-- new one, with the number of the paper just replaced beside it."
abbrev pub booked_in : PaperNo → Bool → PaperNo → Booking
booked_in paper certified new = cond certified no_booking (record { paper = new; replaced = paper })

-- ---- each call

-- the number that the next REQUEST is allotted: "Numbers are allotted 1, 2, 3 up to 9999 and never reused."
abbrev pub next_no : Board → AuthorityNo
next_no b = authority_of (suc b.last.0)

unfoldable pub effect : Board → Option Call → Board
effect b None = b
-- REQUEST: its number is above all others, so that its place by ascending number (order 5) is the end; "limits (a first
-- and a last portion and all between, held as one set of portions)"
effect b (Some (Request kind low high officer)) =
    with_last (next_no b)
    (with_authorities (b.authorities ++ (requested (next_no b) kind (run low high) officer ∷ [])) b)
-- WITHDRAW: "It is live until withdrawn, fulfilled or continued as old"
effect b (Some (Withdraw n officer)) = with_authorities (ended n b.authorities) b
-- AGREE
effect b (Some (Agree toa twa officer)) = with_authorities (amended twa (with_agreed toa) b.authorities) b
-- BLOCK, UNBLOCK
effect b (Some (Block g)) = with_blocks (insert g.0 b.blocks) b
effect b (Some (Unblock g)) = with_blocks (remove g.0 b.blocks) b
-- GRANT
effect b (Some (Grant n officer)) = with_authorities (amended n granted b.authorities) b
-- CLEAR, REOCCUPY
effect b (Some (Clear n officer)) = with_authorities (amended n (with_site false) b.authorities) b
effect b (Some (Reoccupy n officer)) = with_authorities (amended n (with_site true) b.authorities) b
-- HAND OVER
effect b (Some (HandOver n out into)) = with_authorities (amended n (with_officer into) b.authorities) b
-- FULFIL: "Blocks stay on."
effect b (Some (Fulfil n officer assurances)) =
    with_trains (freed n b.trains) (with_authorities (ended n b.authorities) b)
-- CONTINUE: "Old ends, new is in force with workers on."
effect b (Some (Continue old new officer_old officer_new)) =
    with_trains (continued old new (authority b new).limits b.trains)
    (with_authorities (amended new granted (ended old b.authorities)) b)
-- MOVE: "Blocks stay on."; order 5: a train from outside comes to its place "by ascending number"
effect b (Some (Move t g n officer)) =
    with_trains
    (cond (is_outside (gate_at b.gates g).from) (insert_by train_no (entered t (gate_at b.gates g).to n) b.trains)
    (moved t (with_head (gate_at b.gates g).to n) b.trains))
    b
-- PASSED: "a head outside takes the train off"
effect b (Some (Passed t)) =
    with_trains
    (cond (is_outside (train b t).head) (gone t b.trains) (moved t with_rear_in b.trains))
    b
-- TERM
effect b (Some (Term n day time minutes)) =
    with_authorities (amended n (with_term (minute_of day time) minutes) b.authorities) b
-- JOIN: "The TOA records the TWA"
effect b (Some (Join twa toa officer distance)) = with_authorities (amended toa (with_agreed twa) b.authorities) b
-- BOOK OUT, BOOK IN: of that gate alone
effect b (Some (BookOut g paper)) = with_bookings (set b.bookings g.0 (booked_out paper)) b
effect b (Some (BookIn g paper certified new)) = with_bookings (set b.bookings g.0 (booked_in paper certified new)) b
