-- What the register holds (01, "Track and gates" and "What the register holds"; 02, order 1: terms, order 4: a TOA's
-- agreement, order 5: the order, order 6: bookings, order 7: agreements). Assumes nothing.
use Rattle.std.specs.Prelude.{ℕ, ◌≡◌, Bool, true, false, not, ◌&&◌, ◌||◌, List, [], ◌∷◌, length, replicate, get_or, eqb}
use Rattle.lists.specs.Search.{any, first, keep, change}
use Rattle.sets.specs.Sets.{has}
use Rattle.rules.specs.declared.AuthorityNo.{AuthorityNo}
use Rattle.rules.specs.declared.TrainNo.{TrainNo}
use Rattle.rules.specs.declared.GateNo.{GateNo}
use Rattle.rules.specs.declared.kind.Kind.{Kind}
use Rattle.rules.specs.declared.kind.Kind.TheVariants.{Lpa, Toa, Twa}
use Rattle.rules.specs.declared.Gate.{Gate}
use Rattle.rules.specs.declared.Booking.{Booking}
use Rattle.rules.specs.declared.Authority.{Authority}
use Rattle.rules.specs.declared.Train.{Train}
use Rattle.rules.specs.declared.Register.{Register}

-- ---- what a register stands for

-- A board: P portions, the gates in order and the booking of each (order 6), the last stamp, the last number, the
-- blocked gates as a set, live authorities and trains. 02, order 5: "Hold live authorities and trains by ascending
-- number after every call": `Once`, specs/Step.antt. 02, order 7: a TWA keeps the TOA that it has agreed, and a TOA the
-- TWA that it has joined, as recorded until it ends itself: `authority_stays`, proofs/Stays.antt.
pub record Board : Type 0 where
  pub portions : ℕ
  pub gates : List Gate
  pub bookings : List Booking
  pub day : ℕ
  pub time : ℕ
  pub last : AuthorityNo
  pub blocks : ℕ
  pub authorities : List Authority
  pub trains : List Train

-- the board that a register stands for
unfoldable pub board_of : Register → Board
board_of r = record {
  portions = r.portions;
  gates = r.gates.items;
  bookings = r.bookings.items;
  day = r.day;
  time = r.time;
  last = r.last;
  blocks = r.blocks;
  authorities = r.authorities.items;
  trains = r.trains.items;
}

-- the booking of a gate that isn't booked out of use: a paper is 1 to 9999, so that the paper 0 stands for none
abbrev pub no_booking : Booking
no_booking = record { paper = record { 0 = 0 }; replaced = record { 0 = 0 } }

-- "A freshly opened board has no authority, no train, no block, last stamp day 0 time 0, last number 0.", and no gate
-- of it is out
unfoldable pub opened : ℕ → List Gate → Board
opened portions gates = record {
  portions = portions;
  gates = gates;
  bookings = replicate (length gates) no_booking;
  day = 0;
  time = 0;
  last = record { 0 = 0 };
  blocks = 0;
  authorities = [];
  trains = [];
}

-- "The closed board is the same with P = G = 0."
unfoldable pub closed : Board
closed = opened 0 []

-- ---- places and gates

-- "99 in either place means outside the board"
abbrev pub outside : ℕ
outside = 99

abbrev pub is_outside : ℕ → Bool
is_outside place = eqb place outside

-- no gate, no authority, no train: what a search gives where there is none
abbrev pub no_gate : Gate
no_gate = record { from = 0; to = 0; kind = 0 }

abbrev pub no_authority : Authority
no_authority = record {
  number = record { 0 = 0 };
  kind = Lpa;
  limits = 0;
  officer = 0;
  in_force = false;
  workers_on = false;
  agreed = record { 0 = 0 };
  start = 0;
  minutes = 0;
}

abbrev pub no_train : Train
no_train = record { number = record { 0 = 0 }; head = 0; rear = 0; with = record { 0 = 0 } }

-- the gate with that number, and its booking
abbrev pub gate_at : List Gate → GateNo → Gate
gate_at gates g = get_or gates g.0 no_gate

abbrev pub booking_at : List Booking → GateNo → Booking
booking_at bookings g = get_or bookings g.0 no_booking

-- the gate is booked out of use (02, order 6)
unfoldable pub is_out : Board → GateNo → Bool
is_out b g = not (eqb (booking_at b.bookings g).paper.0 0)

-- "Kinds of gate: [..] 4 plain automatic signal."
abbrev pub is_plain : Gate → Bool
is_plain gate = eqb gate.kind 4

-- "Kinds 1 to 3 can be blocked, kind 4 can't."; 02, order 6: "A plain automatic signal may protect work while it is
-- booked out of use. [..] "Can be blocked", and 10 at BLOCK, now follow the booking."
unfoldable pub can_be_blocked : Board → GateNo → Bool
can_be_blocked b g = not (is_plain (gate_at b.gates g)) || is_out b g

-- ---- authorities and trains

-- "a kind (1 LPA, 2 TOA, 3 TWA; 1 and 2 are exclusive)"
abbrev pub kind_no : Kind → ℕ
kind_no Lpa = 1
kind_no Toa = 2
kind_no Twa = 3

abbrev pub exclusive : Kind → Bool
exclusive Lpa = true
exclusive Toa = true
exclusive Twa = false

abbrev pub is_lpa : Kind → Bool
is_lpa Lpa = true
is_lpa Toa = false
is_lpa Twa = false

abbrev pub is_toa : Kind → Bool
is_toa Lpa = false
is_toa Toa = true
is_toa Twa = false

abbrev pub is_twa : Kind → Bool
is_twa Lpa = false
is_twa Toa = false
is_twa Twa = true

-- "a stage (pending or in force), a site (workers on, or clear)"
abbrev pub is_in_force : Authority → Bool
is_in_force a = a.in_force

abbrev pub has_workers_on : Authority → Bool
has_workers_on a = a.workers_on

-- the authority has a term (02, order 1): one of 1 to 65535 minutes, so that 0 minutes stand for none
abbrev pub has_term : Authority → Bool
has_term a = not (eqb a.minutes 0)

-- the number of an authority, and of a train
abbrev pub authority_no : Authority → ℕ
authority_no a = a.number.0

abbrev pub train_no : Train → ℕ
train_no t = t.number.0

abbrev pub is_authority : AuthorityNo → Authority → Bool
is_authority n a = eqb (authority_no a) n.0

abbrev pub is_train : TrainNo → Train → Bool
is_train n t = eqb (train_no t) n.0

-- an authority with that number is live, and which it is
unfoldable pub live : Board → AuthorityNo → Bool
live b n = any (is_authority n) b.authorities

unfoldable pub authority : Board → AuthorityNo → Authority
authority b n = first (is_authority n) no_authority b.authorities

-- a train with that number is on the board, and which it is
unfoldable pub on_board : Board → TrainNo → Bool
on_board b n = any (is_train n) b.trains

unfoldable pub train : Board → TrainNo → Train
train b n = first (is_train n) no_train b.trains

-- "It touches a portion that holds its head or rear; outside is no portion." Of a set of portions, and of one portion.
unfoldable pub touches : ℕ → Train → Bool
touches limits t = has t.head limits || has t.rear limits

unfoldable pub touches_portion : ℕ → Train → Bool
touches_portion p t = not (is_outside p) && (eqb t.head p || eqb t.rear p)

-- "An authority needs each gate whose "to" is in its limits and whose "from" isn't."
unfoldable pub needs : ℕ → Gate → Bool
needs limits gate = has gate.to limits && not (has gate.from limits)

-- ---- a board changed in one thing

-- with these in the places that calls change; portions and gates are the plan's
abbrev pub changed : Board → List Booking → ℕ → ℕ → AuthorityNo → ℕ → List Authority → List Train → Board
changed b bookings day time n blocks authorities trains = record {
  portions = b.portions;
  gates = b.gates;
  bookings = bookings;
  day = day;
  time = time;
  last = n;
  blocks = blocks;
  authorities = authorities;
  trains = trains;
}

abbrev pub with_authorities : List Authority → Board → Board
with_authorities xs b = changed b b.bookings b.day b.time b.last b.blocks xs b.trains

abbrev pub with_trains : List Train → Board → Board
with_trains ts b = changed b b.bookings b.day b.time b.last b.blocks b.authorities ts

abbrev pub with_blocks : ℕ → Board → Board
with_blocks blocks b = changed b b.bookings b.day b.time b.last blocks b.authorities b.trains

abbrev pub with_bookings : List Booking → Board → Board
with_bookings bookings b = changed b bookings b.day b.time b.last b.blocks b.authorities b.trains

abbrev pub with_last : AuthorityNo → Board → Board
with_last n b = changed b b.bookings b.day b.time n b.blocks b.authorities b.trains

abbrev pub with_stamp : ℕ → ℕ → Board → Board
with_stamp day time b = changed b b.bookings day time b.last b.blocks b.authorities b.trains

-- the authorities with n changed by f, and with n gone; the same for trains
abbrev pub amended : AuthorityNo → (Authority → Authority) → List Authority → List Authority
amended n f xs = change (is_authority n) f xs

abbrev pub is_not_authority : AuthorityNo → Authority → Bool
is_not_authority n a = not (is_authority n a)

abbrev pub ended : AuthorityNo → List Authority → List Authority
ended n xs = keep (is_not_authority n) xs

abbrev pub moved : TrainNo → (Train → Train) → List Train → List Train
moved n f ts = change (is_train n) f ts

abbrev pub is_not_train : TrainNo → Train → Bool
is_not_train n t = not (is_train n t)

abbrev pub gone : TrainNo → List Train → List Train
gone n ts = keep (is_not_train n) ts

-- ---- 01's equality of registers

-- 02, order 1: "Terms count when registers are compared."; order 7: "Two registers are now equal only if the recorded
-- agreements are too, pending or in force, for TWAs and TOAs.", where 01 compared the TOA that a TWA has agreed, and
-- order 4 the TWA that a TOA has joined, while pending
pub record SameAuthority (x y : Authority) : Type 0 where
  pub number : x.number ≡ y.number
  pub kind : x.kind ≡ y.kind
  pub limits : x.limits ≡ y.limits
  pub officer : x.officer ≡ y.officer
  pub stage : is_in_force x ≡ is_in_force y
  pub site : has_workers_on x ≡ has_workers_on y
  pub agreed : is_twa x.kind ≡ true → x.agreed ≡ y.agreed
  pub joined : is_toa x.kind ≡ true → x.agreed ≡ y.agreed
  pub start : x.start ≡ y.start
  pub minutes : x.minutes ≡ y.minutes

-- the elements of two lists are alike, place for place
abbrev pub InOrder : {A : Type 0} → (A → A → Type 0) → List A → List A → Type 0
InOrder Like [] [] = Unit {0}
InOrder Like [] (y ∷ ys) = ⊥
InOrder Like (x ∷ xs) [] = ⊥
InOrder Like (x ∷ xs) (y ∷ ys) = Like x y × InOrder Like xs ys

-- "Two registers are equal when plan, last stamp, last number, blocks, live authorities and trains are equal as sets";
-- 02, order 5: "The comparison with document 01's register includes that order from now on.", so place for place; order
-- 6: "Bookings count when registers are compared."
pub record Same (b c : Board) : Type 0 where
  pub portions : b.portions ≡ c.portions
  pub gates : b.gates ≡ c.gates
  pub bookings : b.bookings ≡ c.bookings
  pub day : b.day ≡ c.day
  pub time : b.time ≡ c.time
  pub last : b.last ≡ c.last
  pub blocks : b.blocks ≡ c.blocks
  pub authorities : InOrder SameAuthority b.authorities c.authorities
  pub trains : b.trains ≡ c.trains
