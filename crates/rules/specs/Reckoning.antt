-- Demand 3's reckoning: what is in force and since when, on site, agreed and blocked, and where and under which
-- authority trains stand, read off a list of calls and their answers in order (01, "The reckoning of demand 3"; 02,
-- orders 4 and 7). Nothing here reads a register. Assumes nothing.
use Rattle.std.specs.Prelude.{ℕ, suc, Bool, true, false, cond, ◌&&◌, List, [], ◌∷◌, eqb, Option, Some, None}
use Rattle.sets.specs.Sets.{between}
use Rattle.rules.specs.declared.kind.Kind.{Kind}
use Rattle.rules.specs.declared.kind.Kind.TheVariants.{Lpa}
use Rattle.rules.specs.declared.Gate.{Gate}
use Rattle.rules.specs.declared.Call.{Call}
use Rattle.rules.specs.declared.Call.TheVariants.{Request, Withdraw, Agree, Block, Unblock, Grant, Clear, Reoccupy}
use Rattle.rules.specs.declared.Call.TheVariants.{HandOver, Fulfil, Continue, Move, Passed, Term, Join, BookOut, BookIn}
use Rattle.rules.specs.Board.{is_outside, gate_at, is_toa, is_twa}
use Rattle.rules.specs.Call.{named}
use Rattle.rules.specs.Step.{Answered}

-- an authority: its kind and limits by its REQUEST, whether it is in force, its place among all that came into force
-- (`since`), whether its workers are on, the TOA that its last AGREE names, where it is the TWA, and the TWA that its
-- last JOIN names, where it is the TOA; 0 where there was none
pub record Reckoned : Type 0 where
  pub kind : Kind
  pub first : ℕ
  pub last : ℕ
  pub is_in_force : Bool
  pub since : ℕ
  pub has_workers_on : Bool
  pub agreed : ℕ
  pub joined : ℕ

-- whose agreement an authority rests on (02, order 7), for its whole life: a TWA on that of the TOA which its last
-- AGREE names, a TOA on that of the TWA which its last JOIN names; 0 for none, as for an LPA
abbrev pub agreement : Reckoned → ℕ
agreement x = cond (is_twa x.kind) x.agreed (cond (is_toa x.kind) x.joined 0)

-- a train: whether it is on the board, its head and rear, and the authority that it is under, 0 for none
pub record Position : Type 0 where
  pub on_board : Bool
  pub head : ℕ
  pub rear : ℕ
  pub under : ℕ

-- how many REQUESTs there were, and how often an authority came into force (`grants`); authorities, trains and blocks
-- by number
pub record Reckoning : Type 0 where
  pub requests : ℕ
  pub grants : ℕ
  pub authority : ℕ → Reckoned
  pub train : ℕ → Position
  pub blocked : ℕ → Bool

-- each by its parts
abbrev pub reckoned_as : Kind → ℕ → ℕ → Bool → ℕ → Bool → ℕ → ℕ → Reckoned
reckoned_as kind low high in_force since workers_on toa twa = record {
  kind = kind;
  first = low;
  last = high;
  is_in_force = in_force;
  since = since;
  has_workers_on = workers_on;
  agreed = toa;
  joined = twa;
}

abbrev pub reckoning : ℕ → ℕ → (ℕ → Reckoned) → (ℕ → Position) → (ℕ → Bool) → Reckoning
reckoning requests grants A T B = record {
  requests = requests;
  grants = grants;
  authority = A;
  train = T;
  blocked = B;
}

-- "At the start there is no authority, train, agreement or block"
abbrev pub no_reckoned : Reckoned
no_reckoned = reckoned_as Lpa 0 0 false 0 false 0 0

abbrev pub no_position : Position
no_position = record { on_board = false; head = 0; rear = 0; under = 0 }

abbrev pub at_start : Reckoning
at_start = reckoning 0 0 (λ n. no_reckoned) (λ t. no_position) (λ g. false)

-- f with x at n
unfoldable pub put : {X : Type 0} → ℕ → X → (ℕ → X) → ℕ → X
put n x f m = cond (eqb m n) x (f m)

abbrev pub with_reckoned : (ℕ → Reckoned) → Reckoning → Reckoning
with_reckoned f r = reckoning r.requests r.grants f r.train r.blocked

abbrev pub with_positions : (ℕ → Position) → Reckoning → Reckoning
with_positions f r = reckoning r.requests r.grants r.authority f r.blocked

abbrev pub with_blocked : (ℕ → Bool) → Reckoning → Reckoning
with_blocked f r = reckoning r.requests r.grants r.authority r.train f

-- ---- what becomes of one authority, and of one train

-- "The nth REQUEST gives authority n its kind and limits."
abbrev pub as_requested : Kind → ℕ → ℕ → Reckoned → Reckoned
as_requested kind low high x = reckoned_as kind low high x.is_in_force x.since x.has_workers_on x.agreed x.joined

-- "An authority is in force from its GRANT, or a CONTINUE as new, until its FULFIL, or a CONTINUE as old. In that time
-- its workers are on"; of two, the one with the lower `since` came into force earlier
abbrev pub as_forced : ℕ → Reckoned → Reckoned
as_forced since x = reckoned_as x.kind x.first x.last true since true x.agreed x.joined

-- "until its FULFIL, or a CONTINUE as old"
abbrev pub as_ended : Reckoned → Reckoned
as_ended x = reckoned_as x.kind x.first x.last false x.since false x.agreed x.joined

-- "save from a CLEAR to the next REOCCUPY"
abbrev pub as_sited : Bool → Reckoned → Reckoned
as_sited on x = reckoned_as x.kind x.first x.last x.is_in_force x.since on x.agreed x.joined

-- "A TOA and a TWA have an agreement if the TWA's last AGREE names that TOA."
abbrev pub as_agreed : ℕ → Reckoned → Reckoned
as_agreed toa x = reckoned_as x.kind x.first x.last x.is_in_force x.since x.has_workers_on toa x.joined

-- "the TOA's last JOIN counts, if it names that TWA" (02, order 4)
abbrev pub as_joined : ℕ → Reckoned → Reckoned
as_joined twa x = reckoned_as x.kind x.first x.last x.is_in_force x.since x.has_workers_on x.agreed twa

-- "A MOVE through a gate from outside puts the train's head and rear at the gate's "to"; any other MOVE puts the head
-- there and the rear stays. The train is then under the authority that the MOVE names, none for 0."
abbrev pub as_moved : Gate → ℕ → Position → Position
as_moved gate n x = record {
  on_board = true;
  head = gate.to;
  rear = cond (is_outside gate.from) gate.to x.rear;
  under = n;
}

-- "PASSED puts the rear where the head is; a head outside takes the train off."
abbrev pub as_passed : Position → Position
as_passed x = record {
  on_board = cond (is_outside x.head) false x.on_board;
  head = x.head;
  rear = x.head;
  under = x.under;
}

-- "At a CONTINUE each train under old with its head in the limits of new comes under new."
-- A train whose head isn't in them stays under old, which is then no longer in force.
abbrev pub as_continued : ℕ → ℕ → Reckoned → Position → Position
as_continued old new x t = record {
  on_board = t.on_board;
  head = t.head;
  rear = t.rear;
  under = cond (eqb t.under old && between x.first x.last t.head) new t.under;
}

-- authority n comes into force, later than each that did so before
abbrev pub forced : ℕ → Reckoning → Reckoning
forced n r =
    reckoning r.requests (suc r.grants) (put n (as_forced (suc r.grants) (r.authority n)) r.authority) r.train r.blocked

-- ---- one accepted call

unfoldable pub reckon : List Gate → Reckoning → Option Call → Reckoning
reckon gates r None = r
reckon gates r (Some (Request kind low high officer)) =
    reckoning (suc r.requests) r.grants
    (put (suc r.requests) (as_requested kind low high (r.authority (suc r.requests))) r.authority)
    r.train r.blocked
-- "WITHDRAW and HAND OVER change nothing here."
reckon gates r (Some (Withdraw n officer)) = r
reckon gates r (Some (HandOver n out into)) = r
reckon gates r (Some (Agree toa twa officer)) =
    with_reckoned (put twa.0 (as_agreed toa.0 (r.authority twa.0)) r.authority) r
-- "A gate is blocked if it has had a BLOCK and no UNBLOCK since."
reckon gates r (Some (Block g)) = with_blocked (put g.0 true r.blocked) r
reckon gates r (Some (Unblock g)) = with_blocked (put g.0 false r.blocked) r
reckon gates r (Some (Grant n officer)) = forced n.0 r
reckon gates r (Some (Clear n officer)) = with_reckoned (put n.0 (as_sited false (r.authority n.0)) r.authority) r
reckon gates r (Some (Reoccupy n officer)) = with_reckoned (put n.0 (as_sited true (r.authority n.0)) r.authority) r
reckon gates r (Some (Fulfil n officer assurances)) =
    with_reckoned (put n.0 (as_ended (r.authority n.0)) r.authority) r
reckon gates r (Some (Continue old new officer_old officer_new)) =
    forced new.0
    (with_positions (λ t. as_continued old.0 new.0 (r.authority new.0) (r.train t))
    (with_reckoned (put old.0 (as_ended (r.authority old.0)) r.authority) r))
reckon gates r (Some (Move t g n officer)) =
    with_positions (put t.0 (as_moved (gate_at gates g) n.0 (r.train t.0)) r.train) r
reckon gates r (Some (Passed t)) = with_positions (put t.0 (as_passed (r.train t.0)) r.train) r
-- TERM (02, order 1) changes nothing here: demand 3 speaks of what is in force, and a term is no part of that
reckon gates r (Some (Term n day time minutes)) = r
-- JOIN (02, order 4): of the TOA, as AGREE is of the TWA
reckon gates r (Some (Join twa toa officer distance)) =
    with_reckoned (put toa.0 (as_joined twa.0 (r.authority toa.0)) r.authority) r
-- BOOK OUT and BOOK IN (02, order 6) change nothing here: "A gate is blocked if it has had a BLOCK and no UNBLOCK
-- since.", whatever its booking
reckon gates r (Some (BookOut g paper)) = r
reckon gates r (Some (BookIn g paper certified new)) = r

-- ---- "The reckoning of demand 3 reads the list in order: each call's seven numbers and its answer"

-- "A call is accepted if its answer is 0. A refused call changes nothing here"
unfoldable pub reckoned : List Gate → Reckoning → List Answered → Reckoning
reckoned gates r [] = r
reckoned gates r (c ∷ cs) = reckoned gates (cond (eqb c.answer 0) (reckon gates r (named c.seven)) r) cs
