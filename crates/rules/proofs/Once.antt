-- On every board that opening and calls return, live authorities and trains are held by ascending number, so each once,
-- at most 32 of each, and numbers are those allotted, 1 to 9999 at most. Assumes nothing.
use Rattle.std.specs.Prelude.{Option, Some, None}
use Prim.Native.Nat.{ℕ, suc, ◌≤◌, ◌<◌}
use native.Mathlib.Omega.{arith}
use mathlib.Core.Path.{◌≡◌, refl, sym, ap, subst}
use mathlib.Core.Logic.{⊎_elim}
use mathlib.Core.Bool.{Bool, true, false, cond}
use mathlib.Core.List.Memᴰ
use mathlib.Core.List.{List, [], ◌∷◌, ◌++◌}
use lib.ListN.{length, length-append}
use lib.Dec.{eqb, leb}
use borrow.Author.Tests.{eqb-true, leb-false}
use Rattle.lists.specs.Search.{any, keep, change}
use Rattle.lists.specs.Distinct.{Distinct}
use Rattle.lists.specs.Order.{Ascending, insert_by}
use Rattle.lists.proofs.Tests.{told, and_no_r}
use Rattle.lists.proofs.Search.{kept, changes_from, length-keep, length-change}
use Rattle.lists.proofs.Distinct.{changed-number}
use Rattle.lists.proofs.Order.{ascending_distinct, ascending_append, ascending_keep, ascending_change, ascending_insert}
use Rattle.lists.proofs.Order.{length_insert}
use Rattle.sets.specs.Sets.{run}
use Rattle.rules.specs.declared.TrainNo.{TrainNo}
use Rattle.rules.specs.declared.Gate.{Gate}
use Rattle.rules.specs.declared.Booking.{Booking}
use Rattle.rules.specs.declared.Authority.{Authority}
use Rattle.rules.specs.declared.Train.{Train}
use Rattle.rules.specs.declared.Seven.{Seven}
use Rattle.rules.specs.declared.Call.{Call}
use Rattle.rules.specs.declared.Call.TheVariants.{Request, Withdraw, Agree, Block, Unblock, Grant, Clear, Reoccupy}
use Rattle.rules.specs.declared.Call.TheVariants.{HandOver, Fulfil, Continue, Move, Passed, Term, Join, BookOut, BookIn}
use Rattle.rules.specs.Board.{Board, opened, is_outside, gate_at, authority_no, train_no, is_authority, is_train}
use Rattle.rules.specs.Board.{is_not_authority, is_not_train, authority, on_board, train, with_authorities, with_trains}
use Rattle.rules.specs.Board.{with_blocks, with_bookings, amended, ended, moved, gone}
use Rattle.rules.specs.Call.{minute_of, named}
use Rattle.rules.specs.Refusals.{own, full, no_room, not_there, answer}
use Rattle.rules.specs.Plan.{open_board}
use Rattle.rules.specs.Effects.{requested, granted, with_site, with_officer, with_agreed, with_term, entered, with_head}
use Rattle.rules.specs.Effects.{with_rear_in, is_with, continued_with, next_no, effect}
use Rattle.rules.specs.Step.{Once, after, Made, final}
use Rattle.rules.proofs.Answers.{condition_at}
use Rattle.rules.proofs.Accepted.{Accepted, accepted}
use Rattle.rules.proofs.Opening.{fresh}

-- ---- the authorities changed, or some ended; the trains changed, or some gone; numbers kept

module _ (b : Board) (o : Once b) where
  once_change : (test : Authority → Bool) (f : Authority → Authority)
      → ((a : Authority) → authority_no (f a) ≡ authority_no a)
      → Once (with_authorities (change test f b.authorities) b)
  once_change test f same = record {
    authorities = ascending_change authority_no test f same b.authorities o.authorities;
    trains = o.trains;
    live = omega (arith, length-change test f b.authorities, o.live);
    running = o.running;
    last = o.last;
    allotted =
        λ a m.
        let (x, mx, e) = changes_from test f b.authorities a m in
        omega (arith, ap authority_no e, changed-number authority_no test f same x, o.allotted x mx);
  }

  once_keep : (test : Authority → Bool) → Once (with_authorities (keep test b.authorities) b)
  once_keep test = record {
    authorities = ascending_keep authority_no test b.authorities o.authorities;
    trains = o.trains;
    live = omega (arith, length-keep test b.authorities, o.live);
    running = o.running;
    last = o.last;
    allotted = λ a m. o.allotted a (kept test b.authorities a m).member;
  }

  once_trains : (ts : List Train) → Ascending train_no ts → length ts ≤ 32 → Once (with_trains ts b)
  once_trains ts ascends few = record {
    authorities = o.authorities;
    trains = ascends;
    live = o.live;
    running = few;
    last = o.last;
    allotted = o.allotted;
  }

  once_change-trains : (test : Train → Bool) (f : Train → Train) → ((t : Train) → train_no (f t) ≡ train_no t)
      → Once (with_trains (change test f b.trains) b)
  once_change-trains test f same =
      once_trains (change test f b.trains) (ascending_change train_no test f same b.trains o.trains)
      (omega (arith, length-change test f b.trains, o.running))

  once_keep-trains : (test : Train → Bool) → Once (with_trains (keep test b.trains) b)
  once_keep-trains test =
      once_trains (keep test b.trains) (ascending_keep train_no test b.trains o.trains)
      (omega (arith, length-keep test b.trains, o.running))

-- ---- one more

once_request : (b : Board) (o : Once b) (a : Authority) → full b ≡ false → authority_no a ≡ suc b.last.0
    → Once (record {
      portions = b.portions;
      gates = b.gates;
      bookings = b.bookings;
      day = b.day;
      time = b.time;
      last = next_no b;
      blocks = b.blocks;
      authorities = b.authorities ++ (a ∷ []);
      trains = b.trains;
    })
unfolding full
once_request b o a room n =
    let few : length b.authorities < 32 = search (told, leb-false, room) in
    let few-numbers : b.last.0 < 9999 = search (told, leb-false, room) in
    record {
      authorities = ascending_append authority_no b.authorities a o.authorities (λ x m. omega (arith, o.allotted x m));
      trains = o.trains;
      live = omega (arith, length-append b.authorities (a ∷ []));
      running = o.running;
      last = omega arith;
      allotted =
          λ x m. ⊎_elim (λ k. omega (arith, o.allotted x k))
          (λ e. omega (arith, ap authority_no (Memᴰ.eq_of_singleton e))) (Memᴰ.append_cases b.authorities m);
    }

once_move : (b : Board) (o : Once b) (t : Train) (n : TrainNo) (f : Train → Train) (gate : Gate) → train_no t ≡ n.0
    → ((x : Train) → train_no (f x) ≡ train_no x)
    → no_room b gate ≡ false → not_there b n gate ≡ false
    → (z : Bool) → is_outside gate.from ≡ z
    → Once (with_trains (cond z (insert_by train_no t b.trains) (moved n f b.trains)) b)
unfolding no_room not_there on_board
once_move b o t n f gate e same room there true z =
    let few : length b.trains < 32 =
    leb-false 32 (length b.trains) (and_no_r (is_outside gate.from) (leb 32 (length b.trains)) room z) in
    let new : any (is_train n) b.trains ≡ false = rw z at there in
    once_trains b o (insert_by train_no t b.trains) (ascending_insert train_no t b.trains o.trains (rw e new))
    (omega (arith, length_insert train_no t b.trains))
once_move b o t n f gate e same room there false z = once_change-trains b o (is_train n) f same

once_passed : (b : Board) (o : Once b) (n : TrainNo) (z : Bool)
    → Once (with_trains (cond z (gone n b.trains) (moved n with_rear_in b.trains)) b)
once_passed b o n true = once_keep-trains b o (is_not_train n)
once_passed b o n false = once_change-trains b o (is_train n) with_rear_in (λ t. refl)

-- ---- any accepted call

-- blocks or bookings changed
once_beside : (b : Board) (o : Once b) (blocks : ℕ) (bookings : List Booking)
    → Once (with_bookings bookings (with_blocks blocks b))
once_beside b o blocks bookings = record {
  authorities = o.authorities;
  trains = o.trains;
  live = o.live;
  running = o.running;
  last = o.last;
  allotted = o.allotted;
}

once_effect : (b : Board) (o : Once b) (s : Seven) (c : Option Call) → Accepted b s c → Once (effect b c)
unfolding effect own condition_at
once_effect b o s None k = o
once_effect b o s (Some (Request kind low high officer)) k =
    once_request b o (requested (next_no b) kind (run low high) officer) (k.ok 9) refl
once_effect b o s (Some (Withdraw n officer)) k = once_keep b o (is_not_authority n)
once_effect b o s (Some (Agree toa twa officer)) k = once_change b o (is_authority twa) (with_agreed toa) (λ a. refl)
once_effect b o s (Some (Block g)) k = once_beside b o _ b.bookings
once_effect b o s (Some (Unblock g)) k = once_beside b o _ b.bookings
once_effect b o s (Some (Grant n officer)) k = once_change b o (is_authority n) granted (λ a. refl)
once_effect b o s (Some (Clear n officer)) k = once_change b o (is_authority n) (with_site false) (λ a. refl)
once_effect b o s (Some (Reoccupy n officer)) k = once_change b o (is_authority n) (with_site true) (λ a. refl)
once_effect b o s (Some (HandOver n out into)) k = once_change b o (is_authority n) (with_officer into) (λ a. refl)
once_effect b o s (Some (Fulfil n officer assurances)) k =
    once_change-trains (with_authorities (ended n b.authorities) b) (once_keep b o (is_not_authority n))
    (is_with n) _ (λ t. refl)
once_effect b o s (Some (Continue old new officer_old officer_new)) k =
    let b1 : Board = with_authorities (ended old b.authorities) b in
    let b2 : Board = with_authorities (amended new granted (ended old b.authorities)) b in
    once_change-trains b2
    (once_change b1 (once_keep b o (is_not_authority old)) (is_authority new) granted (λ a. refl))
    (is_with old)
    (continued_with new (authority b new).limits) (λ t. refl)
once_effect b o s (Some (Move t g n officer)) k =
    let gate : Gate = gate_at b.gates g in
    once_move b o (entered t gate.to n) t (with_head gate.to n) gate refl (λ x. refl) (k.ok 9) (k.ok 17)
    (is_outside gate.from) refl
once_effect b o s (Some (Passed t)) k = once_passed b o t (is_outside (train b t).head)
once_effect b o s (Some (Term n day time minutes)) k =
    once_change b o (is_authority n) (with_term (minute_of day time) minutes) (λ a. refl)
once_effect b o s (Some (Join twa toa officer distance)) k =
    once_change b o (is_authority toa) (with_agreed twa) (λ a. refl)
once_effect b o s (Some (BookOut g paper)) k = once_beside b o b.blocks _
once_effect b o s (Some (BookIn g paper certified new)) k = once_beside b o b.blocks _

once_step : (b : Board) (s : Seven) (room : ℕ) → Once b → (z : Bool) → eqb (answer b s room) 0 ≡ z
    → Once (cond z (Rattle.rules.specs.Board.with_stamp s.day s.time (effect b (named s))) b)
once_step b s room o true e =
    let k : Once (effect b (named s)) =
    once_effect b o s (named s) (accepted b s room (eqb-true (answer b s room) 0 e)) in
    record {
      authorities = k.authorities;
      trains = k.trains;
      live = k.live;
      running = k.running;
      last = k.last;
      allotted = k.allotted;
    }
once_step b s room o false e = o

-- THEOREM: every call keeps it, accepted or refused, and so does every list of calls; a freshly opened board has it
pub once_after : (b : Board) (s : Seven) (room : ℕ) → Once b → Once (after b s room)
unfolding after
once_after b s room o = once_step b s room o (eqb (answer b s room) 0) refl

pub once_final : (b : Board) (ms : List Made) → Once b → Once (final b ms)
unfolding final
once_final b [] o = o
once_final b (m ∷ ms) o = once_final (after b m.seven m.room) ms (once_after b m.seven m.room o)

pub once_opened : (portions : ℕ) (gates : List Gate) → Once (opened portions gates)
unfolding opened Ascending
once_opened portions gates = record {
  authorities = tt;
  trains = tt;
  live = omega arith;
  running = omega arith;
  last = omega arith;
  allotted = λ a m. elim m [ ];
}

pub once_open : (text : List ℕ) → Once (open_board text)
once_open text = let o = fresh text in subst Once (sym o.is_opened) (once_opened o.portions o.gates)

-- ---- what it tells

-- THEOREM: "each live authority and each train on the board is held once": no two have the same number
pub held_once : (b : Board) → Once b → Distinct authority_no b.authorities × Distinct train_no b.trains
held_once b o =
    (ascending_distinct authority_no b.authorities o.authorities, ascending_distinct train_no b.trains o.trains)

-- THEOREM, order 5: on a board opened from any plan text, after any list of calls, live authorities and trains are held
-- by ascending number
pub held_ascending : (text : List ℕ) (ms : List Made)
    → Ascending authority_no (final (open_board text) ms).authorities
    × Ascending train_no (final (open_board text) ms).trains
held_ascending text ms = let o = once_final (open_board text) ms (once_open text) in (o.authorities, o.trains)
