-- Bookings (02, order 6): "Limits in force stay protected through both calls." After every list of calls, on a board
-- opened from any plan text, each gate that an authority in force needs is blocked and can be blocked, and no call that
-- is accepted restores it; only plain automatic signals are out; and what BOOK OUT and BOOK IN record. Assumes nothing.
use Rattle.std.specs.Prelude.{Option, Some, None}
use Prim.Native.Nat.{ℕ, zero, suc, ◌≤◌, ◌<◌}
use native.Mathlib.Omega.{arith}
use native.Mathlib.Decide.{ℕ_discrete}
use mathlib.Core.Path.{◌≡◌, refl, sym, ap, subst, ◌∙◌}
use mathlib.Core.Logic.{⊎_elim}
use mathlib.Core.Bool.{Bool, true, false, cond, not, ◌||◌}
use mathlib.Core.List.{List, [], ◌∷◌}
use lib.ListN.{length, set, replicate, length-set, length-replicate}
use lib.Seq.{get_or-set_same, get_or-set_other}
use lib.Dec.{eqb}
use borrow.Author.Tests.{eqb-true, ne_eqb}
use Rattle.std.proofs.lemmas.Bool.{or_right, not-false}
use Rattle.lists.proofs.Tests.{truth, clash}
use Rattle.sets.specs.Sets.{has, insert, remove}
use Rattle.sets.proofs.Bits.{has_none}
use Rattle.sets.proofs.Laws.{in_insert, in_remove}
use Rattle.rules.specs.declared.GateNo.{GateNo}
use Rattle.rules.specs.declared.PaperNo.{PaperNo}
use Rattle.rules.specs.declared.Gate.{Gate}
use Rattle.rules.specs.declared.Booking.{Booking}
use Rattle.rules.specs.declared.Seven.{Seven}
use Rattle.rules.specs.declared.Call.{Call}
use Rattle.rules.specs.declared.Call.TheVariants.{Request, Withdraw, Agree, Block, Unblock, Grant, Clear, Reoccupy}
use Rattle.rules.specs.declared.Call.TheVariants.{HandOver, Fulfil, Continue, Move, Passed, Term, Join, BookOut, BookIn}
use Rattle.rules.specs.Board.{Board, opened, no_booking, gate_at, booking_at, is_out, is_plain, can_be_blocked}
use Rattle.rules.specs.Board.{with_blocks, with_bookings, with_stamp}
use Rattle.rules.specs.Call.{gate_of, named}
use Rattle.rules.specs.Refusals.{not_booked, restores_blocked, own, answer}
use Rattle.rules.specs.Effects.{booked_out, booked_in, effect}
use Rattle.rules.specs.Plan.{open_board}
use Rattle.rules.specs.Step.{Made, after, trace, final}
use Rattle.rules.specs.Reckoning.{Reckoned, at_start, reckoned}
use Rattle.rules.specs.Claim.{In, Forced}
use Rattle.rules.proofs.Answers.{condition_at}
use Rattle.rules.proofs.Accepted.{Accepted, accepted}
use Rattle.rules.proofs.Opening.{fresh}
use Rattle.rules.proofs.Safety.{demand_3, list_follows}

-- ---- what holds of the bookings of every board that opening and calls return

-- each gate has a place for its booking; only a plain automatic signal is out; and each gate whose block is on can be
-- blocked
pub record Booked (b : Board) : Type 0 where
  pub places : length b.bookings ≡ length b.gates
  pub plain : (g : GateNo) → is_out b g ≡ true → is_plain (gate_at b.gates g) ≡ true
  pub can : (g : GateNo) → has g.0 b.blocks ≡ true → can_be_blocked b g ≡ true

-- a board with the same gates, bookings and blocks
booked_still : (b c : Board) → c.gates ≡ b.gates → c.bookings ≡ b.bookings → c.blocks ≡ b.blocks → Booked b → Booked c
unfolding is_out can_be_blocked
booked_still b c gates bookings blocks B = record {
  places = rw (gates, bookings) B.places;
  plain = rw (gates, bookings) B.plain;
  can = rw (gates, bookings, blocks) B.can;
}

-- ---- the booking of one gate set

-- of that gate and of each other
each : (P : GateNo → Type 0) (g : GateNo) → P g → ((h : GateNo) → (h.0 ≡ g.0 → ⊥) → P h) → (h : GateNo) → P h
each P g p q h = pick (ℕ_discrete h.0 g.0)
  where
    pick : Dec (h.0 ≡ g.0) → P h
    pick (yes e) = subst (λ (i : ℕ). P (gate_of i)) (sym e) p
    pick (no e) = q h e

module _ (b : Board) (g : GateNo) (x : Booking) where
  -- that gate is out where the booking has a paper, and the others are as they were
  out_here : g.0 < length b.bookings → is_out (with_bookings (set b.bookings g.0 x) b) g ≡ not (eqb x.paper.0 0)
  unfolding is_out
  out_here l = ap (λ (y : Booking). not (eqb y.paper.0 0)) (get_or-set_same b.bookings g.0 x no_booking l)

  out_other : (h : GateNo) → (h.0 ≡ g.0 → ⊥) → is_out (with_bookings (set b.bookings g.0 x) b) h ≡ is_out b h
  unfolding is_out
  out_other h ne = ap (λ (y : Booking). not (eqb y.paper.0 0)) (get_or-set_other b.bookings g.0 h.0 x no_booking ne)

  -- of a plain signal, which stays out if its block is on
  booked_set : Booked b → g.0 < length b.gates → is_plain (gate_at b.gates g) ≡ true
      → (has g.0 b.blocks ≡ true → not (eqb x.paper.0 0) ≡ true)
      → Booked (with_bookings (set b.bookings g.0 x) b)
  unfolding can_be_blocked
  booked_set B l plain stays =
      let here : is_out (with_bookings (set b.bookings g.0 x) b) g ≡ not (eqb x.paper.0 0) =
      out_here (omega (arith, B.places)) in
      record {
        places = length-set b.bookings g.0 x ∙ B.places;
        plain =
            each (λ (h : GateNo). is_out (with_bookings (set b.bookings g.0 x) b) h ≡ true
            → is_plain (gate_at b.gates h) ≡ true) g
            (λ e. plain) (λ h ne e. B.plain h (sym (out_other h ne) ∙ e));
        can =
            each (λ (h : GateNo). has h.0 b.blocks ≡ true
            → (not (is_plain (gate_at b.gates h)) || is_out (with_bookings (set b.bookings g.0 x) b) h) ≡ true) g
            (λ e. or_right (not (is_plain (gate_at b.gates g))) (is_out (with_bookings (set b.bookings g.0 x) b) g)
            (here ∙ stays e))
            (λ h ne e. rw (out_other h ne) (B.can h e));
      }

-- ---- blocks

-- BLOCK of a gate that can be blocked, and UNBLOCK
booked_block : (b : Board) → Booked b → (g : GateNo) → can_be_blocked b g ≡ true
    → Booked (with_blocks (insert g.0 b.blocks) b)
unfolding is_out can_be_blocked
booked_block b B g ok = record {
  places = B.places;
  plain = B.plain;
  can =
      λ h e. ⊎_elim (λ (q : h.0 ≡ g.0). subst (λ (k : ℕ). can_be_blocked b (gate_of k) ≡ true) (sym q) ok) (B.can h)
      (in_insert g.0 b.blocks h.0 e);
}

booked_unblock : (b : Board) → Booked b → (g : GateNo) → Booked (with_blocks (remove g.0 b.blocks) b)
unfolding is_out can_be_blocked
booked_unblock b B g =
    record { places = B.places; plain = B.plain; can = λ h e. B.can h (in_remove g.0 b.blocks h.0 e).1 }

-- ---- any accepted call

-- a paper has a number
some_paper : (n : ℕ) → 1 ≤ n → not (eqb n 0) ≡ true
some_paper n h = ap not (ne_eqb n 0 (λ e. omega arith))

-- 5: the gate is out under the call's paper
is_out_lem : (b : Board) (g : GateNo) (paper : PaperNo) → 1 ≤ paper.0 → not_booked b g paper ≡ false → is_out b g ≡ true
unfolding not_booked is_out
is_out_lem b g paper h e =
    let same : (booking_at b.bookings g).paper.0 ≡ paper.0 =
    eqb-true (booking_at b.bookings g).paper.0 paper.0 (not-false _ e) in
    some_paper (booking_at b.bookings g).paper.0 (omega arith)

booked_effect : (b : Board) → Booked b → (s : Seven) (c : Option Call) → Accepted b s c → Booked (effect b c)
unfolding effect own condition_at restores_blocked
booked_effect b B s None k = B
booked_effect b B s (Some (Request kind low high officer)) k = booked_still b _ refl refl refl B
booked_effect b B s (Some (Withdraw n officer)) k = booked_still b _ refl refl refl B
booked_effect b B s (Some (Agree toa twa officer)) k = booked_still b _ refl refl refl B
booked_effect b B s (Some (Block g)) k = booked_block b B g (not-false _ (k.ok 10))
booked_effect b B s (Some (Unblock g)) k = booked_unblock b B g
booked_effect b B s (Some (Grant n officer)) k = booked_still b _ refl refl refl B
booked_effect b B s (Some (Clear n officer)) k = booked_still b _ refl refl refl B
booked_effect b B s (Some (Reoccupy n officer)) k = booked_still b _ refl refl refl B
booked_effect b B s (Some (HandOver n out into)) k = booked_still b _ refl refl refl B
booked_effect b B s (Some (Fulfil n officer assurances)) k = booked_still b _ refl refl refl B
booked_effect b B s (Some (Continue old new officer_old officer_new)) k = booked_still b _ refl refl refl B
booked_effect b B s (Some (Move t g n officer)) k = booked_still b _ refl refl refl B
booked_effect b B s (Some (Passed t)) k = booked_still b _ refl refl refl B
booked_effect b B s (Some (Term n day time minutes)) k = booked_still b _ refl refl refl B
booked_effect b B s (Some (Join twa toa officer distance)) k = booked_still b _ refl refl refl B
booked_effect b B s (Some (BookOut g paper)) k =
    booked_set b g (booked_out paper) B k.ranges.0 (not-false _ (k.ok 10)) (λ e. some_paper paper.0 k.ranges.1)
-- 25: a gate whose block is on is not restored
booked_effect b B s (Some (BookIn g paper true new)) k =
    booked_set b g no_booking B k.ranges.0 (B.plain g (is_out_lem b g paper k.ranges.1 (k.ok 5)))
    (λ e. clash e (k.ok 25))
booked_effect b B s (Some (BookIn g paper false new)) k =
    booked_set b g (booked_in paper false new) B k.ranges.0
    (B.plain g (is_out_lem b g paper k.ranges.1 (k.ok 5)))
    (λ e. some_paper new.0 (k.ranges.2 refl))

booked_step : (b : Board) (s : Seven) (room : ℕ) → Booked b → (z : Bool) → eqb (answer b s room) 0 ≡ z
    → Booked (cond z (with_stamp s.day s.time (effect b (named s))) b)
booked_step b s room B true e =
    booked_still (effect b (named s)) (with_stamp s.day s.time (effect b (named s))) refl refl refl
    (booked_effect b B s (named s) (accepted b s room (eqb-true (answer b s room) 0 e)))
booked_step b s room B false e = B

-- THEOREM: every call keeps it, accepted or refused, and so does every list of calls; a freshly opened board has it
pub booked_after : (b : Board) (s : Seven) (room : ℕ) → Booked b → Booked (after b s room)
unfolding after
booked_after b s room B = booked_step b s room B (eqb (answer b s room) 0) refl

pub booked_final : (b : Board) (ms : List Made) → Booked b → Booked (final b ms)
unfolding final
booked_final b [] B = B
booked_final b (m ∷ ms) B = booked_final (after b m.seven m.room) ms (booked_after b m.seven m.room B)

none_booked : (n i : ℕ) → booking_at (replicate n no_booking) (gate_of i) ≡ no_booking
none_booked zero i = refl
none_booked (suc n) zero = refl
none_booked (suc n) (suc i) = none_booked n i

pub booked_opened : (portions : ℕ) (gates : List Gate) → Booked (opened portions gates)
unfolding opened is_out
booked_opened portions gates = record {
  places = length-replicate (length gates) no_booking;
  plain = λ g e. clash e (ap (λ (y : Booking). not (eqb y.paper.0 0)) (none_booked (length gates) g.0));
  can = λ g e. clash e (has_none g.0);
}

-- THEOREM: on a board opened from any plan text, after any list of calls, each gate has a place for its booking, only
-- plain automatic signals are out, and each gate whose block is on can be blocked
pub list_booked : (text : List ℕ) (ms : List Made) → Booked (final (open_board text) ms)
list_booked text ms =
    let o = fresh text in
    booked_final (open_board text) ms (subst Booked (sym o.is_opened) (booked_opened o.portions o.gates))

-- ---- limits in force stay protected

-- authority n is in force and needs the gate, by what is reckoned from the calls and their answers: "An authority needs
-- each gate whose "to" is in its limits and whose "from" isn't."
pub record NeededBy (gates : List Gate) (A : ℕ → Reckoned) (n : ℕ) (g : GateNo) : Type 0 where
  pub force : Forced A n
  pub gate : g.0 < length gates
  pub into : In (A n) (gate_at gates g).to
  pub from : In (A n) (gate_at gates g).from → ⊥

module _ (text : List ℕ) (ms : List Made) where
  abbrev b : Board
  b = final (open_board text) ms

  abbrev gates : List Gate
  gates = (open_board text).gates

  abbrev A : ℕ → Reckoned
  A = (reckoned gates at_start (trace (open_board text) ms)).authority

  -- THEOREM, order 6: "Limits in force stay protected through both calls.": after any list of calls, BOOK OUT and BOOK
  -- IN among them, a gate that an authority in force needs is blocked, and can be blocked
  pub limits_protected : (n : ℕ) (g : GateNo) → NeededBy gates A n g
      → (has g.0 b.blocks ≡ true) × (can_be_blocked b g ≡ true)
  limits_protected n g h =
      let on : has g.0 b.blocks ≡ true =
      ((list_follows text ms).blocked g.0 ((demand_3 text ms).protected n g.0 h.force h.gate h.into h.from)).1 in
      (on, (list_booked text ms).can g on)

  -- THEOREM, order 6: a needed gate that is blocked can't be restored: after any list of calls no BOOK IN that would
  -- restore it is accepted
  pub needed_not_restored : (n : ℕ) (g : GateNo) → NeededBy gates A n g → (s : Seven) (room : ℕ) (paper new : PaperNo)
      → named s ≡ Some (BookIn g paper true new) → answer b s room ≡ 0 → ⊥
  unfolding own condition_at restores_blocked
  needed_not_restored n g h s room paper new is e =
      let k : Accepted b s (Some (BookIn g paper true new)) = subst (Accepted b s) is (accepted b s room e) in
      clash (limits_protected n g h).0 (k.ok 25)

-- ---- what BOOK OUT and BOOK IN record, and 5

module _ (b : Board) (B : Booked b) (s : Seven) where
  -- the gate's booking is the call's; those of the others stay
  pub books_out : (g : GateNo) (paper : PaperNo) → Accepted b s (Some (BookOut g paper))
      → booking_at (effect b (Some (BookOut g paper))).bookings g ≡ booked_out paper
  unfolding effect
  books_out g paper k =
      get_or-set_same b.bookings g.0 (booked_out paper) no_booking (omega (arith, B.places, k.ranges.0))

  pub books_in : (g : GateNo) (paper : PaperNo) (certified : Bool) (new : PaperNo)
      → Accepted b s (Some (BookIn g paper certified new))
      → booking_at (effect b (Some (BookIn g paper certified new))).bookings g ≡ booked_in paper certified new
  unfolding effect
  books_in g paper certified new k =
      get_or-set_same b.bookings g.0 (booked_in paper certified new) no_booking (omega (arith, B.places, k.ranges.0))

  -- 5 holds of a gate that isn't out, and of a gate of another kind than 4
  pub not_out : (g : GateNo) (paper : PaperNo) → 1 ≤ paper.0 → is_out b g ≡ false → not_booked b g paper ≡ true
  not_out g paper h e = ⊎_elim (λ t. t) (λ f. clash (is_out_lem b g paper h f) e) (truth (not_booked b g paper))

  pub not_plain : (g : GateNo) (paper : PaperNo) → 1 ≤ paper.0 → is_plain (gate_at b.gates g) ≡ false
      → not_booked b g paper ≡ true
  not_plain g paper h e =
      ⊎_elim (λ t. t) (λ f. clash (B.plain g (is_out_lem b g paper h f)) e) (truth (not_booked b g paper))
