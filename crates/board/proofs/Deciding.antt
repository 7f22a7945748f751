-- A call in the steps of the code: what the decoded call says of the answer, and what a call with room for its line
-- leaves. Assumes nothing.
use Rattle.std.proofs.Common.{◌≡◌, refl, sym, ap, subst, ◌∙◌, ℕ, suc, Bool, true, false, cond, ◌∷◌, length, eqb, eq-eqb}
use Rattle.std.proofs.Common.{ne_eqb, Option, Some, None, Result, Ok, Err}
use Rattle.std.proofs.Common.{zero, ⊎_elim, drop}
use lib.ListN.{get_or-eq_default}
use Rattle.std.specs.Prelude.{IsErr}
use Rattle.std.specs.Option.{ok_or}
use Rattle.std.specs.Result.{IsErrAnd}
use Rattle.std.proofs.lemmas.Result.{err_from_is_err_and}
use Rattle.std.proofs.lemmas.List.{length-set}
use Rattle.lists.proofs.Tests.{lt_or_le}
use Rattle.lists.proofs.Search.{Each, each_at}
use Rattle.rules.specs.declared.Seven.{Seven}
use Rattle.rules.specs.declared.Call.{Call}
use Rattle.rules.specs.declared.refusal.Refusal as Refused
use Rattle.rules.specs.declared.refusal.Refusal.TheVariants.{NoSuchCall, Field}
use Rattle.rules.specs.declared.AuthorityNo.{AuthorityNo}
use Rattle.rules.specs.declared.Call.TheVariants.{Request, Withdraw, Agree, Block, Unblock, Grant, Clear, Reoccupy}
use Rattle.rules.specs.declared.Call.TheVariants.{HandOver, Fulfil, Continue, Move, Passed, Term, Join, BookOut, BookIn}
use Rattle.rules.specs.declared.Register.{Register}
use Rattle.rules.specs.Board.{Board, board_of, authority, with_stamp}
use Rattle.rules.specs.declared.kind.Kind.{Kind}
use Rattle.rules.specs.Call.{Entry, kind_of, calls, no_entry, entry_of, is_call, in_ranges, named, decoded}
use Rattle.rules.specs.Refusals.{◌when◌, lowest, early, own, conditions, answer}
use Rattle.rules.specs.Effects.{booked_out, booked_in, effect}
use Rattle.rules.specs.Answer.{refusal_no, answer_no, number_no, is_numbered}
use Rattle.rules.specs.Step.{Kept, Bounds, Once, Starts, after, allotted}
use Rattle.rules.specs.Stored.{Stored, SortsApart, changes_sets}
use Rattle.rules.proofs.Accepted.{Ranges, in_ranges_lem, Accepted, accepted as allowed}
use Rattle.rules.proofs.Answers.{refused_same, refused_none, positive}
use Rattle.rules.proofs.Once.{once_after}
use Rattle.rules.proofs.Safety.{gates_stay}
use Rattle.rules.proofs.SetsStay.{sets_stay, sets_stamped, granted_beside, fulfilled_beside, continued_beside}
use Rattle.rules.proofs.SortsKept.{sorts_after}
use Rattle.rules.proofs.Terms.{starts_after}
use Rattle.authorities.specs.declared.stored.StoredSets.{StoredSets}
use Rattle.authorities.proofs.Gathered.{sets_of, gathered}
use Rattle.board.specs.Taking.{with_room, Allowed, TakePost, stored_in, named_limits, sets_left, CarriedOut}

-- ---- what the decoded call says of the answer

-- the call that the seven numbers are, with its answer where the buffer is long enough
pub data Decoded (b : Board) (s : Seven) : Result Call Refused.Refusal → Type 0 where
  faulty : (refusal : Refused.Refusal) → refusal_no refusal ≡ with_room b s → Decoded b s (Err refusal)
  sound : (c : Call) → named s ≡ Some c → with_room b s ≡ lowest (4 when early b s ∷ own b s (Some c))
      → Decoded b s (Ok c)

-- a call whose number and fields are in their ranges
named_cases : (b : Board) (s : Seven) (n : Option Call) → named s ≡ n → Ranges b n
    → with_room b s ≡ lowest (4 when early b s ∷ own b s n)
    → Decoded b s (ok_or n NoSuchCall)
named_cases b s None e k l = absurd k
named_cases b s (Some c) e k l = sound c e l

decoded_cases : (b : Board) (s : Seven) (x y : Bool) → is_call s.call ≡ x → in_ranges b.portions (length b.gates) s ≡ y
    → Decoded b s (cond x (cond y (ok_or (named s) NoSuchCall) (Err Field)) (Err NoSuchCall))
unfolding answer conditions lowest
decoded_cases b s false y e f = faulty NoSuchCall (rw e)
decoded_cases b s true false e f = faulty Field (rw (e, f))
decoded_cases b s true true e f = named_cases b s (named s) refl (in_ranges_lem b s e f) (rw (e, f))

pub is_decoded : (r : Register) (s : Seven) {n : ℕ} {d : Result Call Refused.Refusal} → d ≡ decoded r.portions n s
    → n ≡ length r.gates.items
    → Decoded (board_of r) s d
unfolding decoded board_of
is_decoded r s e l =
    let b = board_of r in
    rw (e, l) (decoded_cases b s (is_call s.call) (in_ranges b.portions (length b.gates) s) refl refl)

pub fault_answer : {b : Board} {s : Seven} {r : Result Call Refused.Refusal} {refusal : Refused.Refusal} → Decoded b s r
    → r ≡ Err refusal
    → refusal_no refusal ≡ with_room b s
fault_answer (faulty refusal e) is = ap (λ (x : Refused.Refusal). refusal_no x) (cc) ∙ e
fault_answer (sound c n e) is = cc

pub call_named : {b : Board} {s : Seven} {r : Result Call Refused.Refusal} {c : Call} → Decoded b s r → r ≡ Ok c
    → named s ≡ Some c
call_named (faulty refusal e) is = cc
call_named (sound c n e) is = cc

pub early_answer : {b : Board} {s : Seven} {r : Result Call Refused.Refusal} {c : Call} → Decoded b s r → r ≡ Ok c
    → early b s ≡ true
    → 4 ≡ with_room b s
unfolding lowest
early_answer (faulty refusal e) is l = cc
early_answer (sound c n e) is l = sym (e ∙ rw l)

pub own_answer : {b : Board} {s : Seven} {r : Result Call Refused.Refusal} {c : Call} → Decoded b s r → r ≡ Ok c
    → early b s ≡ false
    → lowest (own b s (Some c)) ≡ with_room b s
unfolding lowest
own_answer (faulty refusal e) is l = cc
own_answer {b} {s} {c = c} (sound d n e) is l =
    let same : d ≡ c = cc in
    subst (λ (x : Call). lowest (own b s (Some x)) ≡ with_room b s) same (sym (e ∙ rw l))

-- a refusal that `?` gives back
pub allowed_none : {b : Board} {s : Seven} (e : Refused.Refusal) (r : Result Call Refused.Refusal)
    → refusal_no e ≡ with_room b s
    → IsErrAnd r (λ x. x ≡ e) → Allowed b s r
allowed_none e r k gives =
    let p = err_from_is_err_and r gives in record { answered = rw (p.1, p.2) k; named = rw p.1 tt; free = rw p.1 tt }

pub allowed_one : {b : Board} {s : Seven} {d : Result Call Refused.Refusal} {c : Call} → Decoded b s d → d ≡ Ok c
    → early b s ≡ false
    → 0 ≡ lowest (own b s (Some c)) → Allowed b s (Ok c)
allowed_one k is l free = record { answered = free ∙ own_answer k is l; named = call_named k is; free = sym free }

-- ---- what a call with room for its line leaves

pub taken_refused : (r : Register) (s : Seven) (refusal : Refused.Refusal) → Kept r
    → refusal_no refusal ≡ with_room (board_of r) s
    → TakePost r s r (Err refusal)
taken_refused r s refusal k e =
    let no : with_room (board_of r) s ≡ 0 → ⊥ = λ z. positive refusal (e ∙ z) in
    record {
      board = sym (refused_same (board_of r) s 55 no);
      answered = e;
      number = sym (refused_none (board_of r) s 55 no);
      numbered = rw (ne_eqb (answer (board_of r) s 55) 0 no);
      unchanged = λ e. refl;
      kept = k;
    }

pub taken_none : {s : Seven} (e : Refused.Refusal) (r : Register) (given : Result (Option AuthorityNo) Refused.Refusal)
    → Kept r
    → refusal_no e ≡ with_room (board_of r) s → IsErrAnd given (λ x. x ≡ e) → TakePost r s r given
taken_none e r given k h gives = let p = err_from_is_err_and given gives in rw (p.1, p.2) (taken_refused r _ _ k h)

-- the register with another stamp
abbrev pub stamped : ℕ → ℕ → Register → Register
stamped day time r = record {
  portions = r.portions;
  gates = r.gates;
  bookings = r.bookings;
  day = day;
  time = time;
  last = r.last;
  blocks = r.blocks;
  authorities = r.authorities;
  trains = r.trains;
  exclusive_held = r.exclusive_held;
  twa_held = r.twa_held;
  needed = r.needed;
}

-- no call changes the portions, or how many bookings there are
sizes_stay : (b : Board) (c : Call)
    → ((effect b (Some c)).portions ≡ b.portions) × (length (effect b (Some c)).bookings ≡ length b.bookings)
unfolding effect
sizes_stay b (Request kind low high officer) = (refl, refl)
sizes_stay b (Withdraw n officer) = (refl, refl)
sizes_stay b (Agree toa twa officer) = (refl, refl)
sizes_stay b (Block g) = (refl, refl)
sizes_stay b (Unblock g) = (refl, refl)
sizes_stay b (Grant n officer) = (refl, refl)
sizes_stay b (Clear n officer) = (refl, refl)
sizes_stay b (Reoccupy n officer) = (refl, refl)
sizes_stay b (HandOver n out into) = (refl, refl)
sizes_stay b (Fulfil n officer assurances) = (refl, refl)
sizes_stay b (Continue old new officer_old officer_new) = (refl, refl)
sizes_stay b (Move t g n officer) = (refl, refl)
sizes_stay b (Passed t) = (refl, refl)
sizes_stay b (Term n day time minutes) = (refl, refl)
sizes_stay b (Join twa toa officer distance) = (refl, refl)
sizes_stay b (BookOut g paper) = (refl, length-set b.bookings g.0 (booked_out paper))
sizes_stay b (BookIn g paper certified new) = (refl, length-set b.bookings g.0 (booked_in paper certified new))

bounds_stay : (r out : Register) (c : Call) (day time : ℕ) → Bounds r → board_of out ≡ effect (board_of r) (Some c)
    → Once (board_of (stamped day time out)) → Bounds (stamped day time out)
unfolding board_of
bounds_stay r out c day time k e o = record {
  portions = rw (ap (λ (b : Board). b.portions) e ∙ (sizes_stay (board_of r) c).0) k.portions;
  gates = rw (ap (λ (b : Board). b.gates) e ∙ gates_stay (board_of r) (Some c)) k.gates;
  booked = rw (ap (λ (b : Board). length b.bookings) e ∙ (sizes_stay (board_of r) c).1) k.booked;
  live = o.live;
  running = o.running;
}

-- the three sets that it leaves are those that the live authorities give
abbrev three : ℕ → ℕ → ℕ → StoredSets
three x w n = record { exclusive_held = x; twa_held = w; needed = n }

same_sets : {x x' w w' n n' : ℕ} → x ≡ x' → w ≡ w' → n ≡ n' → three x w n ≡ three x' w' n'
same_sets e f g = rw (e, f, g) refl

sets_given : (r : Register) → Stored r → stored_in r ≡ sets_of (board_of r)
unfolding sets_of
sets_given r k = same_sets k.exclusive_held k.twa_held k.needed

given_stored : (r : Register) (day time : ℕ) → stored_in r ≡ sets_of (board_of r) → Stored (stamped day time r)
unfolding sets_of board_of
given_stored r day time e =
    let same = sets_stamped (board_of r) day time in
    record {
      exclusive_held = ap (λ (t : StoredSets). t.exclusive_held) e ∙ sym same.0;
      twa_held = ap (λ (t : StoredSets). t.twa_held) e ∙ sym same.1;
      needed = ap (λ (t : StoredSets). t.needed) e ∙ sym same.2;
    }

module _ (r : Register) (s : Seven) (k : Kept r) where
  abbrev before : Board
  before = board_of r

  abbrev left : Call → Board
  left c = effect before (Some c)

  -- of a call that changes none they are those held before it
  held_on : {c : Call} → Accepted before s (Some c) → changes_sets c ≡ false → stored_in r ≡ sets_of (left c)
  unfolding sets_of
  held_on {c} a q =
      let stay = sets_stay before s c k.once a q in
      sets_given r k.stored ∙ same_sets (sym stay.0) (sym stay.1) (sym stay.2)

  -- of any other they are made anew
  sets_carried : (c : Call) → Accepted before s (Some c)
      → sets_left (left c) (stored_in r) (named_limits before c) ≡ sets_of (left c)
  unfolding effect
  sets_carried (Request kind low high officer) a = held_on a refl
  sets_carried (Withdraw n officer) a = held_on a refl
  sets_carried (Agree toa twa officer) a = held_on a refl
  sets_carried (Block g) a = held_on a refl
  sets_carried (Unblock g) a = held_on a refl
  sets_carried (Grant n officer) a =
      gathered r k (Grant n officer) (authority before n).limits 0
      (λ g x y. granted_beside before k.once g n officer x)
  sets_carried (Clear n officer) a = held_on a refl
  sets_carried (Reoccupy n officer) a = held_on a refl
  sets_carried (HandOver n out into) a = held_on a refl
  sets_carried (Fulfil n officer assurances) a =
      gathered r k (Fulfil n officer assurances) (authority before n).limits 0
      (λ g x y. fulfilled_beside before k.once g n officer assurances x)
  sets_carried (Continue old new officer_old officer_new) a =
      gathered r k (Continue old new officer_old officer_new) (authority before old).limits
      (authority before new).limits
      (λ g x y. continued_beside before k.once g old new officer_old officer_new x y)
  sets_carried (Move t g n officer) a = held_on a refl
  sets_carried (Passed t) a = held_on a refl
  sets_carried (Term n day time minutes) a = held_on a refl
  sets_carried (Join twa toa officer distance) a = held_on a refl
  sets_carried (BookOut g paper) a = held_on a refl
  sets_carried (BookIn g paper certified new) a = held_on a refl

taken_accepted : (r : Register) (s : Seven) (c : Call) (out : Register)
    (given : Result (Option AuthorityNo) Refused.Refusal) → Kept r
    → named s ≡ Some c → with_room (board_of r) s ≡ 0 → CarriedOut r c out
    → answer_no given ≡ 0
    → number_no given ≡ cond (eqb s.call 1) (suc (board_of r).last.0) 0 → is_numbered given ≡ eqb s.call 1
    → TakePost r s (stamped s.day s.time out) given
unfolding board_of
taken_accepted r s c out given k is z (e, sets) accepted number numbered =
    let b : Board = board_of r in
    let a : Accepted b s (Some c) = subst (Accepted b s) is (allowed b s 55 z) in
    let after_is : with_stamp s.day s.time (board_of out) ≡ after b s 55 =
    accepted_after b s (board_of out) z (e ∙ ap (effect b) (sym is)) in
    record {
      board = after_is;
      answered = accepted ∙ sym z;
      number = number_is b s z number;
      numbered = rw (eq-eqb (answer b s 55) 0 z) numbered;
      unchanged = λ refused. absurd (not_refused given accepted refused);
      kept = record {
        bounds = bounds_stay r out c s.day s.time k.bounds e (subst Once (sym after_is) (once_after b s 55 k.once));
        once = subst Once (sym after_is) (once_after b s 55 k.once);
        starts = subst Starts (sym after_is) (starts_after b s 55 k.starts);
        stored = given_stored out s.day s.time (sets ∙ rw e (sets_carried r s k c a));
        sorts = subst SortsApart (sym after_is) (sorts_after b s 55 k.once k.sorts);
      };
    }
  where
    accepted_after : (b : Board) (s : Seven) (d : Board) → with_room b s ≡ 0 → d ≡ effect b (named s)
        → with_stamp s.day s.time d ≡ after b s 55
    accepted_after b s d z e = unfold after in rw (eq-eqb (answer b s 55) 0 z, e)

    not_refused : (given : Result (Option AuthorityNo) Refused.Refusal) → answer_no given ≡ 0 → IsErr given → ⊥
    not_refused (Ok n) e refused = cc
    not_refused (Err refusal) e refused = positive refusal e

    number_is : (b : Board) (s : Seven) {n : ℕ} → with_room b s ≡ 0 → n ≡ cond (eqb s.call 1) (suc b.last.0) 0
        → n ≡ allotted b s 55
    number_is b s z e = unfold allotted in e ∙ rw (eq-eqb (answer b s 55) 0 z)

-- ---- the number of an accepted call

-- an entry that names another call than REQUEST
abbrev OtherEntry : Entry → Type 0
OtherEntry e =
    (s : Seven) (kind : Kind) (low high officer : ℕ) → e.named s ≡ Some (Request kind low high officer) → ⊥

others : Each OtherEntry (drop 1 calls)
unfolding calls
others = (
  λ s k f l o e. cc,
  (
    λ s k f l o e. cc,
    (
      λ s k f l o e. cc,
      (
        λ s k f l o e. cc,
        (
          λ s k f l o e. cc,
          (
            λ s k f l o e. cc,
            (
              λ s k f l o e. cc,
              (
                λ s k f l o e. cc,
                (
                  λ s k f l o e. cc,
                  (
                    λ s k f l o e. cc,
                    (
                      λ s k f l o e. cc,
                      (
                        λ s k f l o e. cc,
                        (λ s k f l o e. cc, (λ s k f l o e. cc, (λ s k f l o e. cc, (λ s k f l o e. cc, tt)))),
                      ),
                    ),
                  ),
                ),
              ),
            ),
          ),
        ),
      ),
    ),
  ),
)

-- a call is a REQUEST where its number is 1, and in no other case
pub request_one : (s : Seven) (n : ℕ) (kind : Kind) (low high officer : ℕ)
    → (entry_of n).named s ≡ Some (Request kind low high officer) → n ≡ 1
unfolding entry_of calls
request_one s zero kind low high officer e = cc
request_one s (suc zero) kind low high officer e = refl
request_one s (suc (suc n)) kind low high officer e =
    ⊎_elim (λ l. absurd (each_at OtherEntry no_entry (drop 1 calls) others n l s kind low high officer e))
    (λ l. absurd (subst OtherEntry (sym (get_or-eq_default (drop 1 calls) no_entry l))
    (λ s k f l o e. cc) s kind low high officer e))
    (lt_or_le n 16)

pub one_request : (s : Seven) → s.call ≡ 1 → named s ≡ Some (Request (kind_of s.a) s.b s.c s.d)
unfolding named entry_of calls
one_request s e = rw e

pub taken_request : (r : Register) (s : Seven) (kind : Kind) (low high officer : ℕ) (out : Register) → Kept r
    → named s ≡ Some (Request kind low high officer) → with_room (board_of r) s ≡ 0
    → CarriedOut r (Request kind low high officer) out
    → TakePost r s (stamped s.day s.time out) (Ok (Some out.last))
unfolding board_of named effect
taken_request r s kind low high officer out k is z e =
    let one : s.call ≡ 1 = request_one s s.call kind low high officer is in
    taken_accepted r s (Request kind low high officer) out _ k is z e refl
    (rw (eq-eqb s.call 1 one) (ap (λ (b : Board). b.last.0) e.0))
    (sym (eq-eqb s.call 1 one))

pub taken_other : (r : Register) (s : Seven) (c : Call) (out : Register) → Kept r → named s ≡ Some c
    → with_room (board_of r) s ≡ 0
    → CarriedOut r c out
    → ((kind : Kind) (low high officer : ℕ) → c ≡ Request kind low high officer → ⊥)
    → TakePost r s (stamped s.day s.time out) (Ok None)
taken_other r s c out k is z e other =
    let no : s.call ≡ 1 → ⊥ = λ q. other _ _ _ _ (some_same c _ (sym is ∙ one_request s q)) in
    taken_accepted r s c out _ k is z e refl (rw (ne_eqb s.call 1 no)) (sym (ne_eqb s.call 1 no))
  where
    some_same : (c d : Call) → Some c ≡ Some d → c ≡ d
    some_same c d e = cc
