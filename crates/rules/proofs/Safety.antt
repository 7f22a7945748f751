-- Demand 3: after every list of calls, with any seven numbers and any line buffer, accepted or refused, on a board
-- opened from any plan text, what is reckoned from the calls and their answers is safe. One theorem about the whole
-- list, `demand_3`. Assumes nothing.
use Rattle.std.specs.Prelude.{Option, Some, None}
use Prim.Native.Nat.{ℕ, ◌≤◌}
use mathlib.Core.Path.{◌≡◌, refl, sym, subst}
use mathlib.Core.Bool.{Bool, true, false, cond, false≢true}
use mathlib.Core.List.{List, [], ◌∷◌}
use lib.ListN.{length}
use lib.Dec.{eqb}
use borrow.Author.Tests.{eqb-true}
use Rattle.lists.proofs.Tests.{clash}
use Rattle.sets.proofs.Bits.{has_none}
use Rattle.rules.specs.declared.Gate.{Gate}
use Rattle.rules.specs.declared.Seven.{Seven}
use Rattle.rules.specs.declared.Call.{Call}
use Rattle.rules.specs.declared.Call.TheVariants.{Request, Withdraw, Agree, Block, Unblock, Grant, Clear, Reoccupy}
use Rattle.rules.specs.declared.Call.TheVariants.{HandOver, Fulfil, Continue, Move, Passed, Term, Join, BookOut, BookIn}
use Rattle.rules.specs.Board.{Board, opened, with_stamp}
use Rattle.rules.specs.Call.{named}
use Rattle.rules.specs.Refusals.{answer}
use Rattle.rules.specs.Effects.{effect}
use Rattle.rules.specs.Plan.{open_board}
use Rattle.rules.specs.Step.{Made, after, trace, final}
use Rattle.rules.specs.Reckoning.{Reckoning, at_start, reckon, reckoned}
use Rattle.rules.specs.Claim.{Safe}
use Rattle.rules.proofs.Accepted.{Accepted, accepted}
use Rattle.rules.proofs.Opening.{fresh}
use Rattle.rules.proofs.Follows.{Follows, follows_beside}
use Rattle.rules.proofs.KeepsSafe.{safe_start}
use Rattle.rules.proofs.Recording.{Keeps, keeps_request, keeps_withdraw, keeps_agree, keeps_join, keeps_block}
use Rattle.rules.proofs.Recording.{keeps_unblock, keeps_clear, keeps_hand_over, keeps_term, keeps_book_out}
use Rattle.rules.proofs.Recording.{keeps_book_in, keeps_fulfil}
use Rattle.rules.proofs.Granting.{keeps_grant, keeps_reoccupy, keeps_continue}
use Rattle.rules.proofs.Moving.{keeps_move, keeps_passed}

-- ---- any accepted call

keeps : (b : Board) (r : Reckoning) → Follows b r → Safe b.gates r → (s : Seven) (c : Option Call) → Accepted b s c
    → Keeps b r c
keeps b r F S s None k = absurd k.ranges
keeps b r F S s (Some (Request kind low high officer)) k = keeps_request b r F S s kind low high officer k
keeps b r F S s (Some (Withdraw n officer)) k = keeps_withdraw b r F S s n officer k
keeps b r F S s (Some (Agree toa twa officer)) k = keeps_agree b r F S s toa twa officer k
keeps b r F S s (Some (Block g)) k = keeps_block b r F S s g k
keeps b r F S s (Some (Unblock g)) k = keeps_unblock b r F S s g k
keeps b r F S s (Some (Grant n officer)) k = keeps_grant b r F S s n officer k
keeps b r F S s (Some (Clear n officer)) k = keeps_clear b r F S s n officer k
keeps b r F S s (Some (Reoccupy n officer)) k = keeps_reoccupy b r F S s n officer k
keeps b r F S s (Some (HandOver n out into)) k = keeps_hand_over b r F S s n out into
keeps b r F S s (Some (Fulfil n officer assurances)) k = keeps_fulfil b r F S s n officer assurances
keeps b r F S s (Some (Continue old new officer_old officer_new)) k =
    keeps_continue b r F S s old new officer_old officer_new k
keeps b r F S s (Some (Move t g n officer)) k = keeps_move b r F S s t g n officer k
keeps b r F S s (Some (Passed t)) k = keeps_passed b r F S s t k
keeps b r F S s (Some (Term n day time minutes)) k = keeps_term b r F S s n day time minutes
keeps b r F S s (Some (Join twa toa officer distance)) k = keeps_join b r F S s twa toa officer distance k
keeps b r F S s (Some (BookOut g paper)) k = keeps_book_out b r F S s g paper
keeps b r F S s (Some (BookIn g paper certified new)) k = keeps_book_in b r F S s g paper certified new

-- the plan stays
pub gates_stay : (b : Board) (c : Option Call) → (effect b c).gates ≡ b.gates
unfolding effect
gates_stay b None = refl
gates_stay b (Some (Request kind low high officer)) = refl
gates_stay b (Some (Withdraw n officer)) = refl
gates_stay b (Some (Agree toa twa officer)) = refl
gates_stay b (Some (Block g)) = refl
gates_stay b (Some (Unblock g)) = refl
gates_stay b (Some (Grant n officer)) = refl
gates_stay b (Some (Clear n officer)) = refl
gates_stay b (Some (Reoccupy n officer)) = refl
gates_stay b (Some (HandOver n out into)) = refl
gates_stay b (Some (Fulfil n officer assurances)) = refl
gates_stay b (Some (Continue old new officer_old officer_new)) = refl
gates_stay b (Some (Move t g n officer)) = refl
gates_stay b (Some (Passed t)) = refl
gates_stay b (Some (Term n day time minutes)) = refl
gates_stay b (Some (Join twa toa officer distance)) = refl
gates_stay b (Some (BookOut g paper)) = refl
gates_stay b (Some (BookIn g paper certified new)) = refl

-- ---- a list of calls

-- what is to be shown of a list of calls from a board and a reckoning: what is reckoned is safe, and the board b
-- after the list follows it
pub record Holds (gates : List Gate) (b : Board) (r : Reckoning) : Type 0 where
  pub safe : Safe gates r
  pub follows : Follows b r

list_step : (b : Board) (r : Reckoning) (m : Made) (ms : List Made)
    → ((b' : Board) (r' : Reckoning) → Follows b' r' → Safe b'.gates r'
    → Holds b'.gates (final b' ms) (reckoned b'.gates r' (trace b' ms)))
    → Follows b r → Safe b.gates r → (z : Bool) → eqb (answer b m.seven m.room) 0 ≡ z
    → let b' = cond z (with_stamp m.seven.day m.seven.time (effect b (named m.seven))) b in
    Holds b.gates (final b' ms) (reckoned b.gates (cond z (reckon b.gates r (named m.seven)) r) (trace b' ms))
list_step b r m ms ih F S true e =
    let c : Option Call = named m.seven in
    let k : Keeps b r c =
    keeps b r F S m.seven c (accepted b m.seven m.room (eqb-true (answer b m.seven m.room) 0 e)) in
    let b' : Board = with_stamp m.seven.day m.seven.time (effect b c) in
    let r' : Reckoning = reckon b.gates r c in
    subst (λ (gs : List Gate). Holds gs (final b' ms) (reckoned gs r' (trace b' ms))) (gates_stay b c)
    (ih b' r' (follows_beside (effect b c) r' k.follows m.seven.day m.seven.time (effect b c).bookings)
    (subst (λ (gs : List Gate). Safe gs r') (sym (gates_stay b c)) k.safe))
list_step b r m ms ih F S false e = ih b r F S

list_holds : (ms : List Made) (b : Board) (r : Reckoning) → Follows b r → Safe b.gates r
    → Holds b.gates (final b ms) (reckoned b.gates r (trace b ms))
unfolding reckoned trace final after
list_holds [] b r F S = record { safe = S; follows = F }
list_holds (m ∷ ms) b r F S = list_step b r m ms (list_holds ms) F S (eqb (answer b m.seven m.room) 0) refl

opened_follows : (portions : ℕ) (gates : List Gate) → portions ≤ 64 → length gates ≤ 64
    → Follows (opened portions gates) at_start
unfolding opened
opened_follows portions gates h few = record {
  requests = refl;
  portions = h;
  held = λ a m. elim m [ ];
  rests = λ a m. elim m [ ];
  since = λ n f. absurd (false≢true f);
  there = λ n f. absurd (false≢true f);
  placed = λ t m. elim m [ ];
  runs = λ n on. absurd (false≢true on);
  blocks = λ g e. clash e (has_none g);
  gates = few;
  blocked = λ g e. absurd (false≢true e);
  unallotted = λ n l. (refl, refl);
}

-- a freshly opened board of at most 64 portions and 64 gates
pub opened_holds : (portions : ℕ) (gates : List Gate) → portions ≤ 64 → length gates ≤ 64 → (ms : List Made)
    → Holds gates (final (opened portions gates) ms) (reckoned gates at_start (trace (opened portions gates) ms))
unfolding opened
opened_holds portions gates h few ms =
    list_holds ms (opened portions gates) at_start (opened_follows portions gates h few) (safe_start gates)

text_holds : (text : List ℕ) (ms : List Made)
    → Holds (open_board text).gates (final (open_board text) ms)
    (reckoned (open_board text).gates at_start (trace (open_board text) ms))
unfolding opened
text_holds text ms =
    let o = fresh text in
    subst (λ (b : Board). Holds b.gates (final b ms) (reckoned b.gates at_start (trace b ms))) (sym o.is_opened)
    (opened_holds o.portions o.gates o.few_portions o.few_gates ms)

-- THEOREM, demand 3: any plan text, a refused one too, and any list of calls; the answers are those of `trace`
pub demand_3 : (text : List ℕ) (ms : List Made)
    → Safe (open_board text).gates (reckoned (open_board text).gates at_start (trace (open_board text) ms))
demand_3 text ms = (text_holds text ms).safe

-- and the board after the list follows what is reckoned: each live authority has the kind and the limits of its REQUEST
pub list_follows : (text : List ℕ) (ms : List Made)
    → Follows (final (open_board text) ms) (reckoned (open_board text).gates at_start (trace (open_board text) ms))
list_follows text ms = (text_holds text ms).follows
