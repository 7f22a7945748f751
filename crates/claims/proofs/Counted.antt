-- The numbers that REQUESTs are given are counted: each gets the next, and no other call one. Assumes nothing.
use Prim.Native.Nat.{ℕ, suc, ◌+◌}
use native.Mathlib.Nat.{add-zero}
use native.Mathlib.Omega.{arith}
use mathlib.Core.Path.{◌≡◌, refl, sym, ap, ◌∙◌}
use mathlib.Core.Bool.{Bool, true, false, cond, ◌&&◌, true≢false}
use mathlib.Core.List.{List, [], ◌∷◌, map}
use lib.Dec.{eqb}
use lib.ListN.{length}
use borrow.Author.Tests.{eqb-true, eq-eqb}
use Rattle.std.specs.Prelude.{Option, Some, None}
use Rattle.std.specs.List.{filter}
use Rattle.rules.specs.declared.AuthorityNo.{AuthorityNo}
use Rattle.rules.specs.declared.kind.Kind.{Kind}
use Rattle.rules.specs.declared.Seven.{Seven}
use Rattle.rules.specs.declared.Call.{Call}
use Rattle.rules.specs.declared.Call.TheVariants.{Request, Withdraw, Agree, Block, Unblock, Grant, Clear, Reoccupy}
use Rattle.rules.specs.declared.Call.TheVariants.{HandOver, Fulfil, Continue, Move, Passed, Term, Join, BookOut, BookIn}
use Rattle.rules.specs.Board.{Board, opened, with_stamp}
use Rattle.rules.specs.Call.{named}
use Rattle.rules.specs.Plan.{open_board}
use Rattle.rules.specs.Refusals.{answer}
use Rattle.rules.specs.Effects.{effect}
use Rattle.rules.specs.Step.{Made, Answered, after, allotted, trace, final}
use Rattle.rules.proofs.Opening.{fresh}
use Rattle.board.proofs.Deciding.{request_one, one_request}
use Rattle.claims.specs.Told.{is_request, numbers_due, count_requests, tells}

-- ---- the last number, after one call

-- another call than REQUEST
abbrev Other : Option Call → Type 0
Other c = (kind : Kind) (p q officer : ℕ) → c ≡ Some (Request kind p q officer) → ⊥

other_last : (b : Board) (c : Option Call) → Other c → (effect b c).last ≡ b.last
unfolding effect
other_last b None h = refl
other_last b (Some (Request kind p q officer)) h = absurd (h kind p q officer refl)
other_last b (Some (Withdraw n officer)) h = refl
other_last b (Some (Agree toa twa officer)) h = refl
other_last b (Some (Block g)) h = refl
other_last b (Some (Unblock g)) h = refl
other_last b (Some (Grant n officer)) h = refl
other_last b (Some (Clear n officer)) h = refl
other_last b (Some (Reoccupy n officer)) h = refl
other_last b (Some (HandOver n out into)) h = refl
other_last b (Some (Fulfil n officer assurances)) h = refl
other_last b (Some (Continue old new officer_old officer_new)) h = refl
other_last b (Some (Move t g n officer)) h = refl
other_last b (Some (Passed t)) h = refl
other_last b (Some (Term n day time minutes)) h = refl
other_last b (Some (Join twa toa officer distance)) h = refl
other_last b (Some (BookOut g paper)) h = refl
other_last b (Some (BookIn g paper certified new)) h = refl

module _ (b : Board) (s : Seven) where
  effect_last : (z : Bool) → eqb s.call 1 ≡ z → (effect b (named s)).last.0 ≡ cond z (suc b.last.0) b.last.0
  unfolding effect named
  effect_last true e = rw (one_request s (eqb-true s.call 1 e)) refl
  effect_last false e =
      ap (λ (n : AuthorityNo). n.0) (other_last b (named s)
      (λ kind p q officer is. true≢false (sym (eq-eqb s.call 1 (request_one s s.call kind p q officer is)) ∙ e)))

  last_after : (room : ℕ)
      → (after b s room).last.0 ≡ cond (eqb (answer b s room) 0 && eqb s.call 1) (suc b.last.0) b.last.0
  unfolding after
  last_after room = go (eqb (answer b s room) 0)
    where
      go : (z : Bool)
          → (cond z (with_stamp s.day s.time (effect b (named s))) b).last.0
          ≡ cond (z && eqb s.call 1) (suc b.last.0) b.last.0
      go true = effect_last (eqb s.call 1) refl
      go false = refl

-- ---- the numbers of a list of calls

-- the call answered on a board
abbrev answered_on : Board → Made → Answered
answered_on b m = record { seven = m.seven; answer = answer b m.seven m.room }

-- THEOREM: the numbers told of a list of calls are those due from the last number on
tells_numbers : (b : Board) (ms : List Made) → map (λ t. t.number) (tells b ms) ≡ numbers_due b.last.0 (trace b ms)
unfolding tells trace numbers_due allotted
tells_numbers b [] = refl
tells_numbers b (m ∷ ms) =
    go (is_request (answered_on b m)) _ (last_after b m.seven m.room) (tells_numbers (after b m.seven m.room) ms)
  where
    rest : List Answered
    rest = trace (after b m.seven m.room) ms

    numbers : List ℕ
    numbers = map (λ t. t.number) (tells (after b m.seven m.room) ms)

    go : (z : Bool) (n : ℕ) → n ≡ cond z (suc b.last.0) b.last.0 → numbers ≡ numbers_due n rest
        → cond z (suc b.last.0) 0 ∷ numbers
        ≡ elim z [ true ↦ suc b.last.0 ∷ numbers_due (suc b.last.0) rest | false ↦ 0 ∷ numbers_due b.last.0 rest ]
    go true n l ih = ap (λ (ns : List ℕ). suc b.last.0 ∷ ns) (ih ∙ ap (λ (k : ℕ). numbers_due k rest) l)
    go false n l ih = ap (λ (ns : List ℕ). 0 ∷ ns) (ih ∙ ap (λ (k : ℕ). numbers_due k rest) l)

-- THEOREM: and the last number is further by as many as REQUESTs were accepted
last_counted : (b : Board) (ms : List Made) → (final b ms).last.0 ≡ b.last.0 + count_requests (trace b ms)
unfolding trace final
last_counted b [] = sym (add-zero b.last.0)
last_counted b (m ∷ ms) =
    last_counted (after b m.seven m.room) ms
    ∙ go (is_request (answered_on b m)) (last_after b m.seven m.room)
  where
    rest : List Answered
    rest = filter is_request (trace (after b m.seven m.room) ms)

    go : (z : Bool) → (after b m.seven m.room).last.0 ≡ cond z (suc b.last.0) b.last.0
        → (after b m.seven m.room).last.0 + length rest ≡ b.last.0 + length (cond z (answered_on b m ∷ rest) rest)
    go true l = omega arith
    go false l = omega arith

-- ---- of a board opened from a plan

open_last : (plan : List ℕ) → (open_board plan).last.0 ≡ 0
unfolding opened
open_last plan = rw (fresh plan).is_opened

pub numbers_from_1 : (plan : List ℕ) (ms : List Made)
    → map (λ t. t.number) (tells (open_board plan) ms) ≡ numbers_due 0 (trace (open_board plan) ms)
numbers_from_1 plan ms =
    tells_numbers (open_board plan) ms ∙ ap (λ (n : ℕ). numbers_due n (trace (open_board plan) ms)) (open_last plan)

pub last_is_count : (plan : List ℕ) (ms : List Made)
    → (final (open_board plan) ms).last.0 ≡ count_requests (trace (open_board plan) ms)
last_is_count plan ms = omega (arith, last_counted (open_board plan) ms, open_last plan)
