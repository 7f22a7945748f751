-- No contract asks what can't be: after every list of calls there is a register that stands for the board that the
-- rules give, each such register is one that the functions may be handed, and each can return what its contract says.
-- Assumes nothing.
use Prim.Native.Nat.{ℕ, zero, suc, ◌+◌, ◌*◌, ◌/◌, ◌≤◌, ◌<◌}
use native.Mathlib.Omega.{arith}
use mathlib.Core.Path.{◌≡◌, refl, sym, ap, subst, ◌∙◌}
use mathlib.Core.Bool.{Bool, true, false, cond, not, ◌&&◌, true≢false}
use mathlib.Core.List.{List, [], ◌∷◌, ◌++◌, map}
use lib.Dec.{eqb}
use lib.ListN.{length, get_or, drop}
use borrow.Author.Tests.{eqb-true, eq-eqb, ne_eqb}
use Rattle.std.specs.Prelude.{Option, Some, None, Result, Ok, Err, IsErr}
use Rattle.std.proofs.lemmas.Bool.{cond_both}
use Rattle.lists.proofs.Tests.{and_l, and_r}
use Rattle.rules.specs.declared.AuthorityNo.{AuthorityNo}
use Rattle.rules.specs.declared.Called.{Called}
use Rattle.rules.specs.declared.Opened.{Opened}
use Rattle.rules.specs.declared.Register.{Register}
use Rattle.rules.specs.declared.Seven.{Seven}
use Rattle.rules.specs.declared.refusal.Refusal.{Refusal}
use Rattle.rules.specs.declared.refusal.Refusal.TheVariants.{ShortLine, NoSuchCall, Field, Clock, NotLive, Stage}
use Rattle.rules.specs.declared.refusal.Refusal.TheVariants.{Officer, AlreadySo, Full, NoFacility, Unprotected}
use Rattle.rules.specs.declared.refusal.Refusal.TheVariants.{Occupied, Overlap, Site, Assurance, StillNeeded, NoTrain}
use Rattle.rules.specs.declared.refusal.Refusal.TheVariants.{Blocked, NotPiloted, Plan, Notice, Term, ShortPage}
use Rattle.rules.specs.declared.refusal.Refusal.TheVariants.{Distance, BlockOn, Worksites, TooFarApart}
use Rattle.rules.specs.Answer.{refusal_no, answer_no, number_no, is_numbered}
use Rattle.rules.specs.Board.{Board, board_of}
use Rattle.rules.specs.Journal.{line_after}
use Rattle.rules.specs.Plan.{is_plan, open_board, open_answer}
use Rattle.rules.specs.Refusals.{lowest, answer}
use Rattle.rules.specs.Stored.{exclusive_portions, twa_portions, needed_gates, Stored, SortsApart}
use Rattle.rules.specs.Step.{Made, Once, Starts, Kept, after, allotted, final}
use Rattle.rules.proofs.Answers.{answer_most, refused_same}
use Rattle.rules.proofs.Bookings.{list_booked}
use Rattle.rules.proofs.Once.{once_open, once_final}
use Rattle.rules.proofs.Opening.{fresh}
use Rattle.rules.proofs.Safety.{list_follows}
use Rattle.rules.proofs.SortsKept.{sorts_list}
use Rattle.rules.proofs.Terms.{starts_after, starts_opened}
use Rattle.rules.specs.Sheet.{sheet_lines, sheet, is_short}
use Rattle.rules.specs.Worksites.{is_stated, is_list, gaps, is_short_of_lines, are_too_far, worksites_refusals}
use Rattle.rules.specs.Worksites.{worksites_answer, gap_lines}
use Rattle.board.proofs.BoardUses.{Opening, Calling, post_opening, post_calling}
use Rattle.calls.specs.declared.piece.AfterRun.{AfterRun}
use Rattle.calls.specs.CallsIn.{calls_in}
use Rattle.calls.specs.Run.{made, journal, run_of}
use Rattle.calls.proofs.Parts.{final_append}
use Rattle.calls.proofs.RunUses.{Running, post_running}
use Rattle.sheet.proofs.SheetUses.{WritingSheet, post_sheet}
use Rattle.worksites.proofs.GapUses.{WritingGaps, post_gaps}

-- ---- a register for a board

register_of : Board → Register
register_of b = record {
  portions = b.portions;
  gates = record { items = b.gates };
  bookings = record { items = b.bookings };
  day = b.day;
  time = b.time;
  last = b.last;
  blocks = b.blocks;
  authorities = record { items = b.authorities };
  trains = record { items = b.trains };
  exclusive_held = exclusive_portions b;
  twa_held = twa_portions b;
  needed = needed_gates b;
}

-- the register stands for the board, with the sets that the board gives (02, order 8)
abbrev Standing : Register → Board → Type 0
Standing r b = (board_of r ≡ b) × Stored r

stands : (b : Board) → Standing (register_of b) b
unfolding board_of register_of
stands b = (refl, record { exclusive_held = refl; twa_held = refl; needed = refl })

-- the board after a list of calls

starts_final : (b : Board) (ms : List Made) → Starts b → Starts (final b ms)
unfolding final
starts_final b [] h = h
starts_final b (m ∷ ms) h =
    starts_final (after b m.seven m.room) ms (starts_after b m.seven m.room h)

starts_list : (plan : List ℕ) (ms : List Made) → Starts (final (open_board plan) ms)
starts_list plan ms =
    let o = fresh plan in
    starts_final (open_board plan) ms (subst Starts (sym o.is_opened) (starts_opened o.portions o.gates))

-- THEOREM: a register that stands for the board after a list of calls, on a board opened from any plan text, with the
-- sets that this board gives, is one that each function may be handed
pub stands_kept : (plan : List ℕ) (ms : List Made) (r : Register) → Standing r (final (open_board plan) ms) → Kept r
unfolding board_of
stands_kept plan ms r (e, stored) =
    let follows = list_follows plan ms in
    let once : Once (board_of r) = subst Once (sym e) (once_final (open_board plan) ms (once_open plan)) in
    record {
      bounds = record {
        portions = subst (λ (b : Board). b.portions ≤ 64) (sym e) follows.portions;
        gates = subst (λ (b : Board). length b.gates ≤ 64) (sym e) follows.gates;
        booked =
            subst (λ (b : Board). length b.bookings ≤ 64) (sym e)
            (omega (arith, (list_booked plan ms).places, follows.gates));
        live = once.live;
        running = once.running;
      };
      once = once;
      starts = subst Starts (sym e) (starts_list plan ms);
      stored = stored;
      sorts = subst SortsApart (sym e) (sorts_list plan ms);
    }

-- ---- a refusal of each number

refusals : List Refusal
refusals =
    ShortLine ∷ NoSuchCall ∷ Field ∷ Clock ∷ NotLive ∷ Stage ∷ Officer ∷ AlreadySo ∷ Full ∷ NoFacility ∷ Unprotected
    ∷ Occupied ∷ Overlap ∷ Site ∷ Assurance ∷ StillNeeded ∷ NoTrain ∷ Blocked ∷ NotPiloted ∷ Plan ∷ Notice ∷ Term
    ∷ ShortPage ∷ Distance ∷ BlockOn ∷ Worksites ∷ TooFarApart ∷ []

-- the refusals are numbered from k on
numbered_from : ℕ → List Refusal → Bool
numbered_from k [] = true
numbered_from k (x ∷ xs) = eqb (refusal_no x) k && numbered_from (suc k) xs

number_at : (k : ℕ) (xs : List Refusal) (i : ℕ) → numbered_from k xs ≡ true → i < length xs
    → refusal_no (get_or xs i ShortLine) ≡ k + i
unfolding numbered_from
number_at k [] i h l = absurd (omega arith)
number_at k (x ∷ xs) zero h l =
    omega (arith, eqb-true (refusal_no x) k (and_l (eqb (refusal_no x) k) (numbered_from (suc k) xs) h))
number_at k (x ∷ xs) (suc i) h l =
    number_at (suc k) xs i (and_r (eqb (refusal_no x) k) (numbered_from (suc k) xs) h) (omega arith) ∙ omega arith

-- the answer with the number a; where a call is accepted, n is allotted if it is a REQUEST
answer_with : ℕ → Bool → ℕ → Result (Option AuthorityNo) Refusal
answer_with zero true n = Ok (Some (record { 0 = n }))
answer_with zero false n = Ok None
answer_with (suc k) request n = Err (get_or refusals k ShortLine)

record Gives (a : ℕ) (request : Bool) (n : ℕ) (given : Result (Option AuthorityNo) Refusal) : Type 0 where
  answered : answer_no given ≡ a
  number : number_no given ≡ cond (eqb a 0 && request) n 0
  numbered : is_numbered given ≡ (eqb a 0 && request)
  refused : IsErr given → eqb a 0 ≡ false

gives : (a : ℕ) (request : Bool) (n : ℕ) → a ≤ 25 → Gives a request n (answer_with a request n)
unfolding answer_with refusals numbered_from
gives zero true n h =
    record { answered = refl; number = refl; numbered = refl; refused = λ e. absurd (true≢false (sym e)) }
gives zero false n h =
    record { answered = refl; number = refl; numbered = refl; refused = λ e. absurd (true≢false (sym e)) }
gives (suc k) request n h = record {
  answered = number_at 1 refusals k refl (omega arith) ∙ omega arith;
  number = rw (ne_eqb (suc k) 0 (λ e. absurd (omega arith)));
  numbered = rw (ne_eqb (suc k) 0 (λ e. absurd (omega arith)));
  refused = λ e. ne_eqb (suc k) 0 (λ z. absurd (omega arith));
}

-- ---- each use can return what its contract asks

no_call : (b : Board) → final b [] ≡ b
unfolding final
no_call b = refl

one_call : (b : Board) (s : Seven) (room : ℕ) → final b (record { seven = s; room = room } ∷ []) ≡ after b s room
unfolding final
one_call b s room = refl

open_answered : (z : Bool) → answer_no {A = Unit {0}} (cond z (Ok tt) (Err Plan)) ≡ cond z 0 20
open_answered true = refl
open_answered false = refl

pub open_possible : (plan : List ℕ) → (opened : Opened) × Opening plan opened
unfolding open_answer
open_possible plan =
    let r : Register = register_of (open_board plan) in
    let (e, stored) = stands (open_board plan) in
    let opened : Opened = record { register = r; answer = cond (is_plan plan) (Ok tt) (Err Plan) } in (
      opened,
      post_opening (record {
        board = e;
        answered = open_answered (is_plan plan);
        kept = stands_kept plan [] r (e ∙ sym (no_call (open_board plan)), stored);
      }),
    )

module _ (plan : List ℕ) (ms : List Made) (r : Register) (stands_for : Standing r (final (open_board plan) ms)) where
  pub call_possible : (s : Seven) (buffer : List ℕ)
      → (called : Called) × (buffer' : List ℕ) × Calling r s buffer called buffer'
  unfolding allotted
  call_possible s buffer =
      let b : Board = board_of r in
      let room : ℕ = length buffer in
      let a : ℕ = answer b s room in
      let request : Bool = eqb s.call 1 in
      let given : Result (Option AuthorityNo) Refusal = answer_with a request (suc b.last.0) in
      let g : Gives a request (suc b.last.0) given = gives a request (suc b.last.0) (answer_most b s room) in
      let call : List Made = record { seven = s; room = room } ∷ [] in
      let n : Register = cond (eqb a 0) (register_of (after b s room)) r in
      let (en, stored) =
      cond_both (eqb a 0) (register_of (after b s room)) r (λ x. Standing x (after b s room))
      (λ accepted. stands (after b s room))
      (λ refused. (
        sym (refused_same b s room (λ z. true≢false (sym (eq-eqb a 0 z) ∙ refused))),
        stands_for.1,
      )) in
      let is_next : board_of n ≡ final (open_board plan) (ms ++ call) =
      en ∙ ap (λ (c : Board). after c s room) stands_for.0 ∙ sym (one_call (final (open_board plan) ms) s room)
      ∙ sym (final_append (open_board plan) ms call) in
      let called : Called = record { register = n; answer = given } in (
        called,
        line_after s (answer_no given) (number_no given) buffer,
        post_calling (record {
          board = en;
          answered = g.answered;
          number = g.number;
          numbered = g.numbered;
          line = refl;
          unchanged = λ e. rw (g.refused e);
          kept = stands_kept plan (ms ++ call) n (is_next, stored);
        }),
      )

  pub run_possible : (text buffer : List ℕ) → (ran : AfterRun) × (buffer' : List ℕ) × Running r text buffer ran buffer'
  unfolding run_of
  run_possible text buffer =
      let b : Board = board_of r in
      let calls : List Seven = calls_in (length buffer / 55) text in
      let end : Board = final b (map made calls) in
      let (en, stored) = stands end in
      let is_next : board_of (register_of end) ≡ final (open_board plan) (ms ++ map made calls) =
      en ∙ ap (λ (c : Board). final c (map made calls)) stands_for.0
      ∙ sym (final_append (open_board plan) ms (map made calls)) in
      let ran : AfterRun = record { register = register_of end; lines = length calls } in (
        ran,
        journal b calls ++ drop (55 * length calls) buffer,
        post_running (record {
          board = en;
          lines = refl;
          bytes = refl;
          kept = stands_kept plan (ms ++ map made calls) (register_of end) (is_next, stored);
        }),
      )

-- any register at all
pub sheet_possible : (r : Register) (page : List ℕ)
    → (out : Result ℕ Refusal) × (page' : List ℕ) × WritingSheet r page out page'
sheet_possible r page = go (is_short (length page)) refl
  where
    b : Board
    b = board_of r

    go : (z : Bool) → is_short (length page) ≡ z
        → (out : Result ℕ Refusal) × (page' : List ℕ) × WritingSheet r page out page'
    go true z = (Err ShortPage, page, post_sheet (record { answered = rw z; counted = rw z; bytes = rw z }))
    go false z = (
      Ok (length (sheet_lines b)),
      sheet b ++ drop (length (sheet b)) page,
      post_sheet (record { answered = rw z; counted = rw z; bytes = rw z }),
    )

-- any kind, statement, worksites and buffer at all
module _ (kind stated : ℕ) (from to buffer : List ℕ) where
  abbrev SomeResult : Type 0
  SomeResult = (out : Result ℕ Refusal) × (buffer' : List ℕ) × WritingGaps kind stated from to buffer out buffer'

  abbrev text : List ℕ
  text = gap_lines kind stated (gaps from to)

  by_cases : (short wrong far : Bool) → is_short_of_lines (length buffer) ≡ short
      → not (is_stated kind stated && is_list from to) ≡ wrong
      → are_too_far kind from to ≡ far → SomeResult
  unfolding worksites_answer worksites_refusals lowest
  by_cases true wrong far e f g =
      (Err ShortLine, buffer, post_gaps (record { answered = rw e; counted = refl; bytes = refl }))
  by_cases false true far e f g =
      (Err Worksites, buffer, post_gaps (record { answered = rw (e, f); counted = refl; bytes = refl }))
  by_cases false false true e f g =
      (Err TooFarApart, buffer, post_gaps (record { answered = rw (e, f, g); counted = refl; bytes = refl }))
  by_cases false false false e f g = (
    Ok (length (gaps from to)),
    text ++ drop (length text) buffer,
    post_gaps (record { answered = rw (e, f, g); counted = refl; bytes = refl }),
  )

  pub gaps_possible : SomeResult
  gaps_possible = by_cases _ _ _ refl refl refl
