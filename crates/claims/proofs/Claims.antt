-- Every claim about the functions `open`, `call`, `run`, `write_sheet` and `write_gaps`, in order: that what they ask
-- is always met, that they follow the rules, demands 1, 2 and 3, and what each order adds.
-- `Ran plan ms ts r` (Ran.antt): a board was opened from the text plan, then the calls ms were made, one by one or as
-- texts of calls, ts is what was told of them, and r the register that was returned last. `Calling`, `Running`,
-- `WritingSheet`, `WritingGaps` and `Opening`: one use of a function, at any arguments. Assumes nothing.
use Prim.Native.Nat.{ℕ, ◌+◌, ◌*◌, ◌/◌, ◌≤◌, ◌<◌}
use native.Mathlib.Omega.{arith}
use mathlib.Core.Path.{◌≡◌, refl, sym, ap, subst, subst₂, ◌∙◌}
use mathlib.Core.Bool.{true, false, ◌&&◌}
use mathlib.Core.List.{List, [], ◌∷◌, ◌++◌, map, append_assoc, append-nil}
use lib.ListN.{length, take, drop, get_or, replicate, length-replicate}
use borrow.Author.Tests.{lt-ltb, le-ltb}
use Rattle.std.specs.Prelude.{Some, Result}
use Rattle.std.proofs.lemmas.List.Elements.{All-get_or}
use Rattle.lists.specs.Distinct.{Distinct}
use Rattle.lists.specs.Order.{Ascending}
use Rattle.lists.specs.Search.{any}
use Rattle.lists.proofs.Search.{Member}
use Rattle.lists.proofs.Tests.{and_r}
use Rattle.sets.specs.Sets.{has, least, greatest}
use Rattle.columns.specs.Reading.{row_of}
use Rattle.columns.specs.declared.cells.Cell.TheVariants.{Empty, Number}
use Rattle.rules.specs.declared.Authority.{Authority}
use Rattle.rules.specs.declared.AuthorityNo.{AuthorityNo}
use Rattle.rules.specs.declared.Call.{Call}
use Rattle.rules.specs.declared.Call.TheVariants.{BookIn}
use Rattle.rules.specs.declared.Called.{Called}
use Rattle.rules.specs.declared.GateNo.{GateNo}
use Rattle.rules.specs.declared.Opened.{Opened}
use Rattle.rules.specs.declared.PaperNo.{PaperNo}
use Rattle.rules.specs.declared.Register.{Register}
use Rattle.rules.specs.declared.Seven.{Seven}
use Rattle.rules.specs.declared.refusal.Refusal.{Refusal}
use Rattle.rules.specs.Answer.{answer_no, number_no, lines_no}
use Rattle.rules.specs.Board.{Board, board_of, closed, can_be_blocked, authority_no, train_no, Same}
use Rattle.rules.specs.Call.{named}
use Rattle.rules.specs.Claim.{Safe}
use Rattle.rules.specs.Journal.{journal_line}
use Rattle.rules.specs.Plan.{is_plan, open_board}
use Rattle.rules.specs.Reckoning.{Reckoning, Reckoned, at_start, agreement, reckoned}
use Rattle.rules.specs.Refusals.{lowest, conditions, answer}
use Rattle.rules.specs.Sheet.{now_of, authority_cells, sheet_lines, sheet}
use Rattle.rules.specs.Step.{Made, Answered, Once, Kept, after, trace, final}
use Rattle.rules.specs.Stored.{exclusive_portions, twa_portions, needed_gates, Stored, SortsApart, changes_sets}
use Rattle.rules.specs.Worksites.{is_stated, is_list, gaps, due, worksites_refusals, worksites_answer, gap_widths}
use Rattle.rules.specs.Worksites.{gap_lines}
use Rattle.rules.proofs.Agreements.{Recorded, list_agreements, list_lpas}
use Rattle.rules.proofs.Answers.{NoneHolds, Refused, accepted_none, none_accepted, refused_lowest, lowest_refused}
use Rattle.rules.proofs.Answers.{refused_none, short_line, long_line}
use Rattle.rules.proofs.Bookings.{Booked, NeededBy, list_booked, limits_protected, needed_not_restored}
use Rattle.rules.proofs.Equality.{equal_same, NoneOfLpas, same_equal}
use Rattle.rules.proofs.Gaps.{worksites_none, worksites_refused, accepted_list, gap_17, gap_read, one_less, gap_at}
use Rattle.rules.proofs.Gaps.{sent_gaps, sent_small, refused_stays, accepted_lines}
use Rattle.rules.proofs.HeldSets.{same_board_sets, sets_opened}
use Rattle.rules.proofs.Once.{held_once}
use Rattle.rules.proofs.Opening.{fresh, refused_plan}
use Rattle.rules.proofs.Safety.{demand_3}
use Rattle.rules.proofs.SetsShown.{Shown, list_shown}
use Rattle.rules.proofs.SetsStay.{sets_after}
use Rattle.rules.proofs.Sheets.{first-last, Ascend, lines_ascend}
use Rattle.rules.proofs.Stays.{ended_by, agreed_by, StaysIn, authority_stays}
use Rattle.board.proofs.BoardUses.{Opening, Calling, CallAsks, opening_post, calling_post, call_asks}
use Rattle.calls.specs.declared.piece.AfterRun.{AfterRun}
use Rattle.calls.specs.CallsIn.{calls_in}
use Rattle.calls.specs.Run.{made, journal, run_of}
use Rattle.calls.proofs.Parts.{final_append}
use Rattle.calls.proofs.RunUses.{Running, RunAsks, running_post, run_asks}
use Rattle.sheet.proofs.SheetUses.{WritingSheet, SheetAsks, sheet_post, sheet_asks}
use Rattle.worksites.proofs.GapUses.{WritingGaps, gaps_post}
use Rattle.claims.specs.Told.{Told, answers_of, tells, numbers_due, count_requests}
use Rattle.claims.proofs.Counted.{numbers_from_1, last_is_count}
use Rattle.claims.proofs.Possible.{open_possible, call_possible, run_possible, sheet_possible, gaps_possible}
use Rattle.claims.proofs.Ran.{made_with, Ran, ran_open, ran_call, ran_run}
use Rattle.claims.proofs.Telling.{board_more, told_more, tells_trace, told_since, refused_err, call_told, run_told}

-- ---- what is asked is always met

-- "A call is handed a register that opening or an earlier call returned": what holds of each such register
pub ran_kept : {plan : List ℕ} {ms : List Made} {ts : List Told} {r : Register} → Ran plan ms ts r → Kept r
ran_kept (ran_open o) = (opening_post o).kept
ran_kept (ran_call h c) = (calling_post c).kept
ran_kept (ran_run h c) = (running_post c).kept

module _ {plan : List ℕ} {ms : List Made} {ts : List Told} {r : Register} (h : Ran plan ms ts r) where
  -- the `requires` of the next call, of the next run and of the sheet hold
  pub ran_asked : CallAsks r
  ran_asked = call_asks r (ran_kept h)

  pub ran_run_asked : RunAsks r
  ran_run_asked = run_asks r (ran_kept h)

  pub sheet_asked : SheetAsks r
  sheet_asked = sheet_asks r (ran_kept h)

-- ---- the rules are followed

-- the register stands for the board that the rules give after the calls
pub ran_board : {plan : List ℕ} {ms : List Made} {ts : List Told} {r : Register} → Ran plan ms ts r
    → board_of r ≡ final (open_board plan) ms
unfolding final run_of
ran_board (ran_open o) = (opening_post o).board
ran_board {plan} (ran_call {ms = ms} {s = s} {buffer = buffer} h c) =
    board_more (open_board plan) ms (made_with s buffer ∷ []) (ran_board h) (calling_post c).board
ran_board {plan} (ran_run {ms = ms} {text = text} {buffer = buffer} h c) =
    board_more (open_board plan) ms (map made (calls_in (length buffer / 55) text)) (ran_board h) (running_post c).board

-- what was told of the calls, answers and numbers, is what the rules tell
pub ran_told : {plan : List ℕ} {ms : List Made} {ts : List Told} {r : Register} → Ran plan ms ts r
    → ts ≡ tells (open_board plan) ms
unfolding tells
ran_told (ran_open o) = refl
ran_told {plan} (ran_call {ms = ms} {s = s} {buffer = buffer} h c) =
    told_more (open_board plan) ms (made_with s buffer ∷ []) (ran_told h) (ran_board h) (call_told (calling_post c))
ran_told {plan} (ran_run {ms = ms} {text = text} {buffer = buffer} h c) =
    told_more (open_board plan) ms (map made (calls_in (length buffer / 55) text)) (ran_told h) (ran_board h)
    (run_told (running_post c) (ran_kept h).once)

-- so the answers are those of the rules' trace
pub ran_trace : {plan : List ℕ} {ms : List Made} {ts : List Told} {r : Register} → Ran plan ms ts r
    → answers_of ts ≡ trace (open_board plan) ms
ran_trace {plan} {ms} h = ap answers_of (ran_told h) ∙ tells_trace (open_board plan) ms

-- the calls decide all, whether they are made one by one or as texts (with room for a line, 55 bytes, each), in
-- whatever parts
pub ran_decided : {plan : List ℕ} {ms : List Made} {ts ts' : List Told} {r r' : Register} → Ran plan ms ts r
    → Ran plan ms ts' r' → (board_of r' ≡ board_of r) × (ts' ≡ ts)
ran_decided h k = (ran_board k ∙ sym (ran_board h), ran_told k ∙ sym (ran_told h))

-- what the rules have of the board and the answers after a list of calls is claimed of the register and of what was
-- told
by_rules : {plan : List ℕ} {ms : List Made} {ts : List Told} {r : Register} → Ran plan ms ts r
    → (P : Board → List Answered → Type 0) → P (final (open_board plan) ms) (trace (open_board plan) ms)
    → P (board_of r) (answers_of ts)
by_rules h P = subst₂ P (sym (ran_board h)) (sym (ran_trace h))

-- what is reckoned from calls and their answers, and from nothing else, on a board opened from a text
abbrev pub reckoned_from : List ℕ → List Answered → Reckoning
reckoned_from plan cs = reckoned (open_board plan).gates at_start cs

-- a gate that an authority in force needs, by what is so reckoned
abbrev pub Needed : List ℕ → List Answered → ℕ → GateNo → Type 0
Needed plan cs n g = NeededBy (open_board plan).gates (reckoned_from plan cs).authority n g

-- ---- demand 1: what is returned and written

-- "a refused plan gives the closed board", and the answer 20
pub plan_refused : {text : List ℕ} {opened : Opened} → Opening text opened → is_plan text ≡ false
    → (answer_no opened.answer ≡ 20) × (board_of opened.register ≡ closed)
plan_refused {text} o refused =
    let p = opening_post o in
    let e = refused_plan text refused in
    (p.answered ∙ e.0, p.board ∙ e.1)

-- and a freshly opened board, the closed one too, holds nothing and needs no gate (order 8)
pub opened_empty : {text : List ℕ} {opened : Opened} → Opening text opened
    → (opened.register.exclusive_held ≡ 0) × (opened.register.twa_held ≡ 0) × (opened.register.needed ≡ 0)
opened_empty {text} o =
    let p = opening_post o in
    let f = fresh text in
    let stands = p.board ∙ f.is_opened in
    let none = sets_opened f.portions f.gates in (
      p.kept.stored.exclusive_held ∙ ap exclusive_portions stands ∙ sym none.0,
      p.kept.stored.twa_held ∙ ap twa_portions stands ∙ sym none.1,
      p.kept.stored.needed ∙ ap needed_gates stands ∙ sym none.2,
    )

-- a run's register is that of the calls of its text, made one after another with room for their lines, as many at most
-- as the buffer has room for; their lines are at the front of the buffer, and its later bytes stay
module _ {before : Register} {text buffer : List ℕ} {ran : AfterRun} {buffer' : List ℕ}
    (c : Running before text buffer ran buffer') where
  abbrev calls : List Seven
  calls = calls_in (length buffer / 55) text

  pub run_returns : Same (board_of ran.register) (final (board_of before) (map made calls))
  unfolding run_of
  run_returns = equal_same (board_of ran.register) (final (board_of before) (map made calls)) (running_post c).board

  pub run_written : (ran.lines ≡ length calls)
      × (buffer' ≡ journal (board_of before) calls ++ drop (55 * ran.lines) buffer)
  unfolding run_of
  run_written = let p = running_post c in (p.lines, p.bytes)

module _ {before : Register} {s : Seven} {buffer : List ℕ} {called : Called} {buffer' : List ℕ}
    (c : Calling before s buffer called buffer') where
  abbrev b : Board
  b = board_of before

  abbrev room : ℕ
  room = length buffer

  abbrev given : ℕ
  given = answer_no called.answer

  -- the register is equal, by 01 and 02, to that of the rules
  pub returns_same : Same (board_of called.register) (after b s room)
  returns_same = equal_same (board_of called.register) (after b s room) (calling_post c).board

  -- "A refused call [..] leaves the register as before": it returns the very register, and authority number 0
  pub refused_keeps : (given ≡ 0 → ⊥) → (called.register ≡ before) × (number_no called.answer ≡ 0)
  refused_keeps h =
      let p = calling_post c in (
        p.unchanged (refused_err called.answer h),
        p.number ∙ refused_none b s room (λ z. h (p.answered ∙ z)),
      )

  -- a buffer that is too short stays untouched; any other has the line, and its later bytes stay
  pub short_stays : room < 55 → buffer' ≡ buffer
  short_stays h = (calling_post c).line ∙ short_line s given (number_no called.answer) buffer h

  pub long_written : 55 ≤ room → buffer' ≡ journal_line s given (number_no called.answer) ++ drop 55 buffer
  long_written h = (calling_post c).line ∙ long_line s given (number_no called.answer) buffer h

  -- ---- demand 2: accepted if and only if no condition holds; refused with n if and only if condition n holds and none
  -- lower does

  pub accepted_iff : (given ≡ 0 → NoneHolds (conditions b s room)) × (NoneHolds (conditions b s room) → given ≡ 0)
  accepted_iff =
      let e = (calling_post c).answered in
      (λ z. accepted_none b s room (sym e ∙ z), λ h. e ∙ none_accepted b s room h)

  pub refused_iff : (n : ℕ)
      → (0 < n → given ≡ n → Refused n (conditions b s room)) × (Refused n (conditions b s room) → given ≡ n)
  refused_iff n =
      let e = (calling_post c).answered in
      (λ h z. refused_lowest b s room n (sym e ∙ z) h, λ h. e ∙ lowest_refused b s room n h)

module _ {plan : List ℕ} {ms : List Made} {ts : List Told} {r : Register} (h : Ran plan ms ts r) where
  -- ---- demand 2: the numbers

  -- "Numbers are allotted 1, 2, 3": the nth accepted REQUEST was told the number n, and every other call 0
  pub ran_numbered : map (λ t. t.number) ts ≡ numbers_due 0 (answers_of ts)
  ran_numbered = rw (ran_trace h) (ap (map (λ t. t.number)) (ran_told h) ∙ numbers_from_1 plan ms)

  -- and the last number that the register holds is how many REQUESTs were accepted
  pub ran_last : (board_of r).last.0 ≡ count_requests (answers_of ts)
  ran_last = by_rules h (λ b cs. b.last.0 ≡ count_requests cs) (last_is_count plan ms)

  -- ---- demand 3, one claim about the whole list of calls, whose reckoning reads the calls and their answers, and no
  -- register

  pub ran_safe : Safe (open_board plan).gates (reckoned_from plan (answers_of ts))
  ran_safe = by_rules h (λ b cs. Safe (open_board plan).gates (reckoned_from plan cs)) (demand_3 plan ms)

  -- ---- orders 1 and 7

  -- an authority that none of the calls made since ended is held after them, in force if it was, with the term that it
  -- had, and with the agreement that it had recorded, if it was in force or none of them recorded another with it
  pub authority_kept : (ms' : List Made) (ts' : List Told) {r' : Register} → Ran plan (ms ++ ms') (ts ++ ts') r'
      → (o : Authority) → Member o (board_of r).authorities
      → any (ended_by o.number) (answers_of ts') ≡ false
      → StaysIn (any (agreed_by o.number) (answers_of ts')) o (board_of r').authorities
  authority_kept ms' ts' k o m e =
      let b : Board = final (open_board plan) ms in
      let n : AuthorityNo = o.number in
      let since : answers_of ts' ≡ trace b ms' = told_since (open_board plan) ms ms' ts ts' (ran_told h) (ran_told k) in
      subst₂ (λ (cs : List Answered) (c : Board). any (ended_by n) cs ≡ false → StaysIn (any (agreed_by n) cs) o
      c.authorities)
      (sym since) (sym (ran_board k ∙ final_append (open_board plan) ms ms'))
      (authority_stays ms' b (subst Once (ran_board h) (ran_kept h).once) o
      (subst (λ (b : Board). Member o b.authorities) (ran_board h) m))
      e

  -- ---- order 2: first and last, and the kind, of each live authority are those of its REQUEST

  pub ran_first-last : (o : Authority) → Member o (board_of r).authorities
      → let x = (reckoned_from plan (answers_of ts)).authority (authority_no o) in
      (o.kind ≡ x.kind) × (least o.limits ≡ x.first) × (greatest o.limits ≡ x.last)
  ran_first-last o =
      by_rules h
      (λ b cs. Member o b.authorities → let x = (reckoned_from plan cs).authority (authority_no o) in
      (o.kind ≡ x.kind) × (least o.limits ≡ x.first) × (greatest o.limits ≡ x.last))
      (first-last plan ms o)

  -- ---- order 5: live authorities and trains are held by ascending number, and so each once; and of any two lines of
  -- live authorities on the sheet the upper has the lower number

  pub ran_ascending : Ascending authority_no (board_of r).authorities × Ascending train_no (board_of r).trains
  ran_ascending = let o = (ran_kept h).once in (o.authorities, o.trains)

  pub ran_once : Distinct authority_no (board_of r).authorities × Distinct train_no (board_of r).trains
  ran_once = held_once (board_of r) (ran_kept h).once

  pub ran_lines_ascend : (i j : ℕ) → i < j → j < length (board_of r).authorities → Ascend (board_of r) i j
  ran_lines_ascend = lines_ascend (board_of r) (ran_kept h).once.authorities

  -- ---- order 6

  -- each gate has a place for its booking, only plain automatic signals are out, and each gate whose block is on can be
  -- blocked
  pub ran_booked : Booked (board_of r)
  ran_booked = by_rules h (λ b cs. Booked b) (list_booked plan ms)

  -- "Limits in force stay protected through both calls.": a gate that an authority in force needs is blocked, and can
  -- be blocked
  pub ran_protected : (n : ℕ) (g : GateNo) → Needed plan (answers_of ts) n g
      → (has g.0 (board_of r).blocks ≡ true) × (can_be_blocked (board_of r) g ≡ true)
  ran_protected n g =
      by_rules h
      (λ b cs. Needed plan cs n g → (has g.0 b.blocks ≡ true) × (can_be_blocked b g ≡ true))
      (limits_protected plan ms n g)

  -- and it can't be restored: no BOOK IN that would restore it is accepted
  pub not_restored : {s : Seven} {buffer : List ℕ} {called : Called} {buffer' : List ℕ}
      → Calling r s buffer called buffer' → (n : ℕ) (g : GateNo) → Needed plan (answers_of ts) n g
      → (paper new : PaperNo) → named s ≡ Some (BookIn g paper true new) → answer_no called.answer ≡ 0 → ⊥
  not_restored {s} {buffer} c n g k paper new is e =
      by_rules h (λ b cs. Needed plan cs n g → answer b s (length buffer) ≡ 0 → ⊥)
      (λ needed. needed_not_restored plan ms n g needed s (length buffer) paper new is)
      k (sym (calling_post c).answered ∙ e)

  -- ---- order 7

  -- the number that each live authority has recorded is the one that its last AGREE or JOIN names, 0 for none
  pub ran_agreements : (o : Authority) → Member o (board_of r).authorities
      → Recorded (reckoned_from plan (answers_of ts)).authority o
  ran_agreements o =
      by_rules h (λ b cs. Member o b.authorities → Recorded (reckoned_from plan cs).authority o)
      (list_agreements plan ms o)

  -- and so is the ninth column of its line on the sheet
  pub ran_agreement_shown : (o : Authority) → Member o (board_of r).authorities
      → get_or (authority_cells (now_of (board_of r)) o) 8 Empty
      ≡ Number (agreement ((reckoned_from plan (answers_of ts)).authority (authority_no o)))
  unfolding authority_cells
  ran_agreement_shown o m = ap Number (ran_agreements o m).number

  -- nothing is left free: two such registers that are equal by 01 and 02 stand for one board
  pub ran_equal : {plan' : List ℕ} {ms' : List Made} {ts' : List Told} {r' : Register} → Ran plan' ms' ts' r'
      → Same (board_of r) (board_of r') → board_of r ≡ board_of r'
  ran_equal {plan'} {ms'} {r' = r'} k =
      same_equal (board_of r) (board_of r')
      (by_rules h (λ b cs. NoneOfLpas b.authorities) (list_lpas plan ms))
      (by_rules k (λ b cs. NoneOfLpas b.authorities) (list_lpas plan' ms'))

  -- ---- order 8

  -- "Every call keeps each equal to what the live authorities give, refused calls included": the three sets are those
  -- of the live authorities that the register holds, and a refused call returns the very sets that it was handed
  -- (`refused_keeps`)
  pub ran_stored : Stored r
  ran_stored = (ran_kept h).stored

  -- read off the calls and the answers alone: a portion is in the first set exactly where an LPA or a TOA in force has
  -- it in its limits, in the second where a TWA has, and a gate in the third exactly where an authority in force needs
  -- it; and each gate of the third is blocked
  pub ran_shown : Shown (open_board plan).gates (reckoned_from plan (answers_of ts)).authority r.exclusive_held
      r.twa_held r.needed r.blocks
  unfolding board_of
  ran_shown =
      let k = ran_stored in
      of_these k.exclusive_held k.twa_held k.needed
      (by_rules h
      (λ b cs. Shown (open_board plan).gates (reckoned_from plan cs).authority (exclusive_portions b) (twa_portions b)
      (needed_gates b) b.blocks)
      (list_shown plan ms))
    where
      of_these : {A : ℕ → Reckoned} {x x' w w' n n' blocks : ℕ} → x ≡ x' → w ≡ w' → n ≡ n'
          → Shown (open_board plan).gates A x' w' n' blocks → Shown (open_board plan).gates A x w n blocks
      of_these e f g k = rw (e, f, g) k

  -- two in force of one sort, both exclusive or both TWAs, share no portion, so that limits can be taken out of a set
  pub ran_sorts : SortsApart (board_of r)
  ran_sorts = (ran_kept h).sorts

  -- a call that is none of GRANT, FULFIL and CONTINUE leaves the sets as they were, accepted or refused
  pub sets_handed_on : {s : Seven} {buffer : List ℕ} {called : Called} {buffer' : List ℕ}
      → Calling r s buffer called buffer' → (c : Call) → named s ≡ Some c → changes_sets c ≡ false
      → (called.register.exclusive_held ≡ r.exclusive_held) × (called.register.twa_held ≡ r.twa_held)
      × (called.register.needed ≡ r.needed)
  sets_handed_on {s} {buffer} k c is other =
      let p = calling_post k in
      let now = p.kept.stored in
      let then = ran_stored in
      let same = sets_after (board_of r) s (length buffer) c (ran_kept h).once is other in (
        now.exclusive_held ∙ ap exclusive_portions p.board ∙ same.0 ∙ sym then.exclusive_held,
        now.twa_held ∙ ap twa_portions p.board ∙ same.1 ∙ sym then.twa_held,
        now.needed ∙ ap needed_gates p.board ∙ same.2 ∙ sym then.needed,
      )

  -- and nothing of them is left free: registers that are equal by 01 and 02 hold the same sets
  pub ran_same_sets : {plan' : List ℕ} {ms' : List Made} {ts' : List Told} {r' : Register} → Ran plan' ms' ts' r'
      → Same (board_of r) (board_of r')
      → (r.exclusive_held ≡ r'.exclusive_held) × (r.twa_held ≡ r'.twa_held) × (r.needed ≡ r'.needed)
  ran_same_sets {r' = r'} k same = same_board_sets r r' ran_stored (ran_kept k).stored (ran_equal k same)

-- ---- order 2: the sheet

module _ {r : Register} {page : List ℕ} {out : Result ℕ Refusal} {page' : List ℕ}
    (w : WritingSheet r page out page') where
  -- too short a page: 23, no line, and the bytes stay
  pub short_sheet : length page < 2409 → (answer_no out ≡ 23) × (lines_no out ≡ 0) × (page' ≡ page)
  short_sheet h =
      let p = sheet_post w in
      let e = lt-ltb (length page) 2409 h in
      (p.answered ∙ rw e, p.counted ∙ rw e, p.bytes ∙ rw e)

  -- a page that is long enough has the sheet of the board that the rules give after the calls, and later bytes stay
  pub ran_sheet : {plan : List ℕ} {ms : List Made} {ts : List Told} → Ran plan ms ts r → 2409 ≤ length page
      → let b = final (open_board plan) ms in
      (answer_no out ≡ 0) × (lines_no out ≡ length (sheet_lines b))
      × (page' ≡ sheet b ++ drop (length (sheet b)) page)
  ran_sheet h l =
      let p = sheet_post w in
      let e = le-ltb (length page) 2409 l in
      let b = ran_board h in
      (p.answered ∙ rw e, p.counted ∙ rw (e, b), p.bytes ∙ rw (e, b))

-- ---- order 9: worksites

-- `write_gaps` asks nothing, and reads no register
module _ {kind stated : ℕ} {from to buffer : List ℕ} {out : Result ℕ Refusal} {buffer' : List ℕ}
    (w : WritingGaps kind stated from to buffer out buffer') where
  -- the answer is 0 exactly where no condition holds, and n exactly where condition n holds and none lower does
  pub gaps_accepted_iff :
      let cs = worksites_refusals kind stated from to (length buffer) in
      (answer_no out ≡ 0 → NoneHolds cs) × (NoneHolds cs → answer_no out ≡ 0)
  gaps_accepted_iff = rw (gaps_post w).answered (worksites_none kind stated from to (length buffer))

  pub gaps_refused_iff : (n : ℕ) → 0 < n
      → let cs = worksites_refusals kind stated from to (length buffer) in
      (answer_no out ≡ n → Refused n cs) × (Refused n cs → answer_no out ≡ n)
  gaps_refused_iff n p = rw (gaps_post w).answered (worksites_refused kind stated from to (length buffer) n p)

  -- "A shorter one gives 1 first": fewer bytes than 31 lines of 17, whatever the kind, the statement and the list
  pub gaps_short : length buffer < 527 → answer_no out ≡ 1
  unfolding worksites_answer worksites_refusals lowest
  gaps_short h = (gaps_post w).answered ∙ rw (lt-ltb (length buffer) 527 h)

  -- "refusals write nothing": no line, and the bytes stay
  pub gaps_refused : (answer_no out ≡ 0 → ⊥) → (lines_no out ≡ 0) × (buffer' ≡ buffer)
  gaps_refused = refused_stays (gaps_post w)

  module _ (accepted : answer_no out ≡ 0) where
    sent : (is_stated kind stated && is_list from to) ≡ true
    sent = (accepted_list kind stated from to (length buffer) (sym (gaps_post w).answered ∙ accepted)).1

    -- a line for each gap, and so one less than worksites
    pub gaps_counted : (lines_no out ≡ length (gaps from to)) × (lines_no out + 1 ≡ length from)
    gaps_counted =
        let count = (accepted_lines (gaps_post w) accepted).0 in
        (count, rw count (one_less from to (and_r (is_stated kind stated) (is_list from to) sent)))

    -- there is room for them: they stand at the front, and later bytes stay
    pub gaps_written : (17 * lines_no out ≤ length buffer)
        × (buffer' ≡ gap_lines kind stated (gaps from to) ++ drop (17 * lines_no out) buffer)
    gaps_written = let a = accepted_lines (gaps_post w) accepted in (a.1, a.2)

    -- line i has 17 bytes, and is read back as gap i and what is due for it, which is by cases in rules' Gaps.antt
    -- (`due_of_lpa`, `due_of_twa`)
    pub gap_written : (i : ℕ) → i < lines_no out
        → let written = take 17 (drop (17 * i) buffer') in
        let gap = get_or (gaps from to) i 0 in
        (length written ≡ 17)
        × (row_of 99999999 gap_widths written ≡ record { numbers = gap ∷ due kind stated gap ∷ []; whole = true })
    gap_written i l =
        let gap : ℕ = get_or (gaps from to) i 0 in
        let small : stated < 65536 = sent_small kind stated from to sent in
        let within : i < length (gaps from to) = omega (arith, gaps_counted.0) in
        let all = (sent_gaps kind stated from to sent).1 in
        let most = All-get_or (λ gap. gap ≤ 999999) (gaps from to) i 0 within all in
        rw (gaps_written.1, gap_at kind stated (gaps from to) (drop (17 * lines_no out) buffer) i small all within)
        (gap_17 kind stated gap small most, gap_read kind stated gap small most)

-- ---- no contract asks what can't be

module _ {plan : List ℕ} {ms : List Made} {ts : List Told} {r : Register} (h : Ran plan ms ts r) where
  -- whatever the call, the text or the page, each function can return what its contract says
  pub can_call : (s : Seven) (buffer : List ℕ)
      → (called : Called) × (buffer' : List ℕ) × Calling r s buffer called buffer'
  can_call = call_possible plan ms r (ran_board h, ran_stored h)

  pub can_run : (text buffer : List ℕ) → (ran : AfterRun) × (buffer' : List ℕ) × Running r text buffer ran buffer'
  can_run = run_possible plan ms r (ran_board h, ran_stored h)

  pub can_write_sheet : (page : List ℕ) → (out : Result ℕ Refusal) × (page' : List ℕ) × WritingSheet r page out page'
  can_write_sheet = sheet_possible r

-- so after any of them each further list of calls can be made, and on each plan each list of calls: what is claimed
-- above is claimed of every plan and every list of calls
more_calls : {plan : List ℕ} (ms' : List Made) {ms : List Made} {ts : List Told} {r : Register} → Ran plan ms ts r
    → (ts' : List Told) × (r' : Register) × Ran plan (ms ++ ms') ts' r'
more_calls [] {ms} {ts} {r} h = (ts, r, rw (append-nil ms) h)
more_calls {plan} (m ∷ ms') {ms} h =
    let (called, buffer', c) = can_call h m.seven (replicate m.room 0) in
    let (ts', r', k) = more_calls ms' (ran_call h c) in (
      ts',
      r',
      subst (λ (l : List Made). Ran plan l ts' r')
          (ap (λ (n : ℕ). (ms ++ (record { seven = m.seven; room = n } ∷ [])) ++ ms') (length-replicate m.room 0)
          ∙ append_assoc ms (m ∷ []) ms') k,
    )

pub ran_exists : (plan : List ℕ) (ms : List Made) → (ts : List Told) × (r : Register) × Ran plan ms ts r
ran_exists plan ms = let (opened, o) = open_possible plan in more_calls ms (ran_open o)

-- and whatever the kind, the statement, the worksites and the buffer, `write_gaps` can return what its contract says
pub can_write_gaps : (kind stated : ℕ) (from to buffer : List ℕ)
    → (out : Result ℕ Refusal) × (buffer' : List ℕ) × WritingGaps kind stated from to buffer out buffer'
can_write_gaps = gaps_possible
