-- What is told of a call, as a line of the journal says it, and the numbers that REQUESTs are due. Assumes nothing.
use Rattle.std.specs.Prelude.{ℕ, zero, suc, Bool, true, false, cond, ◌&&◌, List, [], ◌∷◌, ◌++◌, map, length, take, drop}
use Rattle.std.specs.Prelude.{get_or, eqb, Option, Result}
use Rattle.std.specs.List.{filter}
use Rattle.columns.specs.Reading.{row_of}
use Rattle.rules.specs.declared.AuthorityNo.{AuthorityNo}
use Rattle.rules.specs.declared.Seven.{Seven}
use Rattle.rules.specs.declared.refusal.Refusal.{Refusal}
use Rattle.rules.specs.Answer.{answer_no, number_no}
use Rattle.rules.specs.Board.{Board}
use Rattle.rules.specs.Journal.{journal_widths}
use Rattle.rules.specs.Refusals.{answer}
use Rattle.rules.specs.Step.{Made, Answered, after, allotted}
use Rattle.calls.specs.CallLine.{seven_of}

-- "the seven numbers, the answer (0 or refusal), the number allotted by REQUEST (else 0)"
pub record Told : Type 0 where
  pub seven : Seven
  pub answer : ℕ
  pub number : ℕ

-- of a call that returned this answer
abbrev pub told_of : Seven → Result (Option AuthorityNo) Refusal → Told
told_of s given = record { seven = s; answer = answer_no given; number = number_no given }

-- of the nine numbers of a line
abbrev pub told_as : List ℕ → Told
told_as ns = record { seven = seven_of ns; answer = get_or ns 7 0; number = get_or ns 8 0 }

-- of a line of a journal: nine numbers, "each right-justified in 6 columns, then a line feed"; any other tells nothing
unfoldable pub told_on : List ℕ → List Told
told_on text =
    cond (row_of 65535 journal_widths text).whole (told_as (row_of 65535 journal_widths text).numbers ∷ []) []

-- of the first n lines of a buffer, 55 bytes each
unfoldable pub told_in : ℕ → List ℕ → List Told
told_in zero buffer = []
told_in (suc n) buffer = told_on (take 55 buffer) ++ told_in n (drop 55 buffer)

-- the calls with their answers, as the reckoning reads them
abbrev pub answers_of : List Told → List Answered
answers_of ts = map (λ t. record { seven = t.seven; answer = t.answer }) ts

-- what the rules tell of a call on a board, and of a list of calls, each on the board that the call before it returned
abbrev pub told_by : Board → Made → Told
told_by b m = record { seven = m.seven; answer = answer b m.seven m.room; number = allotted b m.seven m.room }

unfoldable pub tells : Board → List Made → List Told
tells b [] = []
tells b (m ∷ ms) = told_by b m ∷ tells (after b m.seven m.room) ms

-- ---- the numbers that are due

-- an accepted REQUEST
abbrev pub is_request : Answered → Bool
is_request c = eqb c.answer 0 && eqb c.seven.call 1

-- "The nth REQUEST gives authority n": where n numbers were given before, each accepted REQUEST is due the next, and
-- any other call 0
unfoldable pub numbers_due : ℕ → List Answered → List ℕ
numbers_due n [] = []
numbers_due n (c ∷ cs) =
    elim (is_request c) [ true ↦ suc n ∷ numbers_due (suc n) cs | false ↦ 0 ∷ numbers_due n cs ]

-- how many REQUESTs were accepted
abbrev pub count_requests : List Answered → ℕ
count_requests cs = length (filter is_request cs)
