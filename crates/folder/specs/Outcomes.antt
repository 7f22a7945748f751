-- What opening a plan, making all calls of a file, printing the sheet and printing what is due for worksites come to:
-- the boards, and what is written. Assumes nothing.
use Rattle.std.specs.Prelude.{ℕ, ◌+◌, ◌*◌, ◌/◌, ◌^◌, ◌≤◌, ◌≡◌, ◌≢◌, Bool, true, false, cond, List, [], ◌∷◌, length}
use Rattle.std.specs.Prelude.{eqb, ⊤, Option, Some, None, Result, Ok, Err}
use Rattle.std.specs.Io.KnownBytes.{Keeps, Appends}
use Rattle.columns.specs.Line.{line}
use Rattle.rules.specs.declared.Register.{Register}
use Rattle.rules.specs.Board.{Board, board_of}
use Rattle.rules.specs.Plan.{open_board, open_answer}
use Rattle.rules.specs.Sheet.{sheet}
use Rattle.calls.specs.Run.{Run, run_of}
use Rattle.folder.specs.declared.failure.Failure.{Failure}
use Rattle.folder.specs.declared.failure.Failure.TheVariants.{File, Malformed, Endless, MalformedWorksites}
use Rattle.worksites.specs.ListText.{is_malformed, malformed_line, gaps_printed}

-- a file could not be opened, read or written
abbrev pub IsFile : Failure → Type 0
IsFile (File name error) = ⊤
IsFile (Malformed name n) = ⊥
IsFile (Endless name) = ⊥
IsFile (MalformedWorksites name n) = ⊥

-- ---- the calls of a text, to its end

-- the run of all calls of a text: a line has 43 bytes
unfoldable pub whole_run : Board → List ℕ → Run
whole_run b text = run_of (length text / 43) b text

-- all of the text are calls that were made: "it stops before a malformed call line"
abbrev pub all_made : Board → List ℕ → Bool
all_made b text = eqb (43 * (whole_run b text).lines) (length text)

-- the run came to the end of the text: it leaves this board
pub record RanToEnd (b : Board) (text : List ℕ) (register : Register) : Type 0 where
  pub board : board_of register ≡ (whole_run b text).board
  pub all : all_made b text ≡ true

-- the run came to a malformed line, the one behind the calls that were made; lines count from 1
pub record RanToLine (b : Board) (text : List ℕ) (n : ℕ) : Type 0 where
  pub line : n ≡ (whole_run b text).lines + 1
  pub part : all_made b text ≡ false

-- the text that a reader has left to give: any, where its bytes are not known
abbrev pub Has : Option (List ℕ) → List ℕ → Type 0
Has None text = ⊤
Has (Some left) text = left ≡ text

-- a reader has a text of 2 ^ 50 pieces of 1024 lines, or more
abbrev pub IsEndless : Option (List ℕ) → Type 0
IsEndless had = (text : List ℕ) × Has had text × (43 * (1024 * 2 ^ 50) ≤ length text)

-- what making the calls that a reader has on a board comes to: the journal of those that were made is written, and the
-- run came to the end or to a malformed line, or the text is too long. Nothing is claimed where reading or writing
-- failed.
abbrev pub RanAll
    : Board → Option (List ℕ) → Option (List ℕ) → Option (List ℕ) → Result Register Failure → Type 0
RanAll b had old new (Ok register) =
    (text : List ℕ) × Has had text × RanToEnd b text register × Appends old new (whole_run b text).text
RanAll b had old new (Err (Malformed name n)) =
    (text : List ℕ) × Has had text × RanToLine b text n × Appends old new (whole_run b text).text
RanAll b had old new (Err (File name error)) = ⊤
RanAll b had old new (Err (Endless name)) = IsEndless had
RanAll b had old new (Err (MalformedWorksites name n)) = ⊥

-- ---- a plan

-- what opening a plan's text comes to: an accepted plan opens its board, and nothing is written; for a refused plan
-- there is no board, and its answer is written, "    20" and a line feed
abbrev pub PlanOpened : List ℕ → Option (List ℕ) → Option (List ℕ) → Option Register → Type 0
PlanOpened text old new (Some register) =
    (open_answer text ≡ 0) × (board_of register ≡ open_board text) × Keeps old new
PlanOpened text old new None = (open_answer text ≢ 0) × Appends old new (line (6 ∷ []) (open_answer text ∷ []))

-- ---- the sheet

-- what printing the sheet after the calls that a reader has comes to: the sheet of the board after them is written,
-- where each line is a call; at a malformed line nothing is written. Nothing is claimed where reading or writing
-- failed.
abbrev pub PageAfter
    : {A : Type 0} → Board → Option (List ℕ) → Option (List ℕ) → Option (List ℕ) → Result A Failure → Type 0
PageAfter b had old new (Ok done) =
    (text : List ℕ) × Has had text × (all_made b text ≡ true) × Appends old new (sheet (whole_run b text).board)
PageAfter b had old new (Err (Malformed name n)) =
    (text : List ℕ) × Has had text × RanToLine b text n × Keeps old new
PageAfter b had old new (Err (File name error)) = ⊤
PageAfter b had old new (Err (Endless name)) = IsEndless had
PageAfter b had old new (Err (MalformedWorksites name n)) = ⊥

-- ---- a working folder

-- what is printed of a plan and calls: the answer where the plan is refused, else what its board and the calls give
abbrev pub printed : (Board → List ℕ → List ℕ) → List ℕ → List ℕ → List ℕ
printed given plan text =
    cond (eqb (open_answer plan) 0) (given (open_board plan) text) (line (6 ∷ []) (open_answer plan ∷ []))

-- this is written for some plan and some calls, since it is not known what a file holds; where the plan is accepted,
-- all of the text are calls that were made
abbrev pub Printed : (Board → List ℕ → List ℕ) → Option (List ℕ) → Option (List ℕ) → Type 0
Printed given old new =
    (plan : List ℕ) × (text : List ℕ) × (open_answer plan ≡ 0 → all_made (open_board plan) text ≡ true)
    × Appends old new (printed given plan text)

-- the journal, and the sheet
abbrev pub journal_of : Board → List ℕ → List ℕ
journal_of b text = (whole_run b text).text

abbrev pub sheet_of : Board → List ℕ → List ℕ
sheet_of b text = sheet (whole_run b text).board

-- ---- worksites (02, order 9)

-- what printing what is due for the worksites of a text comes to: the lines of the gaps are written, or the answer; at
-- a malformed line nothing is written. Nothing is claimed where writing failed.
abbrev pub GapsAfter : {A : Type 0} → List ℕ → Option (List ℕ) → Option (List ℕ) → Result A Failure → Type 0
GapsAfter text old new (Ok done) = (is_malformed text ≡ false) × Appends old new (gaps_printed text)
GapsAfter text old new (Err (MalformedWorksites name n)) =
    (is_malformed text ≡ true) × (n ≡ malformed_line text) × Keeps old new
GapsAfter text old new (Err (File name error)) = ⊤
GapsAfter text old new (Err (Malformed name n)) = ⊥
GapsAfter text old new (Err (Endless name)) = ⊥

-- this is written for some text with no malformed line, since it is not known what a file holds
abbrev pub GapsPrinted : Option (List ℕ) → Option (List ℕ) → Type 0
GapsPrinted old new = (text : List ℕ) × (is_malformed text ≡ false) × Appends old new (gaps_printed text)
