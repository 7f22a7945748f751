-- The numbers that documents 01 and 02 give the refusals, and those that an answer is printed and reckoned by (01,
-- "Refusal words" and "The journal"). Assumes nothing.
use Rattle.std.specs.Prelude.{ℕ, Bool, true, false, Option, Some, None, Result, Ok, Err}
use Rattle.rules.specs.declared.AuthorityNo.{AuthorityNo}
use Rattle.rules.specs.declared.refusal.Refusal.{Refusal}
use Rattle.rules.specs.declared.refusal.Refusal.TheVariants.{ShortLine, NoSuchCall, Field, Clock, NotLive, Stage}
use Rattle.rules.specs.declared.refusal.Refusal.TheVariants.{Officer, AlreadySo, Full, NoFacility, Unprotected}
use Rattle.rules.specs.declared.refusal.Refusal.TheVariants.{Occupied, Overlap, Site, Assurance, StillNeeded, NoTrain}
use Rattle.rules.specs.declared.refusal.Refusal.TheVariants.{Blocked, NotPiloted, Plan, Notice, Term, ShortPage}
use Rattle.rules.specs.declared.refusal.Refusal.TheVariants.{Distance, BlockOn, Worksites, TooFarApart}

-- "Refusal words"; 02: 21 and 22 order 1, 23 order 2, 24 order 4, 25 order 6, 26 and 27 order 9
abbrev pub refusal_no : Refusal → ℕ
refusal_no ShortLine = 1
refusal_no NoSuchCall = 2
refusal_no Field = 3
refusal_no Clock = 4
refusal_no NotLive = 5
refusal_no Stage = 6
refusal_no Officer = 7
refusal_no AlreadySo = 8
refusal_no Full = 9
refusal_no NoFacility = 10
refusal_no Unprotected = 11
refusal_no Occupied = 12
refusal_no Overlap = 13
refusal_no Site = 14
refusal_no Assurance = 15
refusal_no StillNeeded = 16
refusal_no NoTrain = 17
refusal_no Blocked = 18
refusal_no NotPiloted = 19
refusal_no Plan = 20
refusal_no Notice = 21
refusal_no Term = 22
refusal_no ShortPage = 23
refusal_no Distance = 24
refusal_no BlockOn = 25
refusal_no Worksites = 26
refusal_no TooFarApart = 27

-- "the answer (0 or refusal)"
abbrev pub answer_no : {A : Type 0} → Result A Refusal → ℕ
answer_no (Ok x) = 0
answer_no (Err refusal) = refusal_no refusal

-- "the number allotted by REQUEST (else 0)"
abbrev pub number_no : Result (Option AuthorityNo) Refusal → ℕ
number_no (Ok (Some n)) = n.0
number_no (Ok None) = 0
number_no (Err refusal) = 0

-- a number was allotted
abbrev pub is_numbered : Result (Option AuthorityNo) Refusal → Bool
is_numbered (Ok (Some n)) = true
is_numbered (Ok None) = false
is_numbered (Err refusal) = false

-- how many lines were written: "23 when it is shorter, with nothing written"
abbrev pub lines_no : Result ℕ Refusal → ℕ
lines_no (Ok lines) = lines
lines_no (Err refusal) = 0
