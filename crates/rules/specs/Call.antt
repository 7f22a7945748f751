-- The seven numbers of a call, what its fields are called, and their ranges (01, "The thirteen calls"; 02, order 1:
-- TERM, order 4: JOIN, order 6: BOOK OUT and BOOK IN). Assumes nothing.
use Rattle.std.specs.Prelude.{ℕ, Option, Some, None, Result, Err, ◌+◌, ◌*◌, ◌/◌, ◌%◌, Bool, true, cond, not, ◌&&◌, List}
use Rattle.std.specs.Prelude.{[], ◌∷◌, length, get_or, eqb, leb, ltb}
use Rattle.std.specs.Option.{ok_or}
use Rattle.sets.specs.Sets.{between}
use Rattle.rules.specs.declared.AuthorityNo.{AuthorityNo}
use Rattle.rules.specs.declared.TrainNo.{TrainNo}
use Rattle.rules.specs.declared.GateNo.{GateNo}
use Rattle.rules.specs.declared.PaperNo.{PaperNo}
use Rattle.rules.specs.declared.kind.Kind.{Kind}
use Rattle.rules.specs.declared.kind.Kind.TheVariants.{Lpa, Toa, Twa}
use Rattle.rules.specs.declared.Seven.{Seven}
use Rattle.rules.specs.declared.Call.{Call}
use Rattle.rules.specs.declared.Call.TheVariants.{Request, Withdraw, Agree, Block, Unblock, Grant, Clear, Reoccupy}
use Rattle.rules.specs.declared.Call.TheVariants.{HandOver, Fulfil, Continue, Move, Passed, Term, Join, BookOut, BookIn}
use Rattle.rules.specs.declared.refusal.Refusal.{Refusal}
use Rattle.rules.specs.declared.refusal.Refusal.TheVariants.{NoSuchCall}
use Rattle.rules.specs.declared.refusal.Refusal.TheVariants as Word
use Rattle.rules.specs.declared.Field.{Field}
use Rattle.rules.specs.declared.Form.{Form}

-- ---- ranges

-- "Day is 0 to 9999, time hhmm on the 24-hour clock."
unfoldable pub is_day : ℕ → Bool
is_day day = leb day 9999

unfoldable pub is_time : ℕ → Bool
is_time time = ltb (time / 100) 24 && ltb (time % 100) 60

-- the minute of a stamp: 1440 a day, and the minutes of the day
unfoldable pub minute_of : ℕ → ℕ → ℕ
minute_of day time = day * 1440 + time / 100 * 60 + time % 100

-- BOOK IN (02, order 6): "Certified 1 with new paper 0", "Certified 0 with a new paper other than the call's paper, 1
-- to 9999"; "Other combinations are refused 3."
abbrev pub is_new_paper : ℕ → ℕ → ℕ → Bool
is_new_paper paper certified new = cond (eqb certified 1) (eqb new 0) (between 1 9999 new && not (eqb new paper))

-- the value of a field of the call `s` is in its range, on a board of P portions and G gates
unfoldable pub in_range : ℕ → ℕ → Field → Seven → ℕ → Bool
-- "unused fields are 0"
in_range P G Field.Unused s value = eqb value 0
-- "kind 1 to 3"
in_range P G Field.Kind s value = between 1 3 value
-- "first ≤ last < P": of REQUEST, whose third field is the last portion
in_range P G Field.First s value = leb value s.c
in_range P G Field.Last s value = ltb value P
-- "officer 1 to 999"
in_range P G Field.Officer s value = between 1 999 value
-- "authority and train 1 to 9999"
in_range P G Field.Authority s value = between 1 9999 value
in_range P G Field.Train s value = between 1 9999 value
-- "gate below G"
in_range P G Field.Gate s value = ltb value G
-- "assurances 0 to 7"
in_range P G Field.Assurances s value = leb value 7
-- "In MOVE authority and officer may be 0."
in_range P G Field.AuthorityOrNone s value = leb value 9999
in_range P G Field.OfficerOrNone s value = leb value 999
-- TERM (02, order 1): "start day, start time, length in minutes (1 to 65535)"
in_range P G Field.Day s value = is_day value
in_range P G Field.Time s value = is_time value
in_range P G Field.Minutes s value = between 1 65535 value
-- JOIN (02, order 4): "distance in metres", any number; 24 speaks of it, and not 3
in_range P G Field.Distance s value = true
-- BOOK OUT and BOOK IN (02, order 6): "paper 1 to 9999", "certified 0 or 1"
in_range P G Field.Paper s value = between 1 9999 value
in_range P G Field.Certified s value = leb value 1
-- of BOOK IN, whose second field is the call's paper and whose third is certified
in_range P G Field.NewPaper s value = is_new_paper s.b s.c value

-- ---- the table of calls

abbrev pub authority_of : ℕ → AuthorityNo
authority_of n = record { 0 = n }

abbrev pub train_of : ℕ → TrainNo
train_of n = record { 0 = n }

abbrev pub gate_of : ℕ → GateNo
gate_of n = record { 0 = n }

abbrev pub paper_of : ℕ → PaperNo
paper_of n = record { 0 = n }

-- the kind with that number, 1 to 3; no REQUEST with another is accepted
abbrev pub kind_of : ℕ → Kind
kind_of n = get_or (Twa ∷ Lpa ∷ Toa ∷ []) n Twa

abbrev pub form : Field → Field → Field → Field → Form
form a b c d = record { a = a; b = b; c = c; d = d }

-- an entry of the table: the kinds of the four fields, and the call with its fields named
pub record Entry : Type 0 where
  pub form : Form
  pub named : Seven → Option Call

abbrev pub entry : Form → (Seven → Option Call) → Entry
entry f reading = record { form = f; named = reading }

-- the calls in order: 1 to 13 of 01, 14 of 02's order 1, 15 of its order 4, 16 and 17 of its order 6
unfoldable pub calls : List Entry
calls =
    entry (form Field.Kind Field.First Field.Last Field.Officer) (λ s. Some (Request (kind_of s.a) s.b s.c s.d))
    ∷ entry (form Field.Authority Field.Officer Field.Unused Field.Unused) (λ s. Some (Withdraw (authority_of s.a) s.b))
    ∷ entry (form Field.Authority Field.Authority Field.Officer Field.Unused)
    (λ s. Some (Agree (authority_of s.a) (authority_of s.b) s.c))
    ∷ entry (form Field.Gate Field.Unused Field.Unused Field.Unused) (λ s. Some (Block (gate_of s.a)))
    ∷ entry (form Field.Gate Field.Unused Field.Unused Field.Unused) (λ s. Some (Unblock (gate_of s.a)))
    ∷ entry (form Field.Authority Field.Officer Field.Unused Field.Unused) (λ s. Some (Grant (authority_of s.a) s.b))
    ∷ entry (form Field.Authority Field.Officer Field.Unused Field.Unused) (λ s. Some (Clear (authority_of s.a) s.b))
    ∷ entry (form Field.Authority Field.Officer Field.Unused Field.Unused) (λ s. Some (Reoccupy (authority_of s.a) s.b))
    ∷ entry (form Field.Authority Field.Officer Field.Officer Field.Unused)
    (λ s. Some (HandOver (authority_of s.a) s.b s.c))
    ∷ entry (form Field.Authority Field.Officer Field.Assurances Field.Unused)
    (λ s. Some (Fulfil (authority_of s.a) s.b s.c))
    ∷ entry (form Field.Authority Field.Authority Field.Officer Field.Officer)
    (λ s. Some (Continue (authority_of s.a) (authority_of s.b) s.c s.d))
    ∷ entry (form Field.Train Field.Gate Field.AuthorityOrNone Field.OfficerOrNone)
    (λ s. Some (Move (train_of s.a) (gate_of s.b) (authority_of s.c) s.d))
    ∷ entry (form Field.Train Field.Unused Field.Unused Field.Unused) (λ s. Some (Passed (train_of s.a)))
    ∷ entry (form Field.Authority Field.Day Field.Time Field.Minutes) (λ s. Some (Term (authority_of s.a) s.b s.c s.d))
    ∷ entry (form Field.Authority Field.Authority Field.Officer Field.Distance)
    (λ s. Some (Join (authority_of s.a) (authority_of s.b) s.c s.d))
    ∷ entry (form Field.Gate Field.Paper Field.Unused Field.Unused) (λ s. Some (BookOut (gate_of s.a) (paper_of s.b)))
    ∷ entry (form Field.Gate Field.Paper Field.Certified Field.NewPaper)
    (λ s. Some (BookIn (gate_of s.a) (paper_of s.b) (eqb s.c 1) (paper_of s.d)))
    ∷ []

abbrev pub no_entry : Entry
no_entry = entry (form Field.Unused Field.Unused Field.Unused Field.Unused) (λ s. None)

-- the entry of the call with that number; 0 and the numbers beyond the table are no call's
unfoldable pub entry_of : ℕ → Entry
entry_of call = get_or (no_entry ∷ calls) call no_entry

unfoldable pub is_call : ℕ → Bool
is_call call = between 1 (length calls) call

-- the call that the seven numbers are, its fields named; none where no call has the number
unfoldable pub named : Seven → Option Call
named s = (entry_of s.call).named s

-- the four fields are in their ranges
unfoldable pub in_form : ℕ → ℕ → Form → Seven → Bool
in_form P G f s =
    in_range P G f.a s s.a && in_range P G f.b s s.b && in_range P G f.c s s.c && in_range P G f.d s s.d

-- the stamp and the fields are in their ranges
unfoldable pub in_ranges : ℕ → ℕ → Seven → Bool
in_ranges P G s = is_day s.day && is_time s.time && in_form P G (entry_of s.call).form s

-- the call read off the seven numbers on a board of P portions and G gates, or the refusal of its number or its fields
unfoldable pub decoded : ℕ → ℕ → Seven → Result Call Refusal
decoded P G s =
    cond (is_call s.call) (cond (in_ranges P G s) (ok_or (named s) NoSuchCall) (Err Word.Field)) (Err NoSuchCall)
