-- What is spoken of: a board opened by `open` from any text, and then any calls by `call` and any texts of calls by
-- `run`, in any mixture, each on the register that the one before returned. A step is what its function's contract
-- ensures, at any argument; nothing else is known of it. `take` is no step, as Rattle makes no plain reading of a
-- function that is lent a struct; `call` and `run` are made of it. Assumes nothing.
use Prim.Native.Nat.{ℕ, ◌/◌}
use mathlib.Core.List.{List, [], ◌∷◌, ◌++◌, map}
use lib.ListN.{length}
use Rattle.rules.specs.declared.Seven.{Seven}
use Rattle.rules.specs.declared.Opened.{Opened}
use Rattle.rules.specs.declared.Called.{Called}
use Rattle.rules.specs.declared.Register.{Register}
use Rattle.rules.specs.Step.{Made}
use Rattle.board.proofs.BoardUses.{Opening, Calling}
use Rattle.calls.specs.declared.piece.AfterRun.{AfterRun}
use Rattle.calls.specs.CallsIn.{calls_in}
use Rattle.calls.specs.Run.{made}
use Rattle.calls.proofs.RunUses.{Running}
use Rattle.claims.specs.Told.{Told, told_of, told_in}

-- a call that is made with a buffer for its line
abbrev pub made_with : Seven → List ℕ → Made
made_with s buffer = record { seven = s; room = length buffer }

-- the plan's text; the calls made, in order; what was told of each; and the register that the last step returned
pub data Ran : List ℕ → List Made → List Told → Register → Type 0 where
  ran_open : {plan : List ℕ} {opened : Opened} → Opening plan opened → Ran plan [] [] opened.register
  -- a call more, with what it returned
  ran_call : {plan : List ℕ} {ms : List Made} {ts : List Told} {before : Register} {s : Seven} {buffer buffer' : List ℕ}
      {called : Called}
      → Ran plan ms ts before → Calling before s buffer called buffer'
      → Ran plan (ms ++ (made_with s buffer ∷ [])) (ts ++ (told_of s called.answer ∷ []))
      called.register
  -- the calls of a text, as many at most as the buffer has room for lines of 55 bytes, with what is read off the lines
  -- that are in it at the return
  ran_run : {plan : List ℕ} {ms : List Made} {ts : List Told} {before : Register} {text buffer buffer' : List ℕ}
      {after : AfterRun}
      → Ran plan ms ts before → Running before text buffer after buffer'
      → Ran plan (ms ++ map made (calls_in (length buffer / 55) text)) (ts ++ told_in after.lines buffer')
      after.register
