-- A call that has room for its line: all of it but its line. Assumes nothing.
use Rattle.std.specs.Prelude.{ℕ, ◌≡◌, ◌&&◌, Option, Some, None, Result, IfOk, IsErr, eqb}
use Rattle.rules.specs.declared.AuthorityNo.{AuthorityNo}
use Rattle.rules.specs.declared.Seven.{Seven}
use Rattle.rules.specs.declared.Call.{Call}
use Rattle.rules.specs.declared.Call.TheVariants.{Grant, Fulfil, Continue}
use Rattle.rules.specs.declared.refusal.Refusal.{Refusal}
use Rattle.rules.specs.declared.Register.{Register}
use Rattle.rules.specs.Board.{Board, board_of, authority}
use Rattle.rules.specs.Call.{named}
use Rattle.rules.specs.Refusals.{lowest, own, answer}
use Rattle.rules.specs.Effects.{effect}
use Rattle.rules.specs.Answer.{answer_no, number_no, is_numbered}
use Rattle.rules.specs.Step.{Kept, after, allotted}
use Rattle.authorities.specs.declared.stored.StoredSets.{StoredSets}
use Rattle.authorities.specs.Stored.{sets_again}

-- the answer where the buffer is long enough
abbrev pub with_room : Board → Seven → ℕ
with_room b s = answer b s 55

-- the answer to a call, and, where it is accepted, the call itself, which none of its own conditions refuses
pub record Allowed (b : Board) (s : Seven) (r : Result Call Refusal) : Type 0 where
  pub answered : answer_no r ≡ with_room b s
  pub named : IfOk r (λ c. named s ≡ Some c)
  pub free : IfOk r (λ c. lowest (own b s (Some c)) ≡ 0)

-- the three sets, as a register holds them (02, order 8)
abbrev pub stored_in : Register → StoredSets
stored_in r = record { exclusive_held = r.exclusive_held; twa_held = r.twa_held; needed = r.needed }

-- the limits of the two authorities that a call names, or of the one and 0, where it may change the three
abbrev pub named_limits : Board → Call → Option (ℕ × ℕ)
named_limits b (Grant n officer) = Some ((authority b n).limits, 0)
named_limits b (Fulfil n officer assurances) = Some ((authority b n).limits, 0)
named_limits b (Continue old new officer_old officer_new) = Some ((authority b old).limits, (authority b new).limits)
named_limits b c = None

-- the three behind an accepted call: made anew from the board that it leaves, where limits are named, else those held
abbrev pub sets_left : Board → StoredSets → Option (ℕ × ℕ) → StoredSets
sets_left b held (Some limits) = sets_again b held.needed limits.0 limits.1
sets_left b held None = held

-- what an accepted call leaves of the register, but for its stamp
abbrev pub CarriedOut : Register → Call → Register → Type 0
CarriedOut before c register =
    (board_of register ≡ effect (board_of before) (Some c))
    × (stored_in register ≡ sets_left (board_of register) (stored_in before) (named_limits (board_of before) c))

-- a call with room for its line (55 bytes): the register after it, and what is answered
pub record TakePost
    (before : Register) (s : Seven) (register : Register) (given : Result (Option AuthorityNo) Refusal) : Type 0 where
  pub board : board_of register ≡ after (board_of before) s 55
  pub answered : answer_no given ≡ answer (board_of before) s 55
  pub number : number_no given ≡ allotted (board_of before) s 55
  pub numbered : is_numbered given ≡ (eqb (answer (board_of before) s 55) 0 && eqb s.call 1)
  -- a refused call "leaves the register as before": the very one that it was handed
  pub unchanged : IsErr given → register ≡ before
  pub kept : Kept register
