-- The numbers of an agreement's refusals, from the flags that decide it, for AGREE and for JOIN. Assumes nothing.
use Rattle.std.proofs.Common.{◌≡◌, refl, Bool, true, false, cond, Result, Ok, Err}
use Rattle.rules.specs.declared.refusal.Refusal.{Refusal}
use Rattle.rules.specs.declared.refusal.Refusal.TheVariants.{NotLive, Stage, Officer, AlreadySo}
use Rattle.rules.specs.Answer.{refusal_no, answer_no}

abbrev decided : Bool → Bool → Bool → Bool → Result (Unit {0}) Refusal
decided s t u v = cond s (Err NotLive) (cond t (Err Stage) (cond u (Err Officer) (cond v (Err AlreadySo) (Ok tt))))

-- AGREE's answer is that of its agreement
numbered : (s t u v : Bool) → answer_no (decided s t u v) ≡ cond s 5 (cond t 6 (cond u 7 (cond v 8 0)))
numbered true t u v = refl
numbered false true u v = refl
numbered false false true v = refl
numbered false false false true = refl
numbered false false false false = refl

pub agreed : (s t u v : Bool) (r : Result (Unit {0}) Refusal) → r ≡ decided s t u v
    → answer_no r ≡ cond s 5 (cond t 6 (cond u 7 (cond v 8 0)))
agreed s t u v r is = rw is (numbered s t u v)

-- JOIN's agreement is refused before its distance is asked
pub refused : (s t u v w : Bool) (d : Refusal) → Err d ≡ decided s t u v
    → refusal_no d ≡ cond s 5 (cond t 6 (cond u 7 (cond v 8 (cond w 24 0))))
refused true t u v w d is = let h : d ≡ NotLive = cc in rw h
refused false true u v w d is = let h : d ≡ Stage = cc in rw h
refused false false true v w d is = let h : d ≡ Officer = cc in rw h
refused false false false true w d is = let h : d ≡ AlreadySo = cc in rw h
refused false false false false w d is = cc
