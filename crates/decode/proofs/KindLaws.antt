-- The kind with a number, and the TWA where none has it. Assumes nothing.
use Prim.Native.Nat.{ℕ, zero, suc}
use mathlib.Core.Path.{◌≡◌, refl}
use Rattle.std.specs.Prelude.{Result, Ok, Err, MatchResult}
use Rattle.std.specs.Result.{result_unwrap_or}
use Rattle.rules.specs.declared.kind.Kind.{Kind}
use Rattle.rules.specs.declared.kind.Kind.TheVariants.{Lpa, Toa, Twa}
use Rattle.rules.specs.declared.kind.NoSuchKind.{NoSuchKind}
use Rattle.rules.specs.Board.{kind_no}
use Rattle.rules.specs.Call.{kind_of}

kind_found : (n : ℕ) (k : Kind) → kind_no k ≡ n → k ≡ kind_of n
kind_found n Lpa e = rw (← e)
kind_found n Toa e = rw (← e)
kind_found n Twa e = rw (← e)

no_kind : (n : ℕ) → ((k : Kind) → kind_no k ≡ n → ⊥) → Twa ≡ kind_of n
no_kind zero h = refl
no_kind (suc zero) h = absurd (h Lpa refl)
no_kind (suc (suc zero)) h = absurd (h Toa refl)
no_kind (suc (suc (suc n))) h = refl

pub kind_or_twa : (n : ℕ) (r : Result Kind NoSuchKind)
    → MatchResult r (λ k. kind_no k ≡ n) (λ _. (k : Kind) → kind_no k ≡ n → ⊥)
    → result_unwrap_or r Twa ≡ kind_of n
kind_or_twa n (Ok k) e = kind_found n k e
kind_or_twa n (Err x) h = no_kind n h
