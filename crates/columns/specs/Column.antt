-- A number written to base ten in fixed columns: right-justified behind blanks, no leading zeros, 0 as one digit; and a
-- lent text that one is written to. Assumes nothing.
use Rattle.std.specs.Prelude.{ℕ, zero, suc, ◌+◌, ◌-◌, ◌/◌, ◌%◌, Bool, true, false, cond, List, [], ◌∷◌, ◌++◌, ◌≡◌, leb}
use Rattle.std.specs.Prelude.{ltb, length, replicate}

-- the digits of n as bytes (48 is the byte of the digit 0), at most k of them
unfoldable pub digits_in : ℕ → ℕ → List ℕ
digits_in zero n = []
digits_in (suc k) n = elim (ltb n 10) [ true ↦ (48 + n) ∷ [] | false ↦ digits_in k (n / 10) ++ ((48 + n % 10) ∷ []) ]

-- all digits of n: it has no more of them than n + 1
unfoldable pub digits : ℕ → List ℕ
digits n = digits_in (suc n) n

-- n in w columns: blanks (byte 32), then its digits
unfoldable pub column : ℕ → ℕ → List ℕ
column w n = replicate (w - length (digits n)) 32 ++ digits n

-- n has no more digits than w columns hold
unfoldable pub fits : ℕ → ℕ → Bool
fits w n = leb (length (digits n)) w

-- what filling a lent text with a number answers, and the text that it leaves: one that the number does not fit stays
-- as it was
pub record ColumnFilled (text : List ℕ) (n : ℕ) (text' : List ℕ) (given : Bool) : Type 0 where
  pub answered : given ≡ fits (length text) n
  pub bytes : text' ≡ cond (fits (length text) n) (column (length text) n) text
