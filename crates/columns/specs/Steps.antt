-- What single steps of the code compute. Only the contracts of private functions cite these; the laws in proofs/ tie
-- them to `column` and `read_column`, so a reader of the public contracts need not believe them. Assumes nothing.
use Rattle.std.specs.Prelude.{ℕ, ◌+◌, ◌-◌, ◌*◌, ◌%◌, cond, eqb, leb, Bool, true, false, ◌&&◌, List, [], ◌∷◌, Option}
use Rattle.std.specs.Prelude.{Some, None}

-- the byte of a column before the last, for what is left of a number: a blank for nothing, else its last digit
abbrev pub mark : ℕ → ℕ
mark n = cond (eqb n 0) 32 (48 + n % 10)

-- the byte is a digit that may stand after the number v, the number that they make being at most `most`
abbrev pub goes_on : ℕ → ℕ → ℕ → Bool
goes_on most v b = leb 48 b && leb b 57 && leb (v * 10 + (b - 48)) most

-- the number that v and the digits after it make, at most `most`
unfoldable pub scan_digits : ℕ → ℕ → List ℕ → Option ℕ
scan_digits most v [] = Some v
scan_digits most v (b ∷ s) = elim (goes_on most v b) [ true ↦ scan_digits most (v * 10 + (b - 48)) s | false ↦ None ]
