-- The lines of a text, each as long as the others, as a loop takes them: chunk by chunk off what is left. Assumes
-- nothing.
use Prim.Native.Nat.{ℕ, ◌+◌, ◌*◌, ◌≤◌, ◌<◌}
use native.Mathlib.Omega.{arith}
use native.Mathlib.Numerals.{add-one}
use mathlib.Core.Path.{◌≡◌, sym, ap}
use mathlib.Core.List.{List, ◌++◌}
use lib.ListN.{length, take, drop, length-append, length-drop}
use lib.Seq.{take_at, drop_at, drop-drop}
use Rattle.std.proofs.Math.Nat.{mul-suc}

-- a chunk of w bytes off what is left of the text behind k lines is the next line
pub next_line : (w k : ℕ) (text line rest rest' : List ℕ) → 0 < w → rest ≡ drop (w * k) text → rest ≡ line ++ rest'
    → length line ≡ w
    → (line ≡ take w (drop (w * k) text)) × (rest' ≡ drop (w * (k + 1)) text) × (w * k + w ≤ length text)
next_line w k text line rest rest' pos d e l =
    let next : w * (k + 1) ≡ w * k + w = rw add-one (mul-suc w k) in (
      rw (← d, e) (sym (take_at line rest' w l)),
      rw (next, ← drop-drop w (w * k) text, ← d, e) (sym (drop_at line rest' w l)),
      omega (arith, length-drop (w * k) text, ap length d, ap length e, length-append line rest'),
    )
