-- `sets::table::up_to` meets its contract: antt computes that its table is that of `up_to`. Assumes nothing.
use Rattle.std.proofs.Common.{ap, inl, inr, ◌∙◌, ◌<◌, ◌≡◌, ℕ, arith}
use Prim.Native.Nat.{min}
use Rattle.std.proofs.lemmas.Bool.{cases_lt}
use Rattle.std.proofs.Math.Nat.{min-eq_left, min-eq_right, min-le_right}
use Rattle.sets.specs.Sets.{set_of, run, up_to}
use Rattle.sets.proofs.Entries.{entry, up_to_all}
use Rattle.sets.proofs.table.up_to.Goals as goal

-- a number past 63 has the set of 63
up_to_min : (n : ℕ) → up_to (min n 63) ≡ up_to n
up_to_min n = elim (cases_lt n 63) [
  | inl h ↦ ap up_to (min-eq_left (omega arith))
  | inr h ↦ ap up_to (min-eq_right h) ∙ up_to_all n h
]

pub returns : goal.returns
unfolding up_to run set_of
returns c =
    let below : c.min.result < 64 = let l = min-le_right c.from.result 63 in omega arith in
    entry up_to 64 c.min.result below ∙ ap up_to (c.min.ensures ∙ ap (λ n. min n 63) c.from.ensures)
    ∙ up_to_min c.args.n
