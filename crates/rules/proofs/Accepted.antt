-- An accepted call: its fields are in their ranges and none of its own conditions holds. Assumes nothing.
use Rattle.std.specs.Prelude.{Option, Some, None}
use Prim.Native.Nat.{ℕ, zero, suc, ◌≤◌, ◌<◌}
use mathlib.Core.Path.{◌≡◌, refl}
use mathlib.Core.Bool.{true, false, not, ◌&&◌, false≢true}
use native.Mathlib.Omega.{arith}
use mathlib.Core.List.Memᴰ
use lib.ListN.{length}
use lib.Dec.{eqb}
use borrow.Author.Tests.{leb-true, ltb-true}
use Rattle.std.proofs.lemmas.Bool.{not-false}
use Rattle.lists.proofs.Tests.{told}
use Rattle.lists.proofs.Search.{each_at}
use Rattle.sets.specs.Sets.{between}
use Rattle.rules.specs.declared.Seven.{Seven}
use Rattle.rules.specs.declared.Call.{Call}
use Rattle.rules.specs.declared.Call.TheVariants.{Request, Withdraw, Agree, Block, Unblock, Grant, Clear, Reoccupy}
use Rattle.rules.specs.declared.Call.TheVariants.{HandOver, Fulfil, Continue, Move, Passed, Term, Join, BookOut, BookIn}
use Rattle.rules.specs.Board.{Board}
use Rattle.rules.specs.Call.{Entry, is_new_paper, is_day, is_time, in_range, calls, no_entry, entry_of}
use Rattle.rules.specs.Call.{is_call, named, in_form, in_ranges}
use Rattle.rules.specs.Refusals.{◌when◌, own, conditions, answer}
use Rattle.rules.proofs.Answers.{NoneHolds, condition_at, at_none, accepted_none}

-- what the number and the ranges say: it is a call, its portions are in order and on the board, its gate is one of the
-- board's, its day and time are those of a clock, its papers have numbers
abbrev pub Ranges : Board → Option Call → Type 0
Ranges b None = ⊥
Ranges b (Some (Request kind low high officer)) = (low ≤ high) × (high < b.portions)
Ranges b (Some (Withdraw n officer)) = Unit {0}
Ranges b (Some (Agree toa twa officer)) = Unit {0}
Ranges b (Some (Block g)) = g.0 < length b.gates
Ranges b (Some (Unblock g)) = g.0 < length b.gates
Ranges b (Some (Grant n officer)) = Unit {0}
Ranges b (Some (Clear n officer)) = Unit {0}
Ranges b (Some (Reoccupy n officer)) = Unit {0}
Ranges b (Some (HandOver n out into)) = Unit {0}
Ranges b (Some (Fulfil n officer assurances)) = Unit {0}
Ranges b (Some (Continue old new officer_old officer_new)) = Unit {0}
Ranges b (Some (Move t g n officer)) = g.0 < length b.gates
Ranges b (Some (Passed t)) = Unit {0}
Ranges b (Some (Term n day time minutes)) = (is_day day ≡ true) × (is_time time ≡ true)
Ranges b (Some (Join twa toa officer distance)) = Unit {0}
Ranges b (Some (BookOut g paper)) = (g.0 < length b.gates) × (1 ≤ paper.0)
Ranges b (Some (BookIn g paper certified new)) =
    (g.0 < length b.gates) × (1 ≤ paper.0) × (certified ≡ false → 1 ≤ new.0)

pub record Accepted (b : Board) (s : Seven) (c : Option Call) : Type 0 where
  pub ranges : Ranges b c
  -- for a GRANT, `ok 12` says that no train touches the limits
  pub ok : (n : ℕ) → condition_at n (own b s c) ≡ false

-- the ranges of an entry's fields give those of the call that it names
abbrev EntryRanges : Board → Seven → Entry → Type 0
EntryRanges b s e = in_form b.portions (length b.gates) e.form s ≡ true → Ranges b (e.named s)

-- of BOOK IN with certified 0, the new paper has a number
new-paper : (paper certified new : ℕ) → is_new_paper paper certified new ≡ true → eqb certified 1 ≡ false → 1 ≤ new
new-paper paper certified new h e =
    let k : (between 1 9999 new && not (eqb new paper)) ≡ true = rw e at h in search (told, leb-true, k)

entry_ranges : (b : Board) (s : Seven) (n : ℕ) → is_call n ≡ true → EntryRanges b s (entry_of n)
unfolding entry_of is_call calls in_form in_range
entry_ranges b s zero c = absurd (false≢true c)
entry_ranges b s (suc n) c =
    each_at (EntryRanges b s) no_entry calls
    (λ h. (search (told, leb-true, h), search (told, ltb-true, h)), (λ h. tt, (λ h. tt, (λ h. search (told, ltb-true, h), (λ h. search (told, ltb-true, h), (λ h. tt, (λ h. tt, (λ h. tt, (λ h. tt, (λ h. tt, (λ h. tt, (λ h. search (told, ltb-true, h), (λ h. tt, (λ h. (search (told, h), search (told, h)), (λ h. tt, (λ h. (search (told, ltb-true, h), search (told, leb-true, h)), (λ h. (search (told, ltb-true, h), search (told, leb-true, h), new-paper s.b s.c s.d (search (told, h))), tt)))))))))))))))))
    n (let l : suc n ≤ 17 = search (told, leb-true, c) in omega arith)

-- a call with a number that a call has and fields in their ranges
pub in_ranges_lem : (b : Board) (s : Seven) → is_call s.call ≡ true → in_ranges b.portions (length b.gates) s ≡ true
    → Ranges b (named s)
unfolding named in_ranges
in_ranges_lem b s c h = entry_ranges b s s.call c (search (told, h))

pub accepted : (b : Board) (s : Seven) (room : ℕ) → answer b s room ≡ 0 → Accepted b s (named s)
unfolding conditions
accepted b s room e =
    let none : NoneHolds (conditions b s room) = accepted_none b s room e in
    let P = b.portions in
    let G = length b.gates in
    let numbered : not (is_call s.call) ≡ false = none (2 when not (is_call s.call)) (Memᴰ.tail (Memᴰ.head refl)) in
    let formed : not (in_ranges P G s) ≡ false =
    none (3 when not (in_ranges P G s)) (Memᴰ.tail (Memᴰ.tail (Memᴰ.head refl))) in
    record {
      ranges = in_ranges_lem b s (not-false (is_call s.call) numbered) (not-false (in_ranges P G s) formed);
      ok = λ n. at_none n (own b s (named s)) (λ r m. none r (Memᴰ.tail (Memᴰ.tail (Memᴰ.tail (Memᴰ.tail m)))));
    }
