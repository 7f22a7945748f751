-- Terms (02, order 1): a term starts within the days. That it stays with its authority until that ends: Stays.antt.
-- Assumes nothing.
use Rattle.std.specs.Prelude.{Option, Some, None}
use Prim.Native.Nat.{ℕ, ◌*◌, ◌/◌, ◌%◌, ◌≤◌, ◌<◌}
use native.Mathlib.Omega.{arith}
use mathlib.Core.Path.{◌≡◌, refl, sym, subst}
use mathlib.Core.Bool.{Bool, true, false, cond}
use mathlib.Core.Logic.{⊎_elim}
use mathlib.Core.List.Memᴰ
use mathlib.Core.List.{List}
use lib.Dec.{eqb, ltb}
use borrow.Author.Tests.{eqb-true, leb-true, ltb-true}
use Rattle.lists.specs.Search.{change}
use Rattle.lists.proofs.Tests.{and_l, and_r}
use Rattle.lists.proofs.Search.{Member, kept, change_each}
use Rattle.rules.specs.declared.Gate.{Gate}
use Rattle.rules.specs.declared.Authority.{Authority}
use Rattle.rules.specs.declared.Seven.{Seven}
use Rattle.rules.specs.declared.Call.{Call}
use Rattle.rules.specs.declared.Call.TheVariants.{Request, Withdraw, Agree, Block, Unblock, Grant, Clear, Reoccupy}
use Rattle.rules.specs.declared.Call.TheVariants.{HandOver, Fulfil, Continue, Move, Passed, Term, Join, BookOut, BookIn}
use Rattle.rules.specs.Board.{Board, opened, is_authority, is_not_authority, with_stamp, ended}
use Rattle.rules.specs.Call.{is_day, is_time, minute_of, named}
use Rattle.rules.specs.Refusals.{answer}
use Rattle.rules.specs.Effects.{granted, with_site, with_officer, with_agreed, with_term, effect}
use Rattle.rules.specs.Step.{after, Starts}
use Rattle.rules.proofs.Accepted.{Accepted, accepted}

-- the minute of a day and a time of the clock
minute_lt : (day time : ℕ) → is_day day ≡ true → is_time time ≡ true → minute_of day time < 10000 * 1440
unfolding is_day is_time minute_of
minute_lt day time d t =
    let a : day ≤ 9999 = leb-true day 9999 d in
    let h : time / 100 < 24 = ltb-true (time / 100) 24 (and_l (ltb (time / 100) 24) (ltb (time % 100) 60) t) in
    let m : time % 100 < 60 = ltb-true (time % 100) 60 (and_r (ltb (time / 100) 24) (ltb (time % 100) 60) t) in
    omega arith

abbrev InDays : Authority → Type 0
InDays a = a.start < 10000 * 1440

-- an authority changed but for its start
days_changed : (test : Authority → Bool) (f : Authority → Authority) (xs : List Authority)
    → ((a : Authority) → (f a).start ≡ a.start)
    → ((a : Authority) → Member a xs → InDays a) → (a : Authority) → Member a (change test f xs) → InDays a
days_changed test f xs same each =
    change_each InDays test f xs (λ x m e. each x m)
    (λ x m e. subst (λ (n : ℕ). n < 10000 * 1440) (sym (same x)) (each x m))

starts_effect : (b : Board) (s : Seven) (c : Option Call) → Accepted b s c → Starts b → Starts (effect b c)
unfolding effect
starts_effect b s None k S = S
starts_effect b s (Some (Request kind low high officer)) k S =
    λ a m. ⊎_elim (S a) (λ e. subst InDays (sym (Memᴰ.eq_of_singleton e)) (omega arith))
    (Memᴰ.append_cases b.authorities m)
starts_effect b s (Some (Withdraw n officer)) k S = λ a m. S a (kept (is_not_authority n) b.authorities a m).member
starts_effect b s (Some (Agree toa twa officer)) k S =
    days_changed (is_authority twa) (with_agreed toa) b.authorities (λ a. refl) S
starts_effect b s (Some (Block g)) k S = S
starts_effect b s (Some (Unblock g)) k S = S
starts_effect b s (Some (Grant n officer)) k S = days_changed (is_authority n) granted b.authorities (λ a. refl) S
starts_effect b s (Some (Clear n officer)) k S =
    days_changed (is_authority n) (with_site false) b.authorities (λ a. refl) S
starts_effect b s (Some (Reoccupy n officer)) k S =
    days_changed (is_authority n) (with_site true) b.authorities (λ a. refl) S
starts_effect b s (Some (HandOver n out into)) k S =
    days_changed (is_authority n) (with_officer into) b.authorities (λ a. refl) S
starts_effect b s (Some (Fulfil n officer assurances)) k S =
    λ a m. S a (kept (is_not_authority n) b.authorities a m).member
starts_effect b s (Some (Continue old new officer_old officer_new)) k S =
    days_changed (is_authority new) granted (ended old b.authorities) (λ a. refl)
    (λ a m. S a (kept (is_not_authority old) b.authorities a m).member)
starts_effect b s (Some (Move t g n officer)) k S = S
starts_effect b s (Some (Passed t)) k S = S
starts_effect b s (Some (BookOut g paper)) k S = S
starts_effect b s (Some (BookIn g paper certified new)) k S = S
starts_effect b s (Some (Join twa toa officer distance)) k S =
    days_changed (is_authority toa) (with_agreed twa) b.authorities (λ a. refl) S
starts_effect b s (Some (Term n day time minutes)) k S =
    change_each InDays (is_authority n) (with_term (minute_of day time) minutes) b.authorities (λ x m e. S x m)
    (λ x m e. minute_lt day time k.ranges.0 k.ranges.1)

-- THEOREM: every call keeps it, accepted or refused; a freshly opened board has it
pub starts_after : (b : Board) (s : Seven) (room : ℕ) → Starts b → Starts (after b s room)
unfolding after
starts_after b s room S = go (eqb (answer b s room) 0) refl
  where
    go : (z : Bool) → eqb (answer b s room) 0 ≡ z → Starts (cond z (with_stamp s.day s.time (effect b (named s))) b)
    go true e = starts_effect b s (named s) (accepted b s room (eqb-true (answer b s room) 0 e)) S
    go false e = S

pub starts_opened : (portions : ℕ) (gates : List Gate) → Starts (opened portions gates)
unfolding opened
starts_opened portions gates = λ a m. elim m [ ]
