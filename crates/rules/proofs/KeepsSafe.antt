-- What keeps demand 3's claim about a reckoning: less in force, or one authority reckoned anew. Assumes nothing.
use Prim.Native.Nat.{ℕ, ◌<◌}
use native.Mathlib.Omega.{arith}
use mathlib.Core.Path.{◌≡◌, refl, sym, subst, ◌∙◌}
use mathlib.Core.Logic.{◌⊎◌, inl, ⊎_elim, ⊎_map, ⊎_swap}
use mathlib.Core.Bool.{Bool, true, false≢true}
use mathlib.Core.List.{List}
use lib.ListN.{length}
use Rattle.rules.specs.declared.kind.Kind.{Kind}
use Rattle.rules.specs.declared.kind.Kind.TheVariants.{Twa}
use Rattle.rules.specs.declared.Gate.{Gate}
use Rattle.rules.specs.Board.{gate_at, exclusive}
use Rattle.rules.specs.Call.{gate_of}
use Rattle.rules.specs.Reckoning.{Reckoned, Position, Reckoning, at_start, put}
use Rattle.rules.specs.Claim.{In, Forced, Agreed, Apart, Piloted, Untouched, Protected, Safe}
use Rattle.rules.proofs.Follows.{put_all, put_other, reckoned_as}

-- ---- less in force

-- x' claims no more than x
pub record Quieter (x' x : Reckoned) : Type 0 where
  pub force : x.is_in_force ≡ true
  pub kind : x'.kind ≡ x.kind
  pub first : x'.first ≡ x.first
  pub last : x'.last ≡ x.last
  pub since : x'.since ≡ x.since
  pub agreed : x'.agreed ≡ x.agreed
  pub joined : x'.joined ≡ x.joined
  pub site : x'.has_workers_on ≡ true → x.has_workers_on ≡ true

-- y' touches no more than y
pub record Smaller (y' y : Position) : Type 0 where
  pub on_board : y.on_board ≡ true
  pub head : y'.head ≡ y.head
  pub under : y'.under ≡ y.under
  pub rear : (y'.rear ≡ y.rear) ⊎ (y'.rear ≡ y.head)

pub quiet_same : (x : Reckoned) → x.is_in_force ≡ true → Quieter x x
quiet_same x h = record {
  force = h;
  kind = refl;
  first = refl;
  last = refl;
  since = refl;
  agreed = refl;
  joined = refl;
  site = λ w. w;
}

pub small_same : (y : Position) → y.on_board ≡ true → Smaller y y
small_same y h = record { on_board = h; head = refl; under = refl; rear = inl refl }

in_along : {x' x : Reckoned} {p' p : ℕ} → Quieter x' x → p' ≡ p → In x' p' → In x p
in_along q e i = omega arith

agreed_back : {x' x y' y : Reckoned} {n : ℕ} → Quieter x' x → Quieter y' y → Agreed x n y → Agreed x' n y'
agreed_back q q' a = (
  omega (arith, q.since, q'.since, a.0),
  ⊎_map (λ w. (q.kind ∙ w.0, q'.kind ∙ w.1, q'.agreed ∙ w.2)) (λ w. (q.kind ∙ w.0, q'.kind ∙ w.1, q'.joined ∙ w.2)) a.1,
)

module _ (A' A : ℕ → Reckoned) (q : (n : ℕ) → Forced A' n → Quieter (A' n) (A n)) where
  apart_less : Apart A → Apart A'
  apart_less s m n p ne fm fn im jn =
      ⊎_map (agreed_back (q m fm) (q n fn)) (agreed_back (q n fn) (q m fm))
      (s m n p ne (q m fm).force (q n fn).force (in_along (q m fm) refl im) (in_along (q n fn) refl jn))

  protected_less : (gates : List Gate) (B' B : ℕ → Bool) → ((g : ℕ) → B g ≡ true → B' g ≡ true) → Protected gates A B
      → Protected gates A' B'
  protected_less gates B' B h s n g fn l i o =
      h g (s n g (q n fn).force l (in_along (q n fn) refl i) (λ j. o (omega (arith, q n fn))))

  module _ (T' T : ℕ → Position) (w : (t : ℕ) → (T' t).on_board ≡ true → Smaller (T' t) (T t)) where
    piloted_less : Piloted A T → Piloted A' T'
    piloted_less s t n on fn x i =
        (w t on).under
        ∙ s t n (w t on).on_board (q n fn).force (subst (λ (k : Kind). exclusive k ≡ true) (q n fn).kind x)
        (in_along (q n fn) (w t on).head i)

    untouched_less : Untouched A T → Untouched A' T'
    untouched_less s t n on fn k v =
        let u = s t n (w t on).on_board (q n fn).force (sym (q n fn).kind ∙ k) ((q n fn).site v) in (
          (λ i. u.0 (in_along (q n fn) (w t on).head i)),
          (λ i. ⊎_elim (λ e. u.1 (in_along (q n fn) e i)) (λ e. u.0 (in_along (q n fn) e i)) (w t on).rear),
        )

-- a reckoning with no more in force, no train that touches more, and no block less
pub safe_less : (gates : List Gate) (r' r : Reckoning)
    → ((n : ℕ) → Forced r'.authority n → Quieter (r'.authority n) (r.authority n))
    → ((t : ℕ) → (r'.train t).on_board ≡ true → Smaller (r'.train t) (r.train t))
    → ((g : ℕ) → r.blocked g ≡ true → r'.blocked g ≡ true)
    → Safe gates r → Safe gates r'
safe_less gates r' r q w h S = record {
  apart = apart_less r'.authority r.authority q S.apart;
  piloted = piloted_less r'.authority r.authority q r'.train r.train w S.piloted;
  untouched = untouched_less r'.authority r.authority q r'.train r.train w S.untouched;
  protected = protected_less r'.authority r.authority q gates r'.blocked r.blocked h S.protected;
}

-- one authority is reckoned otherwise, with no more claim than it had
pub safe_quieter : (gates : List Gate) (r : Reckoning) → Safe gates r → (requests n : ℕ) (x : Reckoned)
    → (x.is_in_force ≡ true → Quieter x (r.authority n))
    → Safe gates (reckoned_as r requests r.grants n x)
safe_quieter gates r S requests n x h =
    safe_less gates (reckoned_as r requests r.grants n x) r
    (put_all (λ (m : ℕ) (y : Reckoned). y.is_in_force ≡ true → Quieter y (r.authority m)) n x r.authority h
    (λ m ne f. quiet_same (r.authority m) f))
    (λ t on. small_same (r.train t) on) (λ g k. k) S

-- ---- one authority reckoned anew, perhaps with more claim

-- what is asked of authority n, reckoned as x
pub record New (gates : List Gate) (r : Reckoning) (n : ℕ) (x : Reckoned) : Type 0 where
  pub apart : (m p : ℕ) → (m ≡ n → ⊥) → Forced r.authority m → In (r.authority m) p → In x p
      → Agreed (r.authority m) m x ⊎ Agreed x n (r.authority m)
  pub piloted : (t : ℕ) → (r.train t).on_board ≡ true → exclusive x.kind ≡ true → In x (r.train t).head
      → (r.train t).under ≡ n
  pub untouched : (t : ℕ) → (r.train t).on_board ≡ true → x.kind ≡ Twa → x.has_workers_on ≡ true
      → (In x (r.train t).head → ⊥) × (In x (r.train t).rear → ⊥)
  pub protected : (g : ℕ) → g < length gates → In x (gate_at gates (gate_of g)).to
      → (In x (gate_at gates (gate_of g)).from → ⊥)
      → r.blocked g ≡ true

module _ (gates : List Gate) (r : Reckoning) (n : ℕ) (x : Reckoned) (N : New gates r n x) (S : Safe gates r) where
  abbrev A : ℕ → Reckoned
  A = r.authority

  -- two in force at a portion p
  Both : ℕ → ℕ → ℕ → Reckoned → Reckoned → Type 0
  Both p m k u v =
      (m ≡ k → ⊥) → u.is_in_force ≡ true → v.is_in_force ≡ true → In u p → In v p → Agreed u m v ⊎ Agreed v k u

  both_new : (p k : ℕ) → Both p n k x (put n x A k)
  unfolding Both
  both_new p k ne =
      subst (λ (v : Reckoned). x.is_in_force ≡ true → v.is_in_force ≡ true → In x p → In v p
      → Agreed x n v ⊎ Agreed v k x)
      (sym (put_other n x A k (λ e. ne (sym e))))
      (λ fx fk ix ik. ⊎_swap (N.apart k p (λ e. ne (sym e)) fk ik ix))

  both_old : (p m : ℕ) → (m ≡ n → ⊥) → (k : ℕ) → Both p m k (A m) (put n x A k)
  unfolding Both
  both_old p m nm =
      put_all (λ (k : ℕ) (v : Reckoned). Both p m k (A m) v) n x A
      (λ ne fm fx im ix. N.apart m p nm fm im ix) (λ k nk ne fm fk im ik. S.apart m k p ne fm fk im ik)

  apart_put : Apart (put n x A)
  unfolding Both
  apart_put m k p =
      put_all (λ (m : ℕ) (u : Reckoned). (k : ℕ) → Both p m k u (put n x A k)) n x A (both_new p) (both_old p) m k

  pub safe_put : (grants : ℕ) → Safe gates (reckoned_as r r.requests grants n x)
  safe_put grants = record {
    apart = apart_put;
    piloted =
        λ t m on.
        put_all (λ (m : ℕ) (u : Reckoned). u.is_in_force ≡ true → exclusive u.kind ≡ true → In u (r.train t).head
        → (r.train t).under ≡ m) n x A
        (λ f e i. N.piloted t on e i) (λ m ne f e i. S.piloted t m on f e i) m;
    untouched =
        λ t m on.
        put_all
        (λ (m : ℕ) (u : Reckoned).
        u.is_in_force ≡ true → u.kind ≡ Twa → u.has_workers_on ≡ true
        → (In u (r.train t).head → ⊥) × (In u (r.train t).rear → ⊥))
        n x A (λ f k v. N.untouched t on k v) (λ m ne f k v. S.untouched t m on f k v) m;
    protected =
        λ m g.
        put_all
        (λ (m : ℕ) (u : Reckoned).
        u.is_in_force ≡ true → g < length gates → In u (gate_at gates (gate_of g)).to
        → (In u (gate_at gates (gate_of g)).from → ⊥)
        → r.blocked g ≡ true)
        n x A (λ f. N.protected g) (λ m ne f. S.protected m g f) m;
  }

-- ---- at the start

pub safe_start : (gates : List Gate) → Safe gates at_start
safe_start gates = record {
  apart = λ m n p ne f. absurd (false≢true f);
  piloted = λ t n on. absurd (false≢true on);
  untouched = λ t n on. absurd (false≢true on);
  protected = λ n g f. absurd (false≢true f);
}
