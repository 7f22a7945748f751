-- What the wall display reads from the three sets (02, order 8), by the calls and their answers alone: after every list
-- of calls, on a board opened from any plan text, a portion is in the set of a sort exactly where an authority in force
-- of that sort holds it, and a gate in the set of needed gates exactly where an authority in force needs it; and each
-- needed gate is blocked. Assumes nothing.
use Prim.Native.Nat.{ℕ, ◌≤◌}
use mathlib.Core.Path.{◌≡◌, refl, sym, ap, subst, ◌∙◌}
use mathlib.Core.Logic.{⊎_elim}
use mathlib.Core.Bool.{Bool, true, false, cond}
use mathlib.Core.List.{List, [], ◌∷◌}
use lib.Dec.{eqb}
use lib.ListN.{length, get_or-eq_default}
use Rattle.lists.specs.Search.{first}
use Rattle.lists.proofs.Tests.{told, clash, truth, lt_or_le}
use Rattle.lists.proofs.Search.{Member, any_yes, first_found}
use Rattle.sets.specs.Sets.{has, subset}
use Rattle.sets.proofs.Laws.{each_subset}
use Rattle.rules.specs.declared.GateNo.{GateNo}
use Rattle.rules.specs.declared.kind.Kind.{Kind}
use Rattle.rules.specs.declared.Gate.{Gate}
use Rattle.rules.specs.declared.Seven.{Seven}
use Rattle.rules.specs.declared.Authority.{Authority}
use Rattle.rules.specs.Board.{Board, no_gate, no_authority, gate_at, exclusive, is_twa, authority_no, needs, with_stamp}
use Rattle.rules.specs.Call.{gate_of, named}
use Rattle.rules.specs.Plan.{open_board}
use Rattle.rules.specs.Refusals.{any_e, any_w, is_e, is_w, in_force_needs, still_needed, answer}
use Rattle.rules.specs.Effects.{effect}
use Rattle.rules.specs.Stored.{exclusive_portions, twa_portions, needed_gates, SortsApart, holds_as}
use Rattle.rules.specs.Step.{Made, after, trace, final}
use Rattle.rules.specs.Reckoning.{Reckoned, Reckoning, at_start, reckoned}
use Rattle.rules.specs.Claim.{In, Forced}
use Rattle.rules.proofs.Follows.{Held, Follows}
use Rattle.rules.proofs.Safety.{gates_stay, list_follows}
use Rattle.rules.proofs.Bookings.{NeededBy, limits_protected}
use Rattle.rules.proofs.HeldSets.{any_as, exclusive_place, twa_place, needed_place}
use Rattle.rules.proofs.SortsKept.{sorts_list}

-- a portion that an authority in force of a sort holds, by what is reckoned
abbrev pub HeldBy : (Kind → Bool) → (ℕ → Reckoned) → ℕ → ℕ → Type 0
HeldBy sort A n p = Forced A n × (sort (A n).kind ≡ true) × In (A n) p

-- three sets, of portions that LPAs and TOAs in force hold, of those that TWAs do, and of gates that an authority in
-- force needs, are those of what is reckoned: of each portion and each gate, whatever its number; and the needed gates
-- are blocked
pub record Shown (gates : List Gate) (A : ℕ → Reckoned) (exclusives twas needed blocks : ℕ) : Type 0 where
  pub exclusive_by : (p : ℕ) → has p exclusives ≡ true → (n : ℕ) × HeldBy exclusive A n p
  pub by_exclusive : (p n : ℕ) → HeldBy exclusive A n p → has p exclusives ≡ true
  pub twa_by : (p : ℕ) → has p twas ≡ true → (n : ℕ) × HeldBy is_twa A n p
  pub by_twa : (p n : ℕ) → HeldBy is_twa A n p → has p twas ≡ true
  pub needed_by : (g : GateNo) → has g.0 needed ≡ true → (n : ℕ) × NeededBy gates A n g
  pub by_needed : (g : GateNo) (n : ℕ) → NeededBy gates A n g → has g.0 needed ≡ true
  pub protected : subset needed blocks ≡ true

-- ---- a board that follows a reckoning

module _ (b : Board) (r : Reckoning) (F : Follows b r) where
  -- the authority that is held for one that is reckoned in force
  held_for : (n : ℕ) → Forced r.authority n
      → (o : Authority) × Member o b.authorities × Held r.requests (r.authority n) o
  held_for n force =
      let (o, m, e) = F.there n force in
      (o, m, subst (λ (i : ℕ). Held r.requests (r.authority i) o) e (F.held o m))

  -- a portion of the sort, and back
  module _ (sort : Kind → Bool) (p : ℕ) where
    sort_by : any_as sort b p ≡ true → (n : ℕ) × HeldBy sort r.authority n p
    sort_by h =
        let f = first_found (holds_as sort p) no_authority b.authorities h in
        let t = f.passes in
        let o = first (holds_as sort p) no_authority b.authorities in
        let k = F.held o f.member in
        (authority_no o, (k.force ∙ search (told, t), ap sort k.kind ∙ search (told, t), k.into p (search (told, t))))

    by_sort : (n : ℕ) → HeldBy sort r.authority n p → any_as sort b p ≡ true
    by_sort n (force, kind, i) =
        let (o, m, k) = held_for n force in
        any_yes (holds_as sort p) b.authorities o m
        (rw (sym k.force ∙ force, ap sort (sym k.kind) ∙ kind, k.from p i))

  -- a gate that is needed, and back; past the plan none is, since what stands for none has from and to the same
  module _ (g : GateNo) where
    abbrev gate : Gate
    gate = gate_at b.gates g

    gate_by : still_needed b g ≡ true → (n : ℕ) × NeededBy b.gates r.authority n g
    unfolding still_needed in_force_needs needs
    gate_by h =
        let f = first_found (in_force_needs gate) no_authority b.authorities h in
        let t = f.passes in
        let o = first (in_force_needs gate) no_authority b.authorities in
        let k = F.held o f.member in
        let into : has gate.to o.limits ≡ true = search (told, t) in
        let from : has gate.from o.limits ≡ false = search (told, t) in
        let past : length b.gates ≤ g.0 → gate ≡ no_gate = get_or-eq_default b.gates no_gate in (
          authority_no o,
          record {
            force = k.force ∙ search (told, t);
            gate =
                ⊎_elim (λ l. l)
                (λ l. clash into (ap (λ (x : Gate). has x.to o.limits) (past l)
                ∙ ap (λ (x : Gate). has x.from o.limits) (sym (past l)) ∙ from))
                (lt_or_le g.0 (length b.gates));
            into = k.into gate.to into;
            from = λ i. clash (k.from gate.from i) from;
          },
        )

    by_gate : (n : ℕ) → NeededBy b.gates r.authority n g → still_needed b g ≡ true
    unfolding still_needed in_force_needs needs
    by_gate n h =
        let (o, m, k) = held_for n h.force in
        let from : has gate.from o.limits ≡ false =
        ⊎_elim (λ e. absurd (h.from (k.into gate.from e))) (λ e. e) (truth (has gate.from o.limits)) in
        any_yes (in_force_needs gate) b.authorities o m
        (rw (sym k.force ∙ h.force, k.from gate.to h.into, from))

-- ---- the plan stays

gates_step : (b : Board) (s : Seven) (z : Bool)
    → (cond z (with_stamp s.day s.time (effect b (named s))) b).gates ≡ b.gates
gates_step b s true = gates_stay b (named s)
gates_step b s false = refl

pub gates_final : (b : Board) (ms : List Made) → (final b ms).gates ≡ b.gates
unfolding final after
gates_final b [] = refl
gates_final b (m ∷ ms) =
    gates_final (after b m.seven m.room) ms ∙ gates_step b m.seven (eqb (answer b m.seven m.room) 0)

-- ---- after every list of calls

module _ (text : List ℕ) (ms : List Made) where
  abbrev b : Board
  b = final (open_board text) ms

  abbrev gates : List Gate
  gates = (open_board text).gates

  abbrev r : Reckoning
  r = reckoned gates at_start (trace (open_board text) ms)

  -- THEOREM, order 8: the three sets, read off the calls and the answers alone
  pub list_shown : Shown gates r.authority (exclusive_portions b) (twa_portions b) (needed_gates b) b.blocks
  unfolding exclusive_portions twa_portions any_e any_w is_e is_w
  list_shown =
      let F : Follows b r = list_follows text ms in
      let S : SortsApart b = sorts_list text ms in
      let plan : b.gates ≡ gates = gates_final (open_board text) ms in
      let place : (g : GateNo) → has g.0 (needed_gates b) ≡ still_needed b g = λ g. needed_place b F.gates g.0 in
      let needed : (g : GateNo) → has g.0 (needed_gates b) ≡ true → (n : ℕ) × NeededBy gates r.authority n g =
      λ g h. subst (λ (gs : List Gate). (n : ℕ) × NeededBy gs r.authority n g) plan
      (gate_by b r F g (sym (place g) ∙ h))
      in
      record {
        exclusive_by = λ p h. sort_by b r F exclusive p (sym (exclusive_place b S p) ∙ h);
        by_exclusive = λ p n h. exclusive_place b S p ∙ by_sort b r F exclusive p n h;
        twa_by = λ p h. sort_by b r F is_twa p (sym (twa_place b S p) ∙ h);
        by_twa = λ p n h. twa_place b S p ∙ by_sort b r F is_twa p n h;
        needed_by = needed;
        by_needed =
            λ g n h. place g
            ∙ by_gate b r F g n (subst (λ (gs : List Gate). NeededBy gs r.authority n g) (sym plan) h);
        protected =
            each_subset (needed_gates b) b.blocks
            (λ p l h. let (n, k) = needed (gate_of p) h in (limits_protected text ms n (gate_of p) k).0);
      }
