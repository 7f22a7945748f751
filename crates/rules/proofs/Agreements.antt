-- Recorded agreements (02, order 7): "HAND OVER, CLEAR, REOCCUPY and the other authority's ending keep the recorded
-- number.", and after every list of calls it is the one reckoned from the calls and answers alone. Assumes nothing.
use Rattle.std.specs.Prelude.{Some}
use Prim.Native.Nat.{ℕ}
use mathlib.Core.Path.{◌≡◌, refl, sym, ap, ◌∙◌}
use mathlib.Core.Bool.{Bool, true, false, ◌&&◌, and-false}
use mathlib.Core.List.{List, [], ◌∷◌}
use lib.Dec.{eqb}
use borrow.Author.Tests.{eq-eqb, ne_eqb}
use Rattle.std.proofs.lemmas.Bool.{or_from}
use Rattle.lists.proofs.Search.{Member, any_yes}
use Rattle.rules.specs.declared.AuthorityNo.{AuthorityNo}
use Rattle.rules.specs.declared.Authority.{Authority}
use Rattle.rules.specs.declared.Seven.{Seven}
use Rattle.rules.specs.declared.Call.TheVariants.{Withdraw, Clear, Reoccupy, HandOver, Fulfil, Continue}
use Rattle.rules.specs.Board.{Board, authority_no, is_authority, live, authority}
use Rattle.rules.specs.Call.{authority_of, named}
use Rattle.rules.specs.Plan.{open_board}
use Rattle.rules.specs.Refusals.{answer}
use Rattle.rules.specs.Step.{Made, after, trace, final, Once}
use Rattle.rules.specs.Reckoning.{Reckoned, at_start, agreement, reckoned}
use Rattle.rules.proofs.Follows.{giver, authority_there}
use Rattle.rules.proofs.Once.{once_after}
use Rattle.rules.proofs.Recording.{lpa_kind, lpa_agreement}
use Rattle.rules.proofs.Safety.{list_follows}
use Rattle.rules.proofs.Equality.{NoneOfLpas}
use Rattle.rules.proofs.Stays.{ends, ended_by, agrees, agreed_by, the_named, authority_stays}

-- ---- call by call, accepted or refused

-- whose agreement authority n rests on, by the register
abbrev pub recorded : Board → AuthorityNo → AuthorityNo
recorded b n = (authority b n).agreed

module _ (b : Board) (o : Once b) (s : Seven) (room : ℕ) (n : AuthorityNo) (l : live b n ≡ true) where
  -- after the call authority n is live, with the number that it had recorded
  abbrev pub KeepsNumber : Type 0
  KeepsNumber = (live (after b s room) n ≡ true) × (recorded (after b s room) n ≡ recorded b n)

  -- THEOREM: each call keeps it that neither ends n nor records an agreement with it
  pub call_keeps : ends n (named s) ≡ false → agrees n (named s) ≡ false → KeepsNumber
  unfolding trace final ended_by agreed_by live
  call_keeps e g =
      let made : Made = record { seven = s; room = room } in
      let there = authority_there b n l in
      let number : (authority b n).number ≡ n = ap authority_of there.1 in
      let done = eqb (answer b s room) 0 in
      let not-ended : (done && ends (authority b n).number (named s)) ≡ false =
      ap (λ (m : AuthorityNo). done && ends m (named s)) number ∙ ap (λ (t : Bool). done && t) e ∙ and-false done in
      let not-agreed : (done && agrees (authority b n).number (named s)) ≡ false =
      ap (λ (m : AuthorityNo). done && agrees m (named s)) number ∙ ap (λ (t : Bool). done && t) g ∙ and-false done in
      let (a, m, k) = authority_stays (made ∷ []) b o (authority b n) there.0 (or_from _ false not-ended refl) in
      let is : is_authority n a ≡ true =
      eq-eqb (authority_no a) n.0 (ap (λ (m : AuthorityNo). m.0) (k.number ∙ number)) in
      let held : live (after b s room) n ≡ true = any_yes (is_authority n) (after b s room).authorities a m is in
      let same : authority (after b s room) n ≡ a =
      the_named (after b s room) (once_after b s room o) n a held m is in (
        held,
        ap (λ (x : Authority). x.agreed) same ∙ k.agreement (or_from _ false not-agreed refl),
      )

  -- "HAND OVER, CLEAR, REOCCUPY [..] keep the recorded number": of the one that they name, and of any other
  pub hand_over_keeps : (m : AuthorityNo) (out into : ℕ) → named s ≡ Some (HandOver m out into) → KeepsNumber
  unfolding ends agrees
  hand_over_keeps m out into e = call_keeps (ap (ends n) e) (ap (agrees n) e)

  pub clear_keeps : (m : AuthorityNo) (officer : ℕ) → named s ≡ Some (Clear m officer) → KeepsNumber
  unfolding ends agrees
  clear_keeps m officer e = call_keeps (ap (ends n) e) (ap (agrees n) e)

  pub reoccupy_keeps : (m : AuthorityNo) (officer : ℕ) → named s ≡ Some (Reoccupy m officer) → KeepsNumber
  unfolding ends agrees
  reoccupy_keeps m officer e = call_keeps (ap (ends n) e) (ap (agrees n) e)

  -- "and the other authority's ending": whichever other it is
  pub withdraw_keeps : (m : AuthorityNo) (officer : ℕ) → named s ≡ Some (Withdraw m officer) → (n.0 ≡ m.0 → ⊥)
      → KeepsNumber
  unfolding ends agrees
  withdraw_keeps m officer e other = call_keeps (ap (ends n) e ∙ ne_eqb n.0 m.0 other) (ap (agrees n) e)

  pub fulfil_keeps : (m : AuthorityNo) (officer assurances : ℕ) → named s ≡ Some (Fulfil m officer assurances)
      → (n.0 ≡ m.0 → ⊥) → KeepsNumber
  unfolding ends agrees
  fulfil_keeps m officer assurances e other = call_keeps (ap (ends n) e ∙ ne_eqb n.0 m.0 other) (ap (agrees n) e)

  -- of the new one too: after CONTINUE it has its own, and not old's
  pub continue_keeps : (old new : AuthorityNo) (officer_old officer_new : ℕ)
      → named s ≡ Some (Continue old new officer_old officer_new) → (n.0 ≡ old.0 → ⊥) → KeepsNumber
  unfolding ends agrees
  continue_keeps old new officer_old officer_new e other =
      call_keeps (ap (ends n) e ∙ ne_eqb n.0 old.0 other) (ap (agrees n) e)

-- ---- after every list of calls

-- the number that a has recorded is the one that is reckoned; where it isn't 0 it is a TOA's for a TWA, and a TWA's for
-- a TOA
pub record Recorded (A : ℕ → Reckoned) (a : Authority) : Type 0 where
  pub number : a.agreed.0 ≡ agreement (A (authority_no a))
  pub by : (a.agreed.0 ≡ 0 → ⊥) → (A a.agreed.0).kind ≡ giver a.kind

-- THEOREM: on a board opened from any plan text, after any list of calls, the number that each live authority has
-- recorded is the one that its last AGREE or JOIN names, 0 for none: read off the calls and answers alone
pub list_agreements : (text : List ℕ) (ms : List Made) (a : Authority)
    → Member a (final (open_board text) ms).authorities
    → Recorded (reckoned (open_board text).gates at_start (trace (open_board text) ms)).authority a
list_agreements text ms a m =
    let F = list_follows text ms in
    record { number = sym (F.held a m).agreement; by = λ z. (F.rests a m z).0 }

-- and an LPA has recorded none
pub list_lpas : (text : List ℕ) (ms : List Made) → NoneOfLpas (final (open_board text) ms).authorities
list_lpas text ms a m e =
    let h = (list_follows text ms).held a m in
    let x : Reckoned =
    (reckoned (open_board text).gates at_start (trace (open_board text) ms)).authority (authority_no a) in
    sym h.agreement ∙ lpa_agreement x (h.kind ∙ lpa_kind a.kind e)
