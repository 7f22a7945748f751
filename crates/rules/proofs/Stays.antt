-- What stays of an authority until it ends: it is in force if it was, with the term that it had (02, order 1: "An LPA
-- past its end stays in force") and with the agreement that it has recorded (order 7). Assumes nothing.
use Rattle.std.specs.Prelude.{Option, Some, None}
use Prim.Native.Nat.{ℕ}
use mathlib.Core.Path.{◌≡◌, refl, sym, ap, subst, ◌∙◌}
use mathlib.Core.Bool.{Bool, true, false, cond, not, ◌&&◌, ◌||◌}
use mathlib.Core.List.Memᴰ
use mathlib.Core.List.{List, [], ◌∷◌}
use lib.Dec.{eqb}
use borrow.Author.Tests.{eqb-true}
use Rattle.lists.specs.Search.{any, change}
use Rattle.std.proofs.lemmas.Bool.{not-false}
use Rattle.lists.proofs.Tests.{clash, or_no_l, or_no_r, told}
use Rattle.lists.proofs.Search.{Member, keeps, changed, changes_to}
use Rattle.lists.proofs.Distinct.{one_of_number}
use Rattle.rules.specs.declared.AuthorityNo.{AuthorityNo}
use Rattle.rules.specs.declared.Authority.{Authority}
use Rattle.rules.specs.declared.Seven.{Seven}
use Rattle.rules.specs.declared.Call.{Call}
use Rattle.rules.specs.declared.Call.TheVariants.{Request, Withdraw, Agree, Block, Unblock, Grant, Clear, Reoccupy}
use Rattle.rules.specs.declared.Call.TheVariants.{HandOver, Fulfil, Continue, Move, Passed, Term, Join, BookOut, BookIn}
use Rattle.rules.specs.Board.{Board, is_in_force, has_term, authority_no, is_authority, is_not_authority, live}
use Rattle.rules.specs.Board.{authority, with_stamp, ended}
use Rattle.rules.specs.Call.{minute_of, named}
use Rattle.rules.specs.Refusals.{not_live, not_to_agree, not_to_join, own, answer}
use Rattle.rules.specs.Effects.{granted, with_site, with_officer, with_agreed, with_term, effect}
use Rattle.rules.specs.Step.{Made, Answered, after, trace, final, Once}
use Rattle.rules.proofs.Answers.{condition_at}
use Rattle.rules.proofs.Accepted.{Accepted, accepted}
use Rattle.rules.proofs.Follows.{authority_there}
use Rattle.rules.proofs.Once.{once_after, held_once}

-- the call ends authority n: "It is live until withdrawn, fulfilled or continued as old"
unfoldable pub ends : AuthorityNo → Option Call → Bool
ends n None = false
ends n (Some (Request kind low high officer)) = false
ends n (Some (Withdraw m officer)) = eqb n.0 m.0
ends n (Some (Agree toa twa officer)) = false
ends n (Some (Block g)) = false
ends n (Some (Unblock g)) = false
ends n (Some (Grant m officer)) = false
ends n (Some (Clear m officer)) = false
ends n (Some (Reoccupy m officer)) = false
ends n (Some (HandOver m out into)) = false
ends n (Some (Fulfil m officer assurances)) = eqb n.0 m.0
ends n (Some (Continue old new officer_old officer_new)) = eqb n.0 old.0
ends n (Some (Move t g m officer)) = false
ends n (Some (Passed t)) = false
ends n (Some (Term m day time minutes)) = false
ends n (Some (Join twa toa officer distance)) = false
ends n (Some (BookOut g paper)) = false
ends n (Some (BookIn g paper certified new)) = false

-- the call was accepted and ended authority n
unfoldable pub ended_by : AuthorityNo → Answered → Bool
ended_by n c = eqb c.answer 0 && ends n (named c.seven)

-- the call records an agreement with authority n: AGREE where it is the TWA, JOIN where it is the TOA
unfoldable pub agrees : AuthorityNo → Option Call → Bool
agrees n None = false
agrees n (Some (Request kind low high officer)) = false
agrees n (Some (Withdraw m officer)) = false
agrees n (Some (Agree toa twa officer)) = eqb n.0 twa.0
agrees n (Some (Block g)) = false
agrees n (Some (Unblock g)) = false
agrees n (Some (Grant m officer)) = false
agrees n (Some (Clear m officer)) = false
agrees n (Some (Reoccupy m officer)) = false
agrees n (Some (HandOver m out into)) = false
agrees n (Some (Fulfil m officer assurances)) = false
agrees n (Some (Continue old new officer_old officer_new)) = false
agrees n (Some (Move t g m officer)) = false
agrees n (Some (Passed t)) = false
agrees n (Some (Term m day time minutes)) = false
agrees n (Some (Join twa toa officer distance)) = eqb n.0 toa.0
agrees n (Some (BookOut g paper)) = false
agrees n (Some (BookIn g paper certified new)) = false

-- the call was accepted and recorded an agreement with authority n
unfoldable pub agreed_by : AuthorityNo → Answered → Bool
agreed_by n c = eqb c.answer 0 && agrees n (named c.seven)

-- authority x, now a: in force if it was, with the term that it had, and with the agreement that it had recorded: in
-- force always, and pending unless one was recorded anew
pub record Stays (anew : Bool) (x a : Authority) : Type 0 where
  pub number : a.number ≡ x.number
  pub force : is_in_force x ≡ true → is_in_force a ≡ true
  pub term : has_term x ≡ true → (a.start ≡ x.start) × (a.minutes ≡ x.minutes)
  pub rests : is_in_force x ≡ true → a.agreed ≡ x.agreed
  pub agreement : anew ≡ false → a.agreed ≡ x.agreed

abbrev pub StaysIn : Bool → Authority → List Authority → Type 0
StaysIn anew x xs = (a : Authority) × Member a xs × Stays anew x a

-- a is x but for other fields
alike : {anew : Bool} (x a : Authority) → a.number ≡ x.number → is_in_force a ≡ is_in_force x
    → a.start ≡ x.start → a.minutes ≡ x.minutes
    → a.agreed ≡ x.agreed → Stays anew x a
alike x a n f s l g = record { number = n; force = λ e. f ∙ e; term = λ e. (s, l); rests = λ e. g; agreement = λ e. g }

as_it_was : {anew : Bool} (x : Authority) → Stays anew x x
as_it_was x = alike x x refl refl refl refl refl

stays_then : (u v : Bool) (x a c : Authority) → Stays u x a → Stays v a c → Stays (u || v) x c
stays_then u v x a c s t = record {
  number = t.number ∙ s.number;
  force = λ e. t.force (s.force e);
  term = λ e. let k = s.term e in let l = t.term (ap (λ (n : ℕ). not (eqb n 0)) k.1 ∙ e) in (l.0 ∙ k.0, l.1 ∙ k.1);
  rests = λ e. t.rests (s.force e) ∙ s.rests e;
  agreement = λ e. t.agreement (or_no_r u v e) ∙ s.agreement (or_no_l u v e);
}

-- ---- one accepted call

-- one authority changed
changed_stays : {anew : Bool} (n : AuthorityNo) (f : Authority → Authority) (xs : List Authority) (x : Authority)
    → Member x xs
    → (is_authority n x ≡ true → Stays anew x (f x)) → StaysIn anew x (change (is_authority n) f xs)
changed_stays {anew} n f xs x m h =
    (changed (is_authority n) f x, changes_to (is_authority n) f xs x m, pick (is_authority n x) h)
  where
    pick : (t : Bool) → (t ≡ true → Stays anew x (f x)) → Stays anew x (cond t (f x) x)
    pick true k = k refl
    pick false k = as_it_was x

-- another ended
ended_stays : (n : AuthorityNo) (xs : List Authority) (x : Authority) → Member x xs → is_authority n x ≡ false
    → Member x (ended n xs)
ended_stays n xs x m e = keeps (is_not_authority n) xs x (ap not e) m

-- GRANT, and CONTINUE as new
granted_stays : {anew : Bool} (x : Authority) → Stays anew x (granted x)
granted_stays x =
    record { number = refl; force = λ e. refl; term = λ e. (refl, refl); rests = λ e. refl; agreement = λ e. refl }

-- the authority that a call names is the one with its number
pub the_named : (b : Board) → Once b → (n : AuthorityNo) (x : Authority) → live b n ≡ true → Member x b.authorities
    → is_authority n x ≡ true → authority b n ≡ x
the_named b o n x l m i =
    let there = authority_there b n l in
    one_of_number authority_no b.authorities (held_once b o).0 (authority b n) x there.0 m
    (there.1 ∙ sym (eqb-true (authority_no x) n.0 i))

module _ (b : Board) (o : Once b) (s : Seven) where
  -- AGREE and JOIN, of an authority that is pending: the agreement is recorded anew
  agreed_stays : {anew : Bool} (n : AuthorityNo) (x : Authority) (by : AuthorityNo) → live b n ≡ true
      → is_in_force (authority b n) ≡ false → Member x b.authorities
      → is_authority n x ≡ true → anew ≡ true → Stays anew x (with_agreed by x)
  agreed_stays n x by l waits m i is = record {
    number = refl;
    force = λ f. f;
    term = λ e. (refl, refl);
    rests = λ f. clash f (ap is_in_force (sym (the_named b o n x l m i)) ∙ waits);
    agreement = λ e. clash is e;
  }

  effect_stays : (c : Option Call) → Accepted b s c → (x : Authority) → Member x b.authorities
      → ends x.number c ≡ false
      → StaysIn (agrees x.number c) x (effect b c).authorities
  unfolding effect ends agrees own condition_at not_live not_to_agree not_to_join
  effect_stays None k x m e = (x, m, as_it_was x)
  effect_stays (Some (Request kind low high officer)) k x m e = (x, Memᴰ.append_left _ m, as_it_was x)
  effect_stays (Some (Withdraw n officer)) k x m e = (x, ended_stays n b.authorities x m e, as_it_was x)
  effect_stays (Some (Agree toa twa officer)) k x m e =
      let l : live b twa ≡ true = search (told, k.ok 5) in
      changed_stays twa (with_agreed toa) b.authorities x m
      (λ i. agreed_stays twa x toa l (search (told, k.ok 6)) m i i)
  effect_stays (Some (Block g)) k x m e = (x, m, as_it_was x)
  effect_stays (Some (Unblock g)) k x m e = (x, m, as_it_was x)
  effect_stays (Some (Grant n officer)) k x m e = changed_stays n granted b.authorities x m (λ i. granted_stays x)
  effect_stays (Some (Clear n officer)) k x m e =
      changed_stays n (with_site false) b.authorities x m (λ i. alike x (with_site false x) refl refl refl refl refl)
  effect_stays (Some (Reoccupy n officer)) k x m e =
      changed_stays n (with_site true) b.authorities x m (λ i. alike x (with_site true x) refl refl refl refl refl)
  effect_stays (Some (HandOver n out into)) k x m e =
      changed_stays n (with_officer into) b.authorities x m
      (λ i. alike x (with_officer into x) refl refl refl refl refl)
  effect_stays (Some (Fulfil n officer assurances)) k x m e = (x, ended_stays n b.authorities x m e, as_it_was x)
  effect_stays (Some (Continue old new officer_old officer_new)) k x m e =
      changed_stays new granted (ended old b.authorities) x (ended_stays old b.authorities x m e)
      (λ i. granted_stays x)
  effect_stays (Some (Move t g n officer)) k x m e = (x, m, as_it_was x)
  effect_stays (Some (Passed t)) k x m e = (x, m, as_it_was x)
  effect_stays (Some (BookOut g paper)) k x m e = (x, m, as_it_was x)
  effect_stays (Some (BookIn g paper certified new)) k x m e = (x, m, as_it_was x)
  effect_stays (Some (Join twa toa officer distance)) k x m e =
      let l : live b toa ≡ true = search (told, k.ok 5) in
      changed_stays toa (with_agreed twa) b.authorities x m
      (λ i. agreed_stays toa x twa l (search (told, k.ok 6)) m i i)
  -- 8: the authority that TERM names has no term
  effect_stays (Some (Term n day time minutes)) k x m e =
      changed_stays n (with_term (minute_of day time) minutes) b.authorities x m
      (λ i. record {
        number = refl;
        force = λ f. f;
        term =
            λ h. clash h (subst (λ (y : Authority). has_term y ≡ false)
            (the_named b o n x (not-false (live b n) (k.ok 5)) m i) (k.ok 8));
        rests = λ f. refl;
        agreement = λ f. refl;
      })

-- ---- a list of calls

list_step : (b : Board) (o : Once b) (c : Made) (ms : List Made) (x : Authority) → Member x b.authorities
    → ((b' : Board) → Once b' → (y : Authority) → Member y b'.authorities
    → any (ended_by y.number) (trace b' ms) ≡ false
    → StaysIn (any (agreed_by y.number) (trace b' ms)) y (final b' ms).authorities)
    → (z : Bool) → eqb (answer b c.seven c.room) 0 ≡ z
    → let b' = cond z (with_stamp c.seven.day c.seven.time (effect b (named c.seven))) b in
    Once b' → (z && ends x.number (named c.seven)) ≡ false
    → any (ended_by x.number) (trace b' ms) ≡ false
    → StaysIn ((z && agrees x.number (named c.seven)) || any (agreed_by x.number) (trace b' ms)) x
    (final b' ms).authorities
list_step b o c ms x m ih true e o' here later =
    let (y, my, s) =
    effect_stays b o c.seven (named c.seven)
    (accepted b c.seven c.room (eqb-true (answer b c.seven c.room) 0 e)) x m here in
    let b' : Board = with_stamp c.seven.day c.seven.time (effect b (named c.seven)) in
    let (a, ma, t) =
    ih b' o' y my (subst (λ (n : AuthorityNo). any (ended_by n) (trace b' ms) ≡ false) (sym s.number) later) in
    let u : Stays (any (agreed_by x.number) (trace b' ms)) y a =
    subst (λ (n : AuthorityNo). Stays (any (agreed_by n) (trace b' ms)) y a) s.number t in (
      a,
      ma,
      stays_then (agrees x.number (named c.seven))
          (any (agreed_by x.number) (trace b' ms)) x y a s u,
    )
list_step b o c ms x m ih false e o' here later = ih b o x m later

-- THEOREM: after any list of calls none of which ended it, an authority that was live is live, in force if it was, with
-- the term it had and, in force or unless a call of the list recorded another with it, with the agreement it had
-- recorded. An LPA in force past its end is one; so is one whose term is still to come; so is a TWA whose TOA has
-- ended, and a TOA whose joined TWA has.
pub authority_stays : (ms : List Made) (b : Board) → Once b → (x : Authority) → Member x b.authorities
    → any (ended_by x.number) (trace b ms) ≡ false
    → StaysIn (any (agreed_by x.number) (trace b ms)) x (final b ms).authorities
unfolding trace final after ended_by agreed_by
authority_stays [] b o x m h = (x, m, as_it_was x)
authority_stays (c ∷ ms) b o x m h =
    let later = any (ended_by x.number) (trace (after b c.seven c.room) ms) in
    let here = eqb (answer b c.seven c.room) 0 && ends x.number (named c.seven) in
    list_step b o c ms x m (authority_stays ms) (eqb (answer b c.seven c.room) 0) refl (once_after b c.seven c.room o)
    (or_no_l here later h) (or_no_r here later h)
