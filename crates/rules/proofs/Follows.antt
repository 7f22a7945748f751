-- How a board follows the reckoning of the calls that led to it, and what keeps it so. Assumes nothing.
use Prim.Native.Nat.{ℕ, ◌≤◌, ◌<◌}
use native.Mathlib.Omega.{arith}
use native.Mathlib.Decide.{ℕ_discrete}
use mathlib.Core.Path.{◌≡◌, refl, sym, ap, subst, subst₂, ◌∙◌}
use mathlib.Core.Bool.{true, not, false≢true}
use mathlib.Core.List.{List}
use lib.ListN.{length}
use borrow.Author.Tests.{eqb-true, eqb-false, eq-eqb, ne_eqb, not-true}
use Rattle.lists.specs.Search.{first}
use Rattle.lists.proofs.Search.{Member, first_found, kept, change_each}
use Rattle.lists.proofs.Distinct.{Taken, taken_change, taken_keep}
use Rattle.sets.specs.Sets.{has}
use Rattle.rules.specs.declared.AuthorityNo.{AuthorityNo}
use Rattle.rules.specs.declared.TrainNo.{TrainNo}
use Rattle.rules.specs.declared.Authority.{Authority}
use Rattle.rules.specs.declared.Train.{Train}
use Rattle.rules.specs.declared.Booking.{Booking}
use Rattle.rules.specs.declared.kind.Kind.{Kind}
use Rattle.rules.specs.declared.kind.Kind.TheVariants.{Lpa, Toa, Twa}
use Rattle.rules.specs.Board.{Board, no_authority, no_train, is_in_force, has_workers_on, authority_no, train_no}
use Rattle.rules.specs.Board.{is_authority, is_train, is_not_authority, is_not_train, live, authority, on_board, train}
use Rattle.rules.specs.Board.{with_authorities, with_trains, with_bookings, with_stamp, amended, ended, moved, gone}
use Rattle.rules.specs.Reckoning as Reckoning
use Rattle.rules.specs.Reckoning.{Reckoned, Position, agreement, put, as_ended}
use Rattle.rules.specs.Claim.{In, Forced}

-- ---- a map with one value put

pub put_same : {X : Type 0} (n : ℕ) (x : X) (f : ℕ → X) → put n x f n ≡ x
unfolding put
put_same n x f = rw (eq-eqb n n refl)

pub put_other : {X : Type 0} (n : ℕ) (x : X) (f : ℕ → X) (m : ℕ) → (m ≡ n → ⊥) → put n x f m ≡ f m
unfolding put
put_other n x f m h = rw (ne_eqb m n h)

-- what holds of x at n, and of f elsewhere, holds of f with x at n
pub put_all : {X : Type 0} (P : ℕ → X → Type 0) (n : ℕ) (x : X) (f : ℕ → X) → P n x
    → ((m : ℕ) → (m ≡ n → ⊥) → P m (f m)) → (m : ℕ) → P m (put n x f m)
put_all {X} P n x f h k m = pick (ℕ_discrete m n)
  where
    pick : Dec (m ≡ n) → P m (put n x f m)
    pick (yes e) = subst₂ P (sym e) (sym (ap (put n x f) e ∙ put_same n x f)) h
    pick (no e) = subst (P m) (sym (put_other n x f m e)) (k m e)

-- ---- the board follows the reckoning

-- an authority that is held is as it is reckoned. Its limits have the same portions; its site counts while it is in
-- force.
pub record Held (requests : ℕ) (x : Reckoned) (a : Authority) : Type 0 where
  pub positive : 1 ≤ authority_no a
  pub allotted : authority_no a ≤ requests
  pub kind : x.kind ≡ a.kind
  pub into : (p : ℕ) → has p a.limits ≡ true → In x p
  pub from : (p : ℕ) → In x p → has p a.limits ≡ true
  pub first : x.first ≤ x.last
  pub last : x.last < 64
  pub force : x.is_in_force ≡ is_in_force a
  pub site : is_in_force a ≡ true → x.has_workers_on ≡ has_workers_on a
  pub agreement : agreement x ≡ a.agreed.0

-- a train on the board is as it is reckoned; one that is with 0 may be reckoned under an authority that is no longer in
-- force
pub record Placed (y : Position) (t : Train) : Type 0 where
  pub on_board : y.on_board ≡ true
  pub head : y.head ≡ t.head
  pub rear : y.rear ≡ t.rear
  pub under : (t.with.0 ≡ 0 → ⊥) → y.under ≡ t.with.0

abbrev pub AllHeld : ℕ → (ℕ → Reckoned) → List Authority → Type 0
AllHeld requests A xs = (a : Authority) → Member a xs → Held requests (A (authority_no a)) a

-- the kind whose officer's agreement an authority may rest on: a TWA on a TOA's, by AGREE, a TOA on a TWA's, by JOIN
abbrev pub giver : Kind → Kind
giver Lpa = Lpa
giver Toa = Twa
giver Twa = Toa

-- the number n that an authority of that kind records is one of the giver's kind
abbrev pub Rests : ℕ → (ℕ → Reckoned) → Kind → ℕ → Type 0
Rests requests A kind n = (n ≡ 0 → ⊥) → ((A n).kind ≡ giver kind) × (n ≤ requests)

abbrev pub AllRest : ℕ → (ℕ → Reckoned) → List Authority → Type 0
AllRest requests A xs = (a : Authority) → Member a xs → Rests requests A a.kind a.agreed.0

-- each in force came into force no later than the last that did
abbrev pub Since : ℕ → (ℕ → Reckoned) → Type 0
Since grants A = (n : ℕ) → Forced A n → (A n).since ≤ grants

-- no agreement is reckoned with a number that isn't allotted yet
abbrev pub Unallotted : ℕ → (ℕ → Reckoned) → Type 0
Unallotted requests A = (n : ℕ) → requests < n → ((A n).agreed ≡ 0) × ((A n).joined ≡ 0)

abbrev pub AllPlaced : (ℕ → Position) → List Train → Type 0
AllPlaced T ts = (t : Train) → Member t ts → Placed (T (train_no t)) t

pub record Follows (b : Board) (r : Reckoning.Reckoning) : Type 0 where
  pub requests : b.last.0 ≡ r.requests
  pub portions : b.portions ≤ 64
  pub held : AllHeld r.requests r.authority b.authorities
  pub rests : AllRest r.requests r.authority b.authorities
  pub since : Since r.grants r.authority
  pub there : (n : ℕ) → Forced r.authority n → Taken authority_no b.authorities n
  pub placed : AllPlaced r.train b.trains
  pub runs : (n : ℕ) → (r.train n).on_board ≡ true → Taken train_no b.trains n
  pub blocks : (g : ℕ) → has g b.blocks ≡ true → r.blocked g ≡ true
  pub gates : length b.gates ≤ 64
  pub blocked : (g : ℕ) → r.blocked g ≡ true → (g < 64) × (has g b.blocks ≡ true)
  pub unallotted : Unallotted r.requests r.authority

-- ---- what a search finds

pub authority_there : (b : Board) (n : AuthorityNo) → live b n ≡ true
    → Member (authority b n) b.authorities × (authority_no (authority b n) ≡ n.0)
unfolding live authority
authority_there b n h =
    let f = first_found (is_authority n) no_authority b.authorities h in
    (f.member, eqb-true (authority_no (first (is_authority n) no_authority b.authorities)) n.0 f.passes)

pub train_there : (b : Board) (n : TrainNo) → on_board b n ≡ true
    → Member (train b n) b.trains × (train_no (train b n) ≡ n.0)
unfolding on_board train
train_there b n h =
    let f = first_found (is_train n) no_train b.trains h in
    (f.member, eqb-true (train_no (first (is_train n) no_train b.trains)) n.0 f.passes)

-- ---- one ended, one gone

pub ended_member : (n : AuthorityNo) (xs : List Authority) (a : Authority) → Member a (ended n xs)
    → Member a xs × (authority_no a ≡ n.0 → ⊥)
ended_member n xs a m =
    let k = kept (is_not_authority n) xs a m in
    (k.member, eqb-false (authority_no a) n.0 (not-true (is_authority n a) k.passes))

pub there_ended : (n : AuthorityNo) (xs : List Authority) (m : ℕ) → (m ≡ n.0 → ⊥) → Taken authority_no xs m
    → Taken authority_no (ended n xs) m
there_ended n xs m h =
    taken_keep authority_no (is_not_authority n) xs m (λ a e. ap not (ne_eqb (authority_no a) n.0 (λ q. h (sym e ∙ q))))

pub gone_member : (n : TrainNo) (xs : List Train) (t : Train) → Member t (gone n xs)
    → Member t xs × (train_no t ≡ n.0 → ⊥)
gone_member n xs t m =
    let k = kept (is_not_train n) xs t m in
    (k.member, eqb-false (train_no t) n.0 (not-true (is_train n t) k.passes))

pub runs_gone : (n : TrainNo) (xs : List Train) (m : ℕ) → (m ≡ n.0 → ⊥) → Taken train_no xs m
    → Taken train_no (gone n xs) m
runs_gone n xs m h =
    taken_keep train_no (is_not_train n) xs m (λ t e. ap not (ne_eqb (train_no t) n.0 (λ q. h (sym e ∙ q))))

-- ---- one authority changed and reckoned anew, its number kept

pub held_amended : (n : AuthorityNo) (g : Authority → Authority)
    → ((a : Authority) → authority_no (g a) ≡ authority_no a)
    → (requests : ℕ) (x : Reckoned) (A : ℕ → Reckoned) (xs : List Authority)
    → ((a : Authority) → Held requests (A n.0) a → Held requests x (g a))
    → AllHeld requests A xs → AllHeld requests (put n.0 x A) (amended n g xs)
held_amended n g same requests x A xs new old =
    change_each (λ (a : Authority). Held requests (put n.0 x A (authority_no a)) a) (is_authority n) g xs
    (λ a m e. subst (λ (y : Reckoned). Held requests y a)
    (sym (put_other n.0 x A (authority_no a) (eqb-false (authority_no a) n.0 e))) (old a m))
    (λ a m e.
    let is : authority_no a ≡ n.0 = eqb-true (authority_no a) n.0 e in
    subst (λ (y : Reckoned). Held requests y (g a)) (sym (ap (put n.0 x A) (same a ∙ is) ∙ put_same n.0 x A))
    (new a (subst (λ (i : ℕ). Held requests (A i) a) is (old a m))))

-- ---- one train changed and reckoned anew, its number kept

pub placed_moved : (n : TrainNo) (g : Train → Train) → ((t : Train) → train_no (g t) ≡ train_no t)
    → (y : Position) (T : ℕ → Position) (ts : List Train)
    → ((t : Train) → Placed (T n.0) t → Placed y (g t))
    → AllPlaced T ts → AllPlaced (put n.0 y T) (moved n g ts)
placed_moved n g same y T ts new old =
    change_each (λ (t : Train). Placed (put n.0 y T (train_no t)) t) (is_train n) g ts
    (λ t m e. subst (λ (z : Position). Placed z t) (sym (put_other n.0 y T (train_no t) (eqb-false (train_no t) n.0 e)))
    (old t m))
    (λ t m e.
    let is : train_no t ≡ n.0 = eqb-true (train_no t) n.0 e in
    subst (λ (z : Position). Placed z (g t)) (sym (ap (put n.0 y T) (same t ∙ is) ∙ put_same n.0 y T))
    (new t (subst (λ (i : ℕ). Placed (T i) t) is (old t m))))

-- ---- the board still follows

-- authority n reckoned as x, with so many REQUESTs and comings into force
abbrev pub reckoned_as : Reckoning.Reckoning → ℕ → ℕ → ℕ → Reckoned → Reckoning.Reckoning
reckoned_as r requests grants n x = record {
  requests = requests;
  grants = grants;
  authority = put n x r.authority;
  train = r.train;
  blocked = r.blocked;
}

module _ (b : Board) (r : Reckoning.Reckoning) (F : Follows b r) where
  -- the kind of each is as it was, so an agreement is still of the giver's kind
  rests_put : (n : ℕ) (x : Reckoned) (xs : List Authority) → x.kind ≡ (r.authority n).kind
      → AllRest r.requests r.authority xs → AllRest r.requests (put n x r.authority) xs
  rests_put n x xs e h a m z = (
    put_all (λ (m : ℕ) (y : Reckoned). y.kind ≡ (r.authority m).kind) n x r.authority e (λ m ne. refl) a.agreed.0
        ∙ (h a m z).0,
    (h a m z).1,
  )

  -- one authority changed, and reckoned as x; after it the last to come into force has the number `grants`
  pub follows_amended : (n : AuthorityNo) (g : Authority → Authority) (x : Reckoned) (grants : ℕ)
      → ((a : Authority) → authority_no (g a) ≡ authority_no a)
      → x.kind ≡ (r.authority n.0).kind
      → ((a : Authority) → Held r.requests (r.authority n.0) a → Held r.requests x (g a))
      → ((a : Authority) → Member a b.authorities → authority_no a ≡ n.0
      → Rests r.requests r.authority (g a).kind (g a).agreed.0)
      → Taken authority_no b.authorities n.0
      → r.grants ≤ grants
      → (x.is_in_force ≡ true → x.since ≤ grants)
      → Follows (with_authorities (amended n g b.authorities) b) (reckoned_as r r.requests grants n.0 x)
  follows_amended n g x grants same kind held rests there later since = record {
    requests = F.requests;
    portions = F.portions;
    held = held_amended n g same r.requests x r.authority b.authorities held F.held;
    rests =
        rests_put n.0 x (amended n g b.authorities) kind
        (change_each (λ (a : Authority). Rests r.requests r.authority a.kind a.agreed.0)
        (is_authority n) g b.authorities
        (λ a m e. F.rests a m) (λ a m e. rests a m (eqb-true (authority_no a) n.0 e)));
    since =
        put_all (λ (m : ℕ) (y : Reckoned). y.is_in_force ≡ true → y.since ≤ grants) n.0 x r.authority since
        (λ m ne f. omega (arith, F.since m f));
    there =
        λ m f. taken_change authority_no (is_authority n) g same b.authorities m
        (put_all (λ (m : ℕ) (y : Reckoned). y.is_in_force ≡ true → Taken authority_no b.authorities m) n.0 x r.authority
        (λ f. there) (λ m ne f. F.there m f) m f);
    placed = F.placed;
    runs = F.runs;
    blocks = F.blocks;
    gates = F.gates;
    blocked = F.blocked;
    unallotted =
        put_all (λ (m : ℕ) (y : Reckoned). r.requests < m → (y.agreed ≡ 0) × (y.joined ≡ 0)) n.0 x r.authority
        (λ l. let (a, m, e) = there in absurd (omega (arith, (F.held a m).allotted, e))) (λ m ne. F.unallotted m);
  }

  -- one authority changed in what isn't reckoned
  pub follows_unreckoned : (n : AuthorityNo) (g : Authority → Authority)
      → ((a : Authority) → authority_no (g a) ≡ authority_no a)
      → ((a : Authority) → (g a).kind ≡ a.kind)
      → ((a : Authority) → (g a).agreed.0 ≡ a.agreed.0)
      → ((a : Authority) (x : Reckoned) → Held r.requests x a → Held r.requests x (g a))
      → Follows (with_authorities (amended n g b.authorities) b) r
  follows_unreckoned n g same kind agreed held = record {
    requests = F.requests;
    portions = F.portions;
    held =
        change_each (λ (a : Authority). Held r.requests (r.authority (authority_no a)) a)
        (is_authority n) g b.authorities
        (λ a m e. F.held a m)
        (λ a m e. subst (λ (k : ℕ). Held r.requests (r.authority k) (g a)) (sym (same a))
        (held a (r.authority (authority_no a)) (F.held a m)));
    rests =
        change_each (λ (a : Authority). Rests r.requests r.authority a.kind a.agreed.0) (is_authority n) g b.authorities
        (λ a m e. F.rests a m)
        (λ a m e. subst₂ (Rests r.requests r.authority) (sym (kind a)) (sym (agreed a)) (F.rests a m));
    since = F.since;
    there = λ m f. taken_change authority_no (is_authority n) g same b.authorities m (F.there m f);
    placed = F.placed;
    runs = F.runs;
    blocks = F.blocks;
    gates = F.gates;
    blocked = F.blocked;
    unallotted = F.unallotted;
  }

  -- one authority ended
  pub follows_ended : (n : AuthorityNo)
      → Follows (with_authorities (ended n b.authorities) b)
      (Reckoning.with_reckoned (put n.0 (as_ended (r.authority n.0)) r.authority) r)
  follows_ended n = record {
    requests = F.requests;
    portions = F.portions;
    held =
        λ a m.
        let k = ended_member n b.authorities a m in
        subst (λ (y : Reckoned). Held r.requests y a)
        (sym (put_other n.0 (as_ended (r.authority n.0)) r.authority (authority_no a) k.1))
        (F.held a k.0);
    rests =
        rests_put n.0 (as_ended (r.authority n.0)) (ended n b.authorities) refl
        (λ a m. F.rests a (ended_member n b.authorities a m).0);
    since =
        put_all (λ (m : ℕ) (y : Reckoned). y.is_in_force ≡ true → y.since ≤ r.grants) n.0
        (as_ended (r.authority n.0)) r.authority
        (λ f. absurd (false≢true f)) (λ m ne f. F.since m f);
    there =
        put_all (λ (m : ℕ) (y : Reckoned). y.is_in_force ≡ true → Taken authority_no (ended n b.authorities) m) n.0
        (as_ended (r.authority n.0)) r.authority
        (λ f. absurd (false≢true f)) (λ m ne f. there_ended n b.authorities m ne (F.there m f));
    placed = F.placed;
    runs = F.runs;
    blocks = F.blocks;
    gates = F.gates;
    blocked = F.blocked;
    unallotted =
        put_all (λ (m : ℕ) (y : Reckoned). r.requests < m → (y.agreed ≡ 0) × (y.joined ≡ 0)) n.0
        (as_ended (r.authority n.0)) r.authority
        (F.unallotted n.0) (λ m ne. F.unallotted m);
  }

  -- other trains
  pub follows_trains : (ts : List Train) (T : ℕ → Position) → AllPlaced T ts
      → ((n : ℕ) → (T n).on_board ≡ true → Taken train_no ts n)
      → Follows (with_trains ts b) (Reckoning.with_positions T r)
  follows_trains ts T p q = record {
    requests = F.requests;
    portions = F.portions;
    held = F.held;
    rests = F.rests;
    since = F.since;
    there = F.there;
    placed = p;
    runs = q;
    blocks = F.blocks;
    gates = F.gates;
    blocked = F.blocked;
    unallotted = F.unallotted;
  }

  -- a stamp and bookings are not reckoned
  pub follows_beside : (day time : ℕ) (bookings : List Booking)
      → Follows (with_stamp day time (with_bookings bookings b)) r
  follows_beside day time bookings = record {
    requests = F.requests;
    portions = F.portions;
    held = F.held;
    rests = F.rests;
    since = F.since;
    there = F.there;
    placed = F.placed;
    runs = F.runs;
    blocks = F.blocks;
    gates = F.gates;
    blocked = F.blocked;
    unallotted = F.unallotted;
  }
