-- What contracts equate is equal by 01 and 02 too: equal boards are `Same`, `Same` is an equality, on boards in order
-- it is 01's equality as sets, and on the boards of a run nothing is left free. Assumes nothing.
use Prim.Native.Nat.{ℕ, ◌≤◌}
use native.Mathlib.Omega.{arith}
use mathlib.Core.Path.{◌≡◌, refl, sym, ap, ap₂, subst, ◌∙◌}
use mathlib.Core.Logic.{⊎_elim}
use mathlib.Core.Bool.{true}
use mathlib.Core.List.Memᴰ
use mathlib.Core.List.{List, [], ◌∷◌}
use Rattle.lists.specs.Order.{Ascending}
use Rattle.lists.proofs.Search.{Member}
use Rattle.lists.proofs.Order.{Above}
use Rattle.rules.specs.declared.AuthorityNo.{AuthorityNo}
use Rattle.rules.specs.declared.Authority.{Authority}
use Rattle.rules.specs.declared.kind.Kind.{Kind}
use Rattle.rules.specs.declared.kind.Kind.TheVariants.{Lpa, Toa, Twa}
use Rattle.rules.specs.Call.{authority_of, kind_of}
use Rattle.rules.specs.Board.{Board, kind_no, is_lpa, is_toa, is_twa, authority_no, train_no, SameAuthority, InOrder}
use Rattle.rules.specs.Board.{Same}
use Rattle.rules.specs.Step.{Once}

same_authority : (a : Authority) → SameAuthority a a
same_authority a = record {
  number = refl;
  kind = refl;
  limits = refl;
  officer = refl;
  stage = refl;
  site = refl;
  agreed = λ t. refl;
  joined = λ t. refl;
  start = refl;
  minutes = refl;
}

in_order_refl : (xs : List Authority) → InOrder SameAuthority xs xs
in_order_refl [] = tt
in_order_refl (x ∷ xs) = (same_authority x, in_order_refl xs)

pub same_refl : (b : Board) → Same b b
same_refl b = record {
  portions = refl;
  gates = refl;
  bookings = refl;
  day = refl;
  time = refl;
  last = refl;
  blocks = refl;
  authorities = in_order_refl b.authorities;
  trains = refl;
}

-- THEOREM: boards that a contract equates, list for list, are equal by 01 and 02
pub equal_same : (b c : Board) → b ≡ c → Same b c
equal_same b c e = subst (λ (d : Board). Same b d) e (same_refl b)

-- `Same` goes either way round, and on
then_authority : (x y z : Authority) → SameAuthority x y → SameAuthority y z → SameAuthority x z
then_authority x y z s t = record {
  number = s.number ∙ t.number;
  kind = s.kind ∙ t.kind;
  limits = s.limits ∙ t.limits;
  officer = s.officer ∙ t.officer;
  stage = s.stage ∙ t.stage;
  site = s.site ∙ t.site;
  agreed = λ w. s.agreed w ∙ t.agreed (ap is_twa (sym s.kind) ∙ w);
  joined = λ w. s.joined w ∙ t.joined (ap is_toa (sym s.kind) ∙ w);
  start = s.start ∙ t.start;
  minutes = s.minutes ∙ t.minutes;
}

turn_authority : (x y : Authority) → SameAuthority x y → SameAuthority y x
turn_authority x y s = record {
  number = sym s.number;
  kind = sym s.kind;
  limits = sym s.limits;
  officer = sym s.officer;
  stage = sym s.stage;
  site = sym s.site;
  agreed = λ w. sym (s.agreed (ap is_twa s.kind ∙ w));
  joined = λ w. sym (s.joined (ap is_toa s.kind ∙ w));
  start = sym s.start;
  minutes = sym s.minutes;
}

in_order_sym : (xs ys : List Authority) → InOrder SameAuthority xs ys → InOrder SameAuthority ys xs
in_order_sym [] (y ∷ ys) s = elim s [ ]
in_order_sym (x ∷ xs) [] s = elim s [ ]
in_order_sym [] [] s = tt
in_order_sym (x ∷ xs) (y ∷ ys) s = (turn_authority x y s.0, in_order_sym xs ys s.1)

in_order_trans : (xs ys zs : List Authority) → InOrder SameAuthority xs ys → InOrder SameAuthority ys zs
    → InOrder SameAuthority xs zs
in_order_trans [] [] (z ∷ zs) s t = elim t [ ]
in_order_trans [] (y ∷ ys) zs s t = elim s [ ]
in_order_trans (x ∷ xs) [] zs s t = elim s [ ]
in_order_trans (x ∷ xs) (y ∷ ys) [] s t = elim t [ ]
in_order_trans [] [] [] s t = tt
in_order_trans (x ∷ xs) (y ∷ ys) (z ∷ zs) s t = (then_authority x y z s.0 t.0, in_order_trans xs ys zs s.1 t.1)

pub same_sym : (b c : Board) → Same b c → Same c b
same_sym b c s = record {
  portions = sym s.portions;
  gates = sym s.gates;
  bookings = sym s.bookings;
  day = sym s.day;
  time = sym s.time;
  last = sym s.last;
  blocks = sym s.blocks;
  authorities = in_order_sym b.authorities c.authorities s.authorities;
  trains = sym s.trains;
}

pub same_trans : (b c d : Board) → Same b c → Same c d → Same b d
same_trans b c d s t = record {
  portions = s.portions ∙ t.portions;
  gates = s.gates ∙ t.gates;
  bookings = s.bookings ∙ t.bookings;
  day = s.day ∙ t.day;
  time = s.time ∙ t.time;
  last = s.last ∙ t.last;
  blocks = s.blocks ∙ t.blocks;
  authorities = in_order_trans b.authorities c.authorities d.authorities s.authorities t.authorities;
  trains = s.trains ∙ t.trains;
}

-- ---- 01's equality as sets, with the order free, and the one in order

-- each element of one list has its like in the other
abbrev pub EachIn : {A : Type 0} → (A → A → Type 0) → List A → List A → Type 0
EachIn {A} Like xs ys = (x : A) → Member x xs → (y : A) × Member y ys × Like x y

-- 01: "Two registers are equal when plan, last stamp, last number, blocks, live authorities and trains are equal as
-- sets"; and by order 6 bookings
pub record SameSets (b c : Board) : Type 0 where
  pub portions : b.portions ≡ c.portions
  pub gates : b.gates ≡ c.gates
  pub bookings : b.bookings ≡ c.bookings
  pub day : b.day ≡ c.day
  pub time : b.time ≡ c.time
  pub last : b.last ≡ c.last
  pub blocks : b.blocks ≡ c.blocks
  pub authorities : EachIn SameAuthority b.authorities c.authorities
  pub authorities' : EachIn SameAuthority c.authorities b.authorities
  pub trains : EachIn (λ x y. x ≡ y) b.trains c.trains
  pub trains' : EachIn (λ x y. x ≡ y) c.trains b.trains

in_order_each : {A : Type 0} (Like : A → A → Type 0) (xs ys : List A) → InOrder Like xs ys → EachIn Like xs ys
in_order_each {A = A} Like (z ∷ zs) [] s x m = elim s [ ]
in_order_each Like [] ys s x m = elim m [ ]
in_order_each Like (z ∷ zs) (w ∷ ws) s x m =
    ⊎_elim (λ e. (w, Memᴰ.head refl, subst (λ (a : _). Like a w) (sym e) s.0))
    (λ k. let (y, my, l) = in_order_each Like zs ws s.1 x k in (y, Memᴰ.tail my, l)) (Memᴰ.cases_cons m)

-- THEOREM: equal in order is equal as sets
pub same_sets : (b c : Board) → Same b c → SameSets b c
same_sets b c s = record {
  portions = s.portions;
  gates = s.gates;
  bookings = s.bookings;
  day = s.day;
  time = s.time;
  last = s.last;
  blocks = s.blocks;
  authorities = in_order_each SameAuthority b.authorities c.authorities s.authorities;
  authorities' =
      in_order_each SameAuthority c.authorities b.authorities (in_order_sym b.authorities c.authorities s.authorities);
  trains = λ t m. (t, subst (Member t) s.trains m, refl);
  trains' = λ t m. (t, subst (Member t) (sym s.trains) m, refl);
}

module _ {A : Type 0} (number : A → ℕ) (Like : A → A → Type 0)
    (like-number : (x y : A) → Like x y → number x ≡ number y) where
  -- the first number of an ascending list is the least
  least_first : (x y : A) (xs : List A) → Above number (number x) xs → Member y (x ∷ xs) → number x ≤ number y
  least_first x y xs h m = ⊎_elim (λ e. omega (arith, ap number e)) (λ k. omega (arith, h y k)) (Memᴰ.cases_cons m)

  -- an element with the first number is the first
  first_is : (x y : A) (xs : List A) → Above number (number x) xs → Member y (x ∷ xs) → number y ≡ number x → y ≡ x
  first_is x y xs h m e = ⊎_elim (λ q. q) (λ k. absurd (omega (arith, h y k))) (Memᴰ.cases_cons m)

  -- without the first of each, where both have the same number
  tails : (x y : A) (xs ys : List A) → number x ≡ number y → Above number (number x) xs → EachIn Like (x ∷ xs) (y ∷ ys)
      → EachIn Like xs ys
  tails x y xs ys e h f z m =
      let (w, mw, l) = f z (Memᴰ.tail m) in
      ⊎_elim (λ q. absurd (omega (arith, h z m, like-number z w l, ap number q, e))) (λ k. (w, k, l))
      (Memᴰ.cases_cons mw)

  each_in_order : (xs ys : List A) → Ascending number xs → Ascending number ys → EachIn Like xs ys → EachIn Like ys xs
      → InOrder Like xs ys
  unfolding Ascending
  each_in_order [] [] u v f g = tt
  each_in_order [] (y ∷ ys) u v f g = let (x, m, l) = g y (Memᴰ.head refl) in elim m [ ]
  each_in_order (x ∷ xs) [] u v f g = let (y, m, l) = f x (Memᴰ.head refl) in elim m [ ]
  each_in_order (x ∷ xs) (y ∷ ys) u v f g =
      let (w, mw, l) = f x (Memᴰ.head refl) in
      let (z, mz, k) = g y (Memᴰ.head refl) in
      let same : number x ≡ number y =
      omega (arith, like-number x w l, like-number y z k, least_first y w ys v.0 mw, least_first x z xs u.0 mz) in (
        subst (Like x) (first_is y w ys v.0 mw (sym (like-number x w l) ∙ same)) l,
        each_in_order xs ys u.1 v.1 (tails x y xs ys same u.0 f) (tails y x ys xs (sym same) v.0 g),
      )

in_order_equal : {A : Type 0} (xs ys : List A) → InOrder (λ x y. x ≡ y) xs ys → xs ≡ ys
in_order_equal {A = A} [] (y ∷ ys) s = elim s [ ]
in_order_equal {A = A} (x ∷ xs) [] s = elim s [ ]
in_order_equal [] [] s = refl
in_order_equal (x ∷ xs) (y ∷ ys) s = ap₂ (λ a l. a ∷ l) s.0 (in_order_equal xs ys s.1)

-- THEOREM: of boards that hold authorities and trains by ascending number, equal as sets is equal in order: the numbers
-- fix it
pub sets_same : (b c : Board) → Once b → Once c → SameSets b c → Same b c
sets_same b c o p s = record {
  portions = s.portions;
  gates = s.gates;
  bookings = s.bookings;
  day = s.day;
  time = s.time;
  last = s.last;
  blocks = s.blocks;
  authorities =
      each_in_order authority_no SameAuthority (λ x y l. ap (λ (n : AuthorityNo). n.0) l.number)
      b.authorities c.authorities o.authorities p.authorities s.authorities s.authorities';
  trains =
      in_order_equal b.trains c.trains
      (each_in_order train_no (λ x y. x ≡ y) (λ x y l. ap train_no l)
      b.trains c.trains o.trains p.trains s.trains s.trains');
}

-- ---- nothing is left free (02, order 7)

-- the LPAs of a list record no agreement, as after every list of calls (`list_lpas`)
abbrev pub NoneOfLpas : List Authority → Type 0
NoneOfLpas xs = (a : Authority) → Member a xs → is_lpa a.kind ≡ true → a.agreed.0 ≡ 0

equal_agreed : (x y : Authority) (k : Kind) → x.kind ≡ k → SameAuthority x y → (is_lpa x.kind ≡ true → x.agreed.0 ≡ 0)
    → (is_lpa y.kind ≡ true → y.agreed.0 ≡ 0) → x.agreed ≡ y.agreed
equal_agreed x y Lpa e s f g = ap authority_of (f (ap is_lpa e) ∙ sym (g (ap is_lpa (sym s.kind ∙ e))))
equal_agreed x y Toa e s f g = s.joined (ap is_toa e)
equal_agreed x y Twa e s f g = s.agreed (ap is_twa e)

equal_authority : (x y : Authority) → SameAuthority x y → x.agreed ≡ y.agreed → x ≡ y
equal_authority x y s e = rw (s.number, s.kind, s.limits, s.officer, s.stage, s.site, e, s.start, s.minutes)

equal_authorities : (xs ys : List Authority) → NoneOfLpas xs → NoneOfLpas ys → InOrder SameAuthority xs ys → xs ≡ ys
equal_authorities [] (y ∷ ys) f g s = elim s [ ]
equal_authorities (x ∷ xs) [] f g s = elim s [ ]
equal_authorities [] [] f g s = refl
equal_authorities (x ∷ xs) (y ∷ ys) f g s =
    ap₂ (λ a l. a ∷ l)
    (equal_authority x y s.0 (equal_agreed x y x.kind refl s.0 (f x (Memᴰ.head refl)) (g y (Memᴰ.head refl))))
    (equal_authorities xs ys (λ a m. f a (Memᴰ.tail m)) (λ a m. g a (Memᴰ.tail m)) s.1)

-- THEOREM: boards whose LPAs record no agreement and that are equal by 01 and 02 are one board
pub same_equal : (b c : Board) → NoneOfLpas b.authorities → NoneOfLpas c.authorities → Same b c → b ≡ c
same_equal b c f g s =
    let e : b.authorities ≡ c.authorities = equal_authorities b.authorities c.authorities f g s.authorities in
    rw (s.portions, s.gates, s.bookings, s.day, s.time, s.last, s.blocks, e, s.trains)

-- the kinds and 01's numbers for them are one to one
pub kind_number : (k : Kind) → kind_of (kind_no k) ≡ k
kind_number Lpa = refl
kind_number Toa = refl
kind_number Twa = refl
