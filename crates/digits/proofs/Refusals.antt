-- "Given exactly when": the one law of lists of checks. Assumes nothing.
use Prim.Native.Nat.{ℕ, zero, suc, ◌<◌, suc-le-suc}
use mathlib.Core.Path.{◌≡◌, refl, sym, ap, subst}
use mathlib.Core.List.{List, [], ◌∷◌, ◌++◌, map}
use mathlib.Core.Bool.{true, false}
use mathlib.Core.Logic.{◌↔◌}
use native.Mathlib.Nat.{not-suc-le-zero, le_of_suc-le-suc, zero-lt-suc}
use Rattle.std.specs.Prelude.{slice_get, Option, Some, None, Ok, Err}
use Rattle.digits.specs.Table.{Each}
use Rattle.digits.specs.Refusal.{Check, first, answer, test_at, Given}
use Rattle.digits.proofs.Truth.{zero_one, true_not_false}

module _ {R : Type 0} where
  pub some_inj : {x y : R} → Some x ≡ Some y → x ≡ y
  some_inj e = cc

  pub some_not_none : {x : R} → Some x ≡ None → ⊥
  some_not_none e = zero_one cc

-- the answer where a refusal is given, and where none is
module _ {R A : Type 0} (refused : R → A) (x : A) where
  pub refuses : {k : Option R} {r : R} → k ≡ Some r → answer k refused x ≡ refused r
  refuses e = ap (λ (m : Option R). answer m refused x) e

  pub accepts : {k : Option R} → k ≡ None → answer k refused x ≡ x
  accepts e = ap (λ (m : Option R). answer m refused x) e

module _ {R : Type 0} where
  -- no test of the list holds
  abbrev pub NoneHolds : List (Check R) → Type 0
  NoneHolds cs = Each (λ (c : Check R). c.1 ≡ false) cs

  pub none_first : (cs : List (Check R)) → NoneHolds cs → first cs ≡ None
  none_first [] h = refl
  none_first ((r, true) ∷ cs) h = absurd (true_not_false refl h.0)
  none_first ((r, false) ∷ cs) h = none_first cs h.1

  pub first_none : (cs : List (Check R)) → first cs ≡ None → NoneHolds cs
  first_none [] e = tt
  first_none ((r, true) ∷ cs) e = absurd (some_not_none e)
  first_none ((r, false) ∷ cs) e = (refl, first_none cs e)

  here : (r : R) (cs : List (Check R)) → Given r ((r, true) ∷ cs)
  here r cs = record { place = 0; stands = refl; holds = refl; earlier = λ j h. absurd (not-suc-le-zero h) }

  earlier_than : (r : R) (cs : List (Check R)) (i : ℕ) → ((j : ℕ) → j < i → test_at cs j ≡ false) → (j : ℕ) → j < suc i → test_at ((r, false) ∷ cs) j ≡ false
  earlier_than r cs i e zero h = refl
  earlier_than r cs i e (suc j) h = e j (le_of_suc-le-suc h)

  later : {q r : R} {cs : List (Check R)} → Given r cs → Given r ((q, false) ∷ cs)
  later {q} {r} {cs} g =
      record {
        place = suc g.place;
        stands = g.stands;
        holds = g.holds;
        earlier = earlier_than q cs g.place g.earlier;
      }

  -- what is given is the first whose test holds
  pub given_first : (cs : List (Check R)) (r : R) → Given r cs → first cs ≡ Some r
  given_first cs r g = go cs g.place g.stands g.holds g.earlier
    where
      go : (l : List (Check R)) (i : ℕ) → slice_get (map (λ (c : Check R). c.0) l) i ≡ Some r → test_at l i ≡ true → ((j : ℕ) → j < i → test_at l j ≡ false) → first l ≡ Some r
      go [] i e t f = absurd (some_not_none (sym e))
      go ((q, true) ∷ l) zero e t f = e
      go ((q, false) ∷ l) zero e t f = absurd (true_not_false t refl)
      go ((q, true) ∷ l) (suc i) e t f = absurd (true_not_false refl (f zero (zero-lt-suc i)))
      go ((q, false) ∷ l) (suc i) e t f = go l i e t (λ j k. f (suc j) (suc-le-suc k))

  -- and the first whose test holds is given
  pub first_given : (cs : List (Check R)) {r : R} → first cs ≡ Some r → Given r cs
  first_given [] e = absurd (some_not_none (sym e))
  first_given ((q, true) ∷ cs) {r} e = subst (λ (p : R). Given p ((q, true) ∷ cs)) (some_inj e) (here q cs)
  first_given ((q, false) ∷ cs) e = later (first_given cs e)

  -- the first of the first list, else that of the second
  pub first_append : (xs ys : List (Check R)) → first (xs ++ ys) ≡ answer (first xs) Some (first ys)
  first_append [] ys = refl
  first_append ((r, true) ∷ xs) ys = refl
  first_append ((r, false) ∷ xs) ys = first_append xs ys

  -- what every answer of a list is, the first is: at a list that is written out this computes
  pub first_is : (P : R → Type 0) (cs : List (Check R)) → Each (λ (c : Check R). P c.0) cs → {r : R} → first cs ≡ Some r → P r
  first_is P [] h e = absurd (some_not_none (sym e))
  first_is P ((q, true) ∷ cs) h e = subst P (some_inj e) h.0
  first_is P ((q, false) ∷ cs) h e = first_is P cs h.1 e

-- a refusal tells which it is, and is not what is given where nothing is refused
pub record Tells {R A X : Type 0} (given : X → A) (refused : R → A) : Type 0 where
  pub which : (q r : R) → refused q ≡ refused r → q ≡ r
  pub apart : (x : X) (r : R) → given x ≡ refused r → ⊥

module _ {R A X : Type 0} {given : X → A} {refused : R → A} (t : Tells given refused) (x : X) where
  -- an answer refuses exactly when the list gives that refusal
  pub exactly : (cs : List (Check R)) (r : R) → (answer (first cs) refused (given x) ≡ refused r) ↔ Given r cs
  exactly cs r = (to (first cs) refl, λ g. refuses refused (given x) (given_first cs r g))
    where
      to : (k : Option R) → first cs ≡ k → answer k refused (given x) ≡ refused r → Given r cs
      to None e a = absurd (t.apart x r a)
      to (Some q) e a = subst (λ (p : R). Given p cs) (t.which q r a) (first_given cs e)

  -- an answer that refuses: it is the one that was found
  pub given_which : (k : Option R) (r : R) → answer k refused (given x) ≡ refused r → k ≡ Some r
  given_which None r a = absurd (t.apart x r a)
  given_which (Some q) r a = ap Some (t.which q r a)

  -- and every other answer to the same refuses by it too
  pub same_refusal : {B : Type 0} (f : R → B) (y : B) (k : Option R) (r : R) → answer k refused (given x) ≡ refused r → answer k f y ≡ f r
  same_refusal f y k r a = refuses f y (given_which k r a)

  -- an answer that is no refusal: no test of the list holds, and it is the answer that was to be given
  pub given_none : (y : X) → (given x ≡ given y → x ≡ y) → (cs : List (Check R)) → answer (first cs) refused (given x) ≡ given y → NoneHolds cs × (x ≡ y)
  given_none y only cs h = by (first cs) refl h
    where
      by : (k : Option R) → first cs ≡ k → answer k refused (given x) ≡ given y → NoneHolds cs × (x ≡ y)
      by None e a = (first_none cs e, only a)
      by (Some r) e a = absurd (t.apart y r (sym a))

-- the answer of a function that gives or refuses
pub result_tells : {R X : Type 0} → Tells {R = R} {X = X} Ok Err
result_tells = record { which = λ q r e. cc; apart = λ x r e. zero_one cc }
