-- A test of each unused group. Assumes nothing.
use Rattle.std.proofs.Common.{◌≡◌, ℕ, ◌+◌, ◌-◌, ◌<◌, ◌≤◌, min, not, ◌||◌, ◌&&◌, eqb, Bool, true, false, List, [], ◌∷◌, take, drop, sym, refl, ap, ◌∙◌, ⊎_elim, arith, drop_of_length-le, length-take, rules}
use borrow.Author.Tests.{tests}
use Rattle.std.specs.List.{list_any}
use Rattle.std.proofs.lemmas.Bool.{cases_lt}
use Rattle.std.proofs.lemmas.List.{drop-take}
use Rattle.std.proofs.lemmas.Iterator.{YieldsList-from_slice}
use Rattle.std.proofs.lemmas.Iterator.Search.{any_from_yields_List}
use Rattle.digits.specs.Lists.{all_zero}
use Rattle.deck.specs.Deck.{count_in}
use Rattle.deck.proofs.unused_wrong.Goals as goal

any_is : (l : List ℕ) → list_any (λ x. not (eqb x 0)) l ≡ not (all_zero l)
any_is [] = refl
any_is (x ∷ l) = by (eqb x 0) (any_is l)
  where
    by : (b : Bool) → list_any (λ x. not (eqb x 0)) l ≡ not (all_zero l) → not b || list_any (λ x. not (eqb x 0)) l ≡ not (b && all_zero l)
    by true e = e
    by false e = refl

-- the groups from k up to the check
part : (k : ℕ) (gs : List ℕ) → take (63 - min k 63) (drop (min k 63) gs) ≡ drop k (take 63 gs)
part k gs = ⊎_elim within past (cases_lt k 63)
  where
    within : k < 63 → take (63 - min k 63) (drop (min k 63) gs) ≡ drop k (take 63 gs)
    within h =
        let m : min k 63 ≡ k = omega arith in
        let s : k + (63 - k) ≡ 63 = omega arith in
        rw m (rw s at (sym (drop-take k (63 - k) gs)))

    past : 63 ≤ k → take (63 - min k 63) (drop (min k 63) gs) ≡ drop k (take 63 gs)
    past h =
        let m : min k 63 ≡ 63 = omega arith in
        rw m (sym (drop_of_length-le (take 63 gs) {i = k} (omega (arith, length-take 63 gs))))

pub returns : goal.returns
returns c =
    let e = any_from_yields_List (λ x. not (eqb x 0)) _ _ c.any.result c.any.ensures.ran (YieldsList-from_slice _ c.iter.ensures.rest) (λ x b q k. search (rules, tests)) in
    let u : c.min-unused.result ≡ min (1 + count_in c.args.gs) 63 = c.min-unused.ensures ∙ ap (λ n. min (1 + n) 63) c.count_in.ensures.0 in
    let p : take (63 - c.min-unused.result) (drop c.min-unused.result c.args.gs) ≡ drop (1 + count_in c.args.gs) (take 63 c.args.gs) = rw u (part (1 + count_in c.args.gs) c.args.gs) in
    e ∙ any_is (take (63 - c.min-unused.result) (drop c.min-unused.result c.args.gs)) ∙ ap (λ l. not (all_zero l)) p
