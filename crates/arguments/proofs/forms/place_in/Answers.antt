-- The first that is the character, or none. Assumes nothing.
use Rattle.std.proofs.Common.{rules, ℕ, ◌≡◌, ◌≢◌, List, ◌∷◌, ◌+◌, refl, sym, ◌∙◌}
use Rattle.std.proofs.lemmas.Iterator.{YieldsList-from_slice, IsFirst-from_position, index_from_first}
use borrow.Author.Tests.{tests, eq-eqb, ne_eqb}
use native.Mathlib.Numerals.{add-one}
use Rattle.arguments.specs.Arguments.{place_in}
use Rattle.arguments.proofs.forms.place_in.Goals as goal

module _ (c x : ℕ) (xs : List ℕ) where
  hit : c ≡ x → place_in c (x ∷ xs) ≡ 0
  hit e = rw (eq-eqb c x e)

  miss : c ≢ x → place_in c (x ∷ xs) ≡ place_in c xs + 1
  miss e = rw (ne_eqb c x e, add-one)

pub returns-clause-value : goal.returns-clause-value
returns-clause-value c =
    let l = c.args.list.now in
    let first = IsFirst-from_position _ _ c.position.result (λ x. c.args.c ≡ x) (λ x. c.args.c ≢ x) c.position.ensures.ran (YieldsList-from_slice l cc) (λ x q k. search (rules, tests)) (λ x q k. search (rules, tests)) in
    c.unwrap_or.ensures ∙ sym (index_from_first (place_in c.args.c) (λ x. c.args.c ≡ x) (λ x. c.args.c ≢ x) refl (λ x xs. hit c.args.c x xs) (λ x xs. miss c.args.c x xs) l c.position.result first)
