-- No second answer fits a promise that is an equation. Assumes nothing.
use mathlib.Core.Path.{◌≡◌, sym, ◌∙◌}

pub sole : {A : Type 0} {x r s : A} → r ≡ x → s ≡ x → r ≡ s
sole p q = p ∙ sym q
