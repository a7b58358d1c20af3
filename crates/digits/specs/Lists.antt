-- A list in pieces, and what is made of its elements one after the other. Assumes nothing.
use Rattle.std.specs.Prelude.{ℕ, zero, suc, List, [], ◌∷◌, ◌++◌, Bool, true, ◌&&◌, take, drop, eqb}

-- n pieces of k each; the last may have fewer
abbrev pub pieces : {A : Type 0} → ℕ → ℕ → List A → List (List A)
pieces k zero l = []
pieces k (suc n) l = take k l ∷ pieces k n (drop k l)

-- the pieces one after the other
abbrev pub joined : {A : Type 0} → List (List A) → List A
joined [] = []
joined (p ∷ ps) = p ++ joined ps

-- f of each element and its place, counted from i
abbrev pub placed : {A B : Type 0} → (ℕ → A → B) → ℕ → List A → List B
placed f i [] = []
placed f i (x ∷ xs) = f i x ∷ placed f (suc i) xs

-- what is made of each element at its place, one after the other
abbrev pub in_turn : {A B : Type 0} → (ℕ → A → List B) → ℕ → List A → List B
in_turn f i l = joined (placed f i l)

abbrev pub all_zero : List ℕ → Bool
all_zero [] = true
all_zero (x ∷ xs) = eqb x 0 && all_zero xs
