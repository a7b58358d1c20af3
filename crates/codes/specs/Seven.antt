-- "a store that uses none of these seven codes". Assumes nothing.
use Rattle.std.specs.Prelude.{ℕ, List, [], ◌∷◌, Bool, not, ◌||◌}
use Rattle.digits.specs.Table.{among, every}
use Rattle.word.specs.Layout.{fields_of}
use Rattle.word.specs.declared.Fields.{Fields}

-- "CH 8 .., CL 4 .., CL 6 .., CL 12 .., CS 5 .., CS 15 .. CH 3"
abbrev pub uses_one : Fields → Bool
uses_one f = among f.ch (3 ∷ 8 ∷ []) || (among f.cl (4 ∷ 6 ∷ 12 ∷ []) || among f.cs (5 ∷ 15 ∷ []))

-- none of its words, accepted or not
abbrev pub uses_none : List ℕ → Bool
uses_none store = every (λ address word. not (uses_one (fields_of word))) 0 store
