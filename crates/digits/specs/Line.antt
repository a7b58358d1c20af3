-- A number as a line of fields, high end first, by the list of their widths. Assumes nothing.
use Rattle.std.specs.Prelude.{ℕ, ◌+◌, ◌*◌, ◌/◌, ◌%◌, ◌^◌, List, [], ◌∷◌, Bool, true, false, ◌&&◌, ltb}
use Rattle.std.specs.Int.Count.{ones}

-- the sum of some numbers, as of the fields' bits
abbrev pub total : List ℕ → ℕ
total [] = 0
total (k ∷ ks) = k + total ks

-- the field of k bits that has t bits below it
abbrev pub slot : ℕ → ℕ → ℕ → ℕ
slot t k n = n / 2 ^ t % 2 ^ k

-- the fields of a number
abbrev pub parts : List ℕ → ℕ → List ℕ
parts [] n = []
parts (k ∷ ks) n = slot (total ks) k n ∷ parts ks n

-- the number of the fields
abbrev pub join : List ℕ → List ℕ → ℕ
join [] vs = 0
join (k ∷ ks) [] = 0
join (k ∷ ks) (v ∷ vs) = v * 2 ^ total ks + join ks vs

-- there are as many values as widths, and none is beyond its width
abbrev pub fit : List ℕ → List ℕ → Bool
fit [] [] = true
fit [] (v ∷ vs) = false
fit (k ∷ ks) [] = false
fit (k ∷ ks) (v ∷ vs) = ltb v (2 ^ k) && fit ks vs

-- the ones of all the values
abbrev pub ones_of : List ℕ → ℕ
ones_of [] = 0
ones_of (v ∷ vs) = ones v + ones_of vs
