-- A whole number in figures. Assumes nothing.
use Rattle.std.specs.Prelude.{ℕ, zero, suc, ◌+◌, ◌/◌, List, [], ◌∷◌, ◌++◌, map, Bool, cond, ltb, ℤ, nat_abs}
use Rattle.digits.specs.Tens.{last_digits}
use Rattle.digits.specs.Packed.{below_zero}

-- the character of a decimal digit
abbrev pub figure : ℕ → ℕ
figure d = 48 + d

-- how many digits a number has, of at most k and one
unfoldable pub digit_count : ℕ → ℕ → ℕ
digit_count zero n = 1
digit_count (suc k) n = cond (ltb n 10) 1 (suc (digit_count k (n / 10)))

-- its digits, and no zeros in front; a size of 64 bits has at most twenty
abbrev pub figures : ℕ → List ℕ
figures n = map figure (last_digits (digit_count 19 n) n)

-- '-' before a number below zero
abbrev pub minus_before : Bool → List ℕ
minus_before minus = cond minus (45 ∷ []) []

unfoldable pub number_text : ℤ → List ℕ
number_text number = minus_before (below_zero number) ++ figures (nat_abs number)
