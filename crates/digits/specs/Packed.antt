-- Packed fields: digits two to a byte, and a sign in the last place. Assumes nothing.
use Rattle.std.specs.Prelude.{ℕ, List, [], ◌∷◌, ◌++◌, Bool, true, false, cond, ℤ, pos, negsuc, neg_ℤ, get_or, take}
use Rattle.digits.specs.Digits.{high, low, digits}
use Rattle.digits.specs.Tens.{last_digits, tens}

-- ---- digits in bytes

-- the digits of some bytes, high digit first
abbrev pub digits_in : List ℕ → List ℕ
digits_in [] = []
digits_in (b ∷ bs) = high b ∷ low b ∷ digits_in bs

-- the bytes of some digits, two to a byte
abbrev pub in_bytes : List ℕ → List ℕ
in_bytes [] = []
in_bytes (h ∷ []) = []
in_bytes (h ∷ l ∷ ds) = digits h l ∷ in_bytes ds

-- ---- signs

pub data Sign : Type 0 where
  NoSign : Sign
  Plus : Sign
  Minus : Sign

-- what each digit is as a sign: "A, C, E, F plus, B, D minus, as the Principles of Operation has it"
abbrev pub signs : List Sign
signs =
    NoSign ∷  -- 0
    NoSign ∷  -- 1
    NoSign ∷  -- 2
    NoSign ∷  -- 3
    NoSign ∷  -- 4
    NoSign ∷  -- 5
    NoSign ∷  -- 6
    NoSign ∷  -- 7
    NoSign ∷  -- 8
    NoSign ∷  -- 9
    Plus ∷  -- A
    Minus ∷  -- B
    Plus ∷  -- C
    Minus ∷  -- D
    Plus ∷  -- E
    Plus ∷  -- F
    []

abbrev pub sign_of : ℕ → Sign
sign_of digit = get_or signs digit NoSign

abbrev pub is_minus : Sign → Bool
is_minus NoSign = false
is_minus Plus = false
is_minus Minus = true

abbrev pub is_none : Sign → Bool
is_none NoSign = true
is_none Plus = false
is_none Minus = false

-- the sign that is written: "C or D"
abbrev pub preferred : Bool → ℕ
preferred minus = cond minus 0xD 0xC

-- ---- whole numbers

-- the number of a size, below zero or not; minus zero is 0
abbrev pub signed : Bool → ℕ → ℤ
signed minus n = cond minus (neg_ℤ (pos n)) (pos n)

abbrev pub below_zero : ℤ → Bool
below_zero (pos n) = false
below_zero (negsuc n) = true

-- ---- a field of k digits and a sign

-- the number that its digits write
abbrev pub size_in : ℕ → List ℕ → ℕ
size_in k field = tens (take k (digits_in field))

-- the digit after them
abbrev pub sign_in : ℕ → List ℕ → ℕ
sign_in k field = get_or (digits_in field) k 0

-- "A, C, E, F plus, B, D minus"; "minus zero reads as 0"
abbrev pub signed_in : ℕ → List ℕ → ℤ
signed_in k field = signed (is_minus (sign_of (sign_in k field))) (size_in k field)

-- the last k digits of a number and a sign digit, two to a byte
abbrev pub signed_bytes : ℕ → ℕ → ℕ → List ℕ
signed_bytes k size sign = in_bytes (last_digits k size ++ (sign ∷ []))
