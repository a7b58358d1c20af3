-- Text: characters, digits, columns, and a text in the room lent. Assumes nothing.
use Rattle.std.specs.Prelude.{ℕ, zero, suc, ◌+◌, ◌-◌, ◌/◌, ◌%◌, List, [], ◌∷◌, ◌++◌, map, Bool, true, false, cond, not, ◌&&◌, eqb, ltb, length, drop, replicate, Result, Ok, Err}
use Rattle.digits.specs.Lent.{over}
use Rattle.digits.specs.Lists.{joined}
use Rattle.digits.specs.Number.{digits_of}
use Rattle.digits.specs.Refusal.{Check, first, answer}
use Rattle.digits.specs.Sizes.{room_wrong}
use Rattle.digits.specs.declared.refusal.Refusal.{Refusal}
use Rattle.digits.specs.declared.refusal.Refusal.TheVariants as R

-- "capitals": the character of a hexadecimal digit
abbrev pub capital : ℕ → ℕ
capital d = cond (ltb d 10) (48 + d) (55 + d)

abbrev pub hexadecimal : ℕ → ℕ → List ℕ
hexadecimal k number = map capital (digits_of 4 k number)

-- the digits of some bytes, two to a byte
abbrev pub field_digits : List ℕ → List ℕ
field_digits field = joined (map (hexadecimal 2) field)

-- "the number in decimal": the three digits of a byte, without the zeros in front
abbrev pub three_digits : ℕ → List ℕ
three_digits n = (48 + n / 100) ∷ (48 + n / 10 % 10) ∷ (48 + n % 10) ∷ []

abbrev pub zeros_in_front : ℕ → ℕ
zeros_in_front n = cond (ltb n 10) 2 (cond (ltb n 100) 1 0)

abbrev pub decimal : ℕ → List ℕ
decimal n = drop (zeros_in_front n) (three_digits n)

-- the character of a number's last digit: a space once nothing is left, but never in the last place
abbrev pub place : Bool → ℕ → ℕ
place last n = cond (not last && eqb n 0) 32 (48 + n % 10)

-- a number in k columns, its last digit in the last
abbrev pub places : Bool → ℕ → ℕ → List ℕ
places last zero n = []
places last (suc k) n = places false k (n / 10) ++ (place last n ∷ [])

abbrev pub in_columns : ℕ → ℕ → List ℕ
in_columns k n = places true k n

-- a text at the right end of w columns
abbrev pub right : ℕ → List ℕ → List ℕ
right w text = replicate (w - length text) 32 ++ text

-- 19: room lent is too small
abbrev pub text_checks : List ℕ → ℕ → List (Check Refusal)
text_checks text room = (R.Room, room_wrong (length text) room) ∷ []

-- the number of bytes of a text
unfoldable pub put_of : List ℕ → ℕ → Result ℕ Refusal
put_of text room = answer (first (text_checks text room)) Err (Ok (length text))

-- the text at the front of the room, and nothing past it; refused, nothing
unfoldable pub room_after : List ℕ → List ℕ → List ℕ
room_after text old = answer (first (text_checks text (length old))) (λ n. old) (over text old)
