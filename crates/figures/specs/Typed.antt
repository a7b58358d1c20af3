-- A number as a person types it, as the digits of a field. Assumes nothing.
use Rattle.std.specs.Prelude.{ℕ, ◌-◌, List, [], ◌∷◌, ◌++◌, Bool, false, cond, ◌||◌, eqb, ltb, length, get_or, take, drop}
use Rattle.digits.specs.Packed.{preferred}
use Rattle.text.specs.Text.{capital}

-- the character k places before the last, and 0 where there is none
abbrev pub from_last : ℕ → List ℕ → ℕ
from_last k text = cond (ltb k (length text)) (get_or text (length text - 1 - k) 0) 0

-- a text without its first characters, and without its last
abbrev pub without : ℕ → ℕ → List ℕ → List ℕ
without first last text = take (length text - last - first) (drop first text)

-- '+' or '-'
abbrev pub is_mark : ℕ → Bool
is_mark c = eqb c 43 || eqb c 45

-- the sign digit for it, "C or D"
abbrev pub sign_for : ℕ → ℕ
sign_for mark = capital (preferred (eqb mark 45))

-- the digits, and the sign digit after them: '+' or '-' stands before the digits or after them, or ':' and the sign digit itself after them; with none of these it is plus
unfoldable pub typed_digits : List ℕ → List ℕ
typed_digits text =
    cond (is_mark (get_or text 0 0)) (without 1 0 text ++ (sign_for (get_or text 0 0) ∷ []))
    (cond (is_mark (from_last 0 text)) (without 0 1 text ++ (sign_for (from_last 0 text) ∷ []))
    (cond (eqb (from_last 1 text) 58) (without 0 2 text ++ (from_last 0 text ∷ []))
    (text ++ (capital (preferred false) ∷ []))))
