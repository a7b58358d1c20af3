-- The pieces of an ending. Assumes nothing.
use Prim.Native.Nat.{ℕ, zero, suc, ◌+◌, ◌-◌, ◌≤◌}
use Prim.Native.String.{String}
use mathlib.Core.Path.{◌≡◌, ◌∙◌, sym}
use mathlib.Core.List.{List, [], ◌∷◌, ◌++◌, append-nil}
use native.Mathlib.Omega.{arith}
use borrow.Author.Rules.{rules}
use lib.ListN.{length, get_or, take, drop, length-drop, length-append, drop_of_length-le}
use lib.Seq.{take_all}
use Rattle.std.specs.Prelude.{Result, Ok}
use Rattle.digits.specs.Lent.{over, over_at}
use Rattle.digits.specs.Table.{Each}
use Rattle.text.specs.Ascii.{ascii}
use Rattle.digits.specs.declared.refusal.Refusal.{Refusal}
use Rattle.text.specs.Text.{three_digits, zeros_in_front, decimal, put_of, room_after}
use Rattle.text.specs.Words.{words_of}
use Rattle.text.proofs.Rows.{words_short}
use Rattle.text.proofs.Texts.{fits}
use Rattle.lamps.specs.Ending.{field_names, field_of, refused_of, place_of}

-- ---- a number in decimal

pub decimal_short : (n : ℕ) → length (decimal n) ≤ 3
decimal_short n = omega (arith, length-drop (zeros_in_front n) (three_digits n))

-- ---- a field by name

three_each : (ws : List String) → Each (λ (w : String). length (ascii w) ≤ 3) ws → (i : ℕ) → length (ascii (get_or ws i "")) ≤ 3
three_each [] h i = omega arith
three_each (w ∷ ws) h zero = h.0
three_each (w ∷ ws) h (suc i) = three_each ws h.1 i

pub field_short : (field : ℕ) → length (field_of field) ≤ 3
unfolding field_of
field_short field = three_each field_names (search rules) field

-- ---- the words, where all the rest of a room is lent for them

abbrev rest : ℕ → List ℕ → List ℕ
rest at w = take (length w - at) (drop at w)

pub words_put : (number at : ℕ) (w x : List ℕ) (r : Result ℕ Refusal) → at + 64 ≤ length w
    → (r ≡ put_of (words_of number) (length (rest at w))) × (x ≡ room_after (words_of number) (rest at w))
    → (r ≡ Ok (length (words_of number))) × (take at w ++ (x ++ drop (length w - at) (drop at w)) ≡ over_at at (words_of number) w)
words_put number at w x r h (p, q) =
    let n = length-drop at w in
    let all : rest at w ≡ drop at w = take_all (length w - at) (drop at w) (omega arith) in
    let f = fits (words_of number) (drop at w) (omega (arith, words_short number)) in
    (p ∙ rw all (sym f.0), rw (q, all, ← f.1, drop_of_length-le (drop at w) {i = length w - at} (omega arith), append-nil (over (words_of number) (drop at w))))

-- ---- a refusal

pub refused_short : (number field at : ℕ) → length (refused_of number field at) ≤ 96
unfolding refused_of
refused_short number field at =
    let words = words_of number ++ (10 ∷ []) in
    omega (arith, decimal_short number, field_short field, words_short number, length-append (decimal number) (field_of field ++ (place_of at ++ words)), length-append (field_of field) (place_of at ++ words), length-append (words_of number) (10 ∷ []))
