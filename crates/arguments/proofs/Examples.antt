-- Arguments, and what they give. Assumes nothing.
use mathlib.Core.Path.{◌≡◌, refl}
use mathlib.Core.List.{[], ◌∷◌, map}
use lib.IntN.{pos, negsuc}
use lib.ListN.{replicate}
use Rattle.text.specs.Ascii.{ascii}
use Rattle.arguments.specs.Arguments.{digit_value, number_of, whole_in, whole_of, place_of, byte_form, address_form, limit_form, trap_form, reading_form, reading_given, given_of, digit_from_last, laid}
use Rattle.std.specs.Prelude.{Some, None, Ok, Err}
use Rattle.codes.specs.declared.Reading.TheVariants as C
use Rattle.arguments.specs.declared.WholeError.TheVariants as W
use Rattle.arguments.specs.declared.Given.TheVariants as G

a_million : number_of (ascii "1000000") ≡ Some 1000000
unfolding number_of digit_value
a_million = refl

one_more : number_of (ascii "1000001") ≡ None
unfolding number_of digit_value
one_more = refl

below_zero_lem : whole_of (ascii "-12345") ≡ Ok (negsuc 12344)
unfolding whole_of whole_in digit_value
below_zero_lem = refl

minus_zero : whole_of (ascii "-0") ≡ Ok (pos 0)
unfolding whole_of whole_in digit_value
minus_zero = refl

sixteen_digits : whole_of (ascii "+1234567890123456") ≡ Err W.Long
unfolding whole_of whole_in digit_value
sixteen_digits = refl

no_number : whole_of (ascii "-") ≡ Err W.Wrong
unfolding whole_of whole_in digit_value
no_number = refl

register_u : given_of (ascii "u=4F") ≡ Some (G.Register 2 79)
unfolding given_of byte_form place_of digit_value
register_u = refl

address : given_of (ascii "WX=fff") ≡ Some (G.Register 13 4095)
unfolding given_of byte_form address_form place_of digit_value
address = refl

from_10 : given_of (ascii "From=10") ≡ Some (G.From 10)
unfolding given_of byte_form address_form limit_form place_of digit_value
from_10 = refl

to_20 : given_of (ascii "TO=20") ≡ Some (G.To 20)
unfolding given_of byte_form address_form limit_form place_of digit_value
to_20 = refl

three_digits_lem : given_of (ascii "U=123") ≡ None
unfolding given_of byte_form address_form limit_form trap_form reading_form reading_given place_of digit_value
three_digits_lem = refl

trap_at_12 : given_of (ascii "trap=12:0a0") ≡ Some (G.Trap 12 160)
unfolding given_of byte_form address_form limit_form trap_form place_of digit_value
trap_at_12 = refl

-- a cycle 0 or over a million, none, no address, and one of five digits
no_traps : map (λ text. given_of (ascii text)) ("TRAP=0:0A0" ∷ "TRAP=1000001:0" ∷ "TRAP=:0A0" ∷ "TRAP=5:" ∷ "TRAP=5:12345" ∷ []) ≡ replicate 5 None
unfolding given_of byte_form address_form limit_form trap_form reading_form reading_given place_of digit_value
no_traps = refl

readings : map (λ text. given_of (ascii text)) ("READING=B" ∷ "reading=c" ∷ "READING=" ∷ "READING=BC" ∷ "READING=X" ∷ []) ≡ Some (G.Reading C.Basic) ∷ Some (G.Reading C.Compatibility) ∷ replicate 3 None
unfolding given_of byte_form address_form limit_form trap_form reading_form reading_given place_of digit_value
readings = refl

five_in_three : laid 3 (ascii "12345") ≡ 1 ∷ 35 ∷ 69 ∷ []
unfolding digit_from_last digit_value
five_in_three = refl

five_in_two : laid 2 (ascii "12345") ≡ 35 ∷ 69 ∷ []
unfolding digit_from_last digit_value
five_in_two = refl
