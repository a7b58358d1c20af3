-- What stands on the board's command line: numbers, registers with their values, traps, a reading, and the cycles to show. Assumes nothing.
use Rattle.std.specs.Prelude.{ℕ, zero, suc, ◌+◌, ◌-◌, ◌*◌, ◌/◌, ◌%◌, List, [], ◌∷◌, Bool, false, cond, ◌&&◌, ◌||◌, eqb, ltb, leb, length, get_or, take, drop, set, ℤ, Option, Some, None, Result, Ok, Err}
use Rattle.std.specs.Char.{to_ascii_uppercase}
use Rattle.std.specs.List.{list_all}
use Rattle.digits.specs.Packed.{signed}
use Rattle.text.specs.Ascii.{ascii}
use Rattle.machine.specs.declared.State.{State}
use Rattle.channels.specs.Channels.{saved, loaded}
use Rattle.codes.specs.declared.Reading.TheVariants as C
use Rattle.arguments.specs.declared.WholeError.{WholeError}
use Rattle.arguments.specs.declared.WholeError.TheVariants as W
use Rattle.arguments.specs.declared.Given.{Given}
use Rattle.arguments.specs.declared.Given.TheVariants as G

-- ---- digits

-- the character is one from low to high
abbrev pub between : ℕ → ℕ → ℕ → Bool
between low high c = leb low c && leb c high

-- the value of a hexadecimal digit's character, '0' to '9', 'A' to 'F' or 'a' to 'f'; 16 for any other character
unfoldable pub digit_value : ℕ → ℕ
digit_value c = cond (between 48 57 c) (c - 48) (cond (between 65 70 c) (c - 55) (cond (between 97 102 c) (c - 87) 16))

-- every character is a digit below the base
abbrev pub all_digits : ℕ → List ℕ → Bool
all_digits base text = list_all (λ c. ltb (digit_value c) base) text

-- there are 1 to `most` characters, and every one is a digit
abbrev pub digits_fit : ℕ → ℕ → List ℕ → Bool
digits_fit base most text = ltb 0 (length text) && (leb (length text) most && all_digits base text)

-- the number that the digits write, high digit first, going on from n
abbrev pub value_from : ℕ → ℕ → List ℕ → ℕ
value_from base n [] = n
value_from base n (c ∷ cs) = value_from base (n * base + digit_value c) cs

-- ---- a number of cycles

-- 1 to 7 decimal digits that write at most 1,000,000
abbrev pub number_fits : List ℕ → Bool
number_fits text = digits_fit 10 7 text && leb (value_from 10 0 text) 1000000

-- the number that a text writes
unfoldable pub number_of : List ℕ → Option ℕ
number_of text = cond (number_fits text) (Some (value_from 10 0 text)) None

-- ---- a whole number

-- 1 to 15 decimal digits, below zero or not; more of them are too many
unfoldable pub whole_in : Bool → List ℕ → Result ℤ WholeError
whole_in minus text =
    cond (digits_fit 10 15 text) (Ok (signed minus (value_from 10 0 text))) (cond (digits_fit 10 (length text) text) (Err W.Long) (Err W.Wrong))

-- '+' or '-' may stand before them
unfoldable pub whole_of : List ℕ → Result ℤ WholeError
whole_of text =
    cond (eqb (get_or text 0 0) 43 || eqb (get_or text 0 0) 45) (whole_in (eqb (get_or text 0 0) 45) (drop 1 text)) (whole_in false text)

-- ---- an argument

-- the text begins with the name, in capitals or small letters, and '=' stands right after it; past its end a text has 0
abbrev pub names : List ℕ → List ℕ → Bool
names [] text = eqb (get_or text 0 0) 61
names (n ∷ name) text = eqb (to_ascii_uppercase (get_or text 0 0)) n && names name (drop 1 text)

-- the place of a character in a list, or the list's length
abbrev pub place_in : ℕ → List ℕ → ℕ
place_in c [] = 0
place_in c (x ∷ xs) = cond (eqb c x) 0 (suc (place_in c xs))

-- the registers of one byte, in the order of the record
abbrev pub letters : List ℕ
letters = ascii "IJUVLTDRSGHMN"

-- the place of the register that the first letter names; 13 where it names none
unfoldable pub place_of : List ℕ → ℕ
place_of text = place_in (to_ascii_uppercase (get_or text 0 0)) letters

-- a register of one byte: its letter, '=', and 1 or 2 digits
unfoldable pub byte_form : List ℕ → Bool
byte_form text = ltb (place_of text) 13 && (eqb (get_or text 1 0) 61 && digits_fit 16 2 (drop 2 text))

-- the address: "WX=" and 1 to 3 digits
unfoldable pub address_form : List ℕ → Bool
address_form text = names (ascii "WX") text && digits_fit 16 3 (drop 3 text)

-- a limit: its name, '=', and a number
unfoldable pub limit_form : List ℕ → List ℕ → Bool
limit_form name text = names name text && number_fits (drop (length name + 1) text)

-- the number of a cycle: not 0
abbrev pub cycle_fits : List ℕ → Bool
cycle_fits text = number_fits text && ltb 0 (value_from 10 0 text)

-- what stands before the first ':', and after it
abbrev pub before_colon : List ℕ → List ℕ
before_colon text = take (place_in 58 text) text

abbrev pub after_colon : List ℕ → List ℕ
after_colon text = drop (place_in 58 text + 1) text

-- a trap's cycle and its address, after "TRAP="
abbrev pub trap_cycle : List ℕ → List ℕ
trap_cycle text = before_colon (drop 5 text)

abbrev pub trap_address : List ℕ → List ℕ
trap_address text = after_colon (drop 5 text)

-- a trap: "TRAP=", a cycle, ':', and 1 to 4 digits
unfoldable pub trap_form : List ℕ → Bool
trap_form text = names (ascii "TRAP") text && (cycle_fits (trap_cycle text) && digits_fit 16 4 (trap_address text))

-- the reading: "READING=" and one letter
unfoldable pub reading_form : ℕ → List ℕ → Bool
reading_form letter text = names (ascii "READING") text && (eqb (length text) 9 && eqb (to_ascii_uppercase (get_or text 8 0)) letter)

-- 'B' is basic, 'C' compatibility
unfoldable pub reading_given : List ℕ → Option Given
reading_given text = cond (reading_form 66 text) (Some (G.Reading C.Basic)) (cond (reading_form 67 text) (Some (G.Reading C.Compatibility)) None)

-- what an argument gives
unfoldable pub given_of : List ℕ → Option Given
given_of text =
    cond (byte_form text) (Some (G.Register (place_of text) (value_from 16 0 (drop 2 text))))
    (cond (address_form text) (Some (G.Register 13 (value_from 16 0 (drop 3 text))))
    (cond (limit_form (ascii "FROM") text) (Some (G.From (value_from 10 0 (drop 5 text))))
    (cond (limit_form (ascii "TO") text) (Some (G.To (value_from 10 0 (drop 3 text))))
    (cond (trap_form text) (Some (G.Trap (value_from 10 0 (trap_cycle text)) (value_from 16 0 (trap_address text)))) (reading_given text)))))

-- ---- a fence

-- a start and an end, ':' between them, each of 1 to 5 digits
unfoldable pub bounds_of : List ℕ → Option (ℕ × ℕ)
bounds_of text =
    cond (digits_fit 16 5 (before_colon text) && digits_fit 16 5 (after_colon text)) (Some (value_from 16 0 (before_colon text), value_from 16 0 (after_colon text))) None

-- ---- a register's value in a state

-- the record's bytes with a register's value: one byte of it at the places below 13, two for the address at 13
abbrev pub with_value : ℕ → ℕ → List ℕ → List ℕ
with_value place value bytes =
    cond (ltb place 13) (set bytes place (value % 256))
    (cond (eqb place 13) (set (set bytes 13 (value / 256 % 256)) 14 (value % 256)) bytes)

-- the state with it
unfoldable pub with_register : ℕ → ℕ → State → State
with_register place value s = loaded (with_value place value (saved s))

-- ---- digits in a field

-- the digit k places before the last, and 0 where there is none
unfoldable pub digit_from_last : List ℕ → ℕ → ℕ
digit_from_last text k = cond (ltb k (length text)) (digit_value (get_or text (length text - 1 - k) 0) % 16) 0

-- the digits at the right end of a field of n bytes, two to a byte, zeros in front; those that do not fit are left out
abbrev pub laid : ℕ → List ℕ → List ℕ
laid zero text = []
laid (suc k) text = (digit_from_last text (2 * k + 1) * 16 + digit_from_last text (2 * k)) ∷ laid k text
