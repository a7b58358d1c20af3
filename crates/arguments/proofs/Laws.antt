-- The laws of digits and of what they write. Assumes nothing.
use Prim.Native.Nat.{ℕ, zero, suc, ◌+◌, ◌*◌, ◌^◌, ◌<◌, ◌≤◌}
use mathlib.Core.Path.{◌≡◌, refl, sym, ◌∙◌}
use mathlib.Core.Bool.{true, false, ◌&&◌}
use mathlib.Core.List.{List}
use native.Mathlib.Nat.{add-zero, mul-le-mul_left}
use native.Mathlib.Numerals.{add-one}
use native.Mathlib.Omega.{arith}
use borrow.Author.Tests.{leb-true, ltb-true, eq-eqb, ne_eqb}
use lib.Dec.{eqb, ltb, leb}
use lib.ListN.{length, get_or, drop}
use lib.Pow.{pow-add, pow_mono}
use lib.Seq.{drop-cons, drop-drop, get_or-drop}
use Rattle.std.specs.Prelude.{Some}
use Rattle.std.specs.Char.{to_ascii_uppercase}
use Rattle.digits.proofs.Truth.{both}
use Rattle.text.specs.Ascii.{ascii}
use Rattle.arguments.specs.Arguments.{digit_value, all_digits, digits_fit, value_from, number_fits, names, place_of, byte_form, address_form, limit_form, cycle_fits, trap_cycle, trap_address, trap_form, reading_given, given_of, laid}
use Rattle.arguments.specs.declared.Given.TheVariants as G

-- one digit more to read
pub value_step : (base n i : ℕ) (text : List ℕ) → i < length text → value_from base (n * base + digit_value (get_or text i 0)) (drop (i + 1) text) ≡ value_from base n (drop i text)
value_step base n i text h = rw (drop-cons text i 0 h, add-one)

-- how large the number may be after some digits
pub value_grows : (base n d i : ℕ) → base ≤ 16 → d ≤ 16 → n + 2 ≤ 2 ^ (4 * i + 1) → n * base + d + 2 ≤ 2 ^ (4 * (i + 1) + 1)
value_grows base n d i h k e =
    let m : n * base ≤ n * 16 = mul-le-mul_left n h in
    let z : 4 * (i + 1) + 1 ≡ 4 * i + 1 + 4 = omega arith in
    rw (z, pow-add 2 (4 * i + 1) 4) (omega arith)

pub value_fits : (base n i : ℕ) → base ≤ 16 → i < 15 → n + 2 ≤ 2 ^ (4 * i + 1) → n * base + 16 < 2 ^ 64
value_fits base n i h k e =
    let m : n * base ≤ n * 16 = mul-le-mul_left n h in
    let p : 2 ^ (4 * i + 1) ≤ 2 ^ 57 = pow_mono {j = 57} (omega arith) in
    omega arith

-- digits that fit are no more than that
pub fit_short : (base most : ℕ) (text : List ℕ) → digits_fit base most text ≡ true → length text ≤ most
fit_short base most text t =
    leb-true (length text) most (both (leb (length text) most) (all_digits base text) (both (ltb 0 (length text)) (leb (length text) most && all_digits base text) t).1).0

pub fit_some : (base most : ℕ) (text : List ℕ) → digits_fit base most text ≡ true → 0 < length text
fit_some base most text t = ltb-true 0 (length text) (both (ltb 0 (length text)) (leb (length text) most && all_digits base text) t).0

pub number_short : (text : List ℕ) → number_fits text ≡ true → length text ≤ 7
number_short text t = fit_short 10 7 text (both (digits_fit 10 7 text) (leb (value_from 10 0 text) 1000000) t).0

-- 3 digits are below 2 ^ 16
pub short_value : (n k : ℕ) → k ≤ 3 → n + 2 ≤ 2 ^ (4 * k + 1) → n < 2 ^ 16
short_value n k h e =
    let p : 2 ^ (4 * k + 1) ≤ 2 ^ 13 = pow_mono {j = 13} (omega arith) in
    omega arith

-- ---- names

names_step : (name text : List ℕ) (i : ℕ) → i < length name → names (drop i name) (drop i text) ≡ eqb (to_ascii_uppercase (get_or text i 0)) (get_or name i 0) && names (drop (i + 1) name) (drop (i + 1) text)
names_step name text i h = rw (drop-cons name i 0 h, get_or-drop i text 0 0, add-zero, drop-drop 1 i text, add-one)

pub letter_wrong : (name text : List ℕ) (i : ℕ) → i < length name → (to_ascii_uppercase (get_or text i 0) ≡ get_or name i 0 → ⊥) → names (drop i name) (drop i text) ≡ false
letter_wrong name text i h k = names_step name text i h ∙ rw (ne_eqb (to_ascii_uppercase (get_or text i 0)) (get_or name i 0) k)

pub letter_right : (name text : List ℕ) (i : ℕ) → i < length name → to_ascii_uppercase (get_or text i 0) ≡ get_or name i 0 → names (drop (i + 1) name) (drop (i + 1) text) ≡ names (drop i name) (drop i text)
letter_right name text i h k = sym (names_step name text i h ∙ rw (eq-eqb (to_ascii_uppercase (get_or text i 0)) (get_or name i 0) k))

-- ---- an argument: how long its digits are, and what it gives

pub byte_short : (text : List ℕ) → byte_form text ≡ true → length (drop 2 text) ≤ 2
unfolding byte_form
byte_short text t =
    let (_, rest) = both (ltb (place_of text) 13) (eqb (get_or text 1 0) 61 && digits_fit 16 2 (drop 2 text)) t in
    fit_short 16 2 (drop 2 text) (both (eqb (get_or text 1 0) 61) (digits_fit 16 2 (drop 2 text)) rest).1

pub address_short : (text : List ℕ) → address_form text ≡ true → length (drop 3 text) ≤ 3
unfolding address_form
address_short text t = fit_short 16 3 (drop 3 text) (both (names (ascii "WX") text) (digits_fit 16 3 (drop 3 text)) t).1

pub limit_short : (name text : List ℕ) → limit_form name text ≡ true → length (drop (length name + 1) text) ≤ 7
unfolding limit_form
limit_short name text t = number_short (drop (length name + 1) text) (both (names name text) (number_fits (drop (length name + 1) text)) t).1

pub trap_short : (text : List ℕ) → trap_form text ≡ true → (length (trap_cycle text) ≤ 7) × (length (trap_address text) ≤ 4)
unfolding trap_form
trap_short text t =
    let (_, rest) = both (names (ascii "TRAP") text) (cycle_fits (trap_cycle text) && digits_fit 16 4 (trap_address text)) t in
    let (cycle, address) = both (cycle_fits (trap_cycle text)) (digits_fit 16 4 (trap_address text)) rest in
    (number_short (trap_cycle text) (both (number_fits (trap_cycle text)) (ltb 0 (value_from 10 0 (trap_cycle text))) cycle).0, fit_short 16 4 (trap_address text) address)

module _ (text : List ℕ) where
  pub gives_byte : byte_form text ≡ true → given_of text ≡ Some (G.Register (place_of text) (value_from 16 0 (drop 2 text)))
  unfolding given_of
  gives_byte a = rw a

  pub gives_address : byte_form text ≡ false → address_form text ≡ true → given_of text ≡ Some (G.Register 13 (value_from 16 0 (drop 3 text)))
  unfolding given_of
  gives_address a b = rw (a, b)

  pub gives_from : byte_form text ≡ false → address_form text ≡ false → limit_form (ascii "FROM") text ≡ true → given_of text ≡ Some (G.From (value_from 10 0 (drop 5 text)))
  unfolding given_of
  gives_from a b c = rw (a, b, c)

  pub gives_to : byte_form text ≡ false → address_form text ≡ false → limit_form (ascii "FROM") text ≡ false → limit_form (ascii "TO") text ≡ true → given_of text ≡ Some (G.To (value_from 10 0 (drop 3 text)))
  unfolding given_of
  gives_to a b c d = rw (a, b, c, d)

  pub gives_trap : byte_form text ≡ false → address_form text ≡ false → limit_form (ascii "FROM") text ≡ false → limit_form (ascii "TO") text ≡ false → trap_form text ≡ true → given_of text ≡ Some (G.Trap (value_from 10 0 (trap_cycle text)) (value_from 16 0 (trap_address text)))
  unfolding given_of
  gives_trap a b c d e = rw (a, b, c, d, e)

  pub gives_reading : byte_form text ≡ false → address_form text ≡ false → limit_form (ascii "FROM") text ≡ false → limit_form (ascii "TO") text ≡ false → trap_form text ≡ false → given_of text ≡ reading_given text
  unfolding given_of
  gives_reading a b c d e = rw (a, b, c, d, e)

-- ---- a field

pub length_laid : (n : ℕ) (text : List ℕ) → length (laid n text) ≡ n
length_laid zero text = refl
length_laid (suc k) text = omega (arith, length_laid k text)
