-- Taking a word apart, and packing it. Assumes nothing.
use Rattle.std.specs.Prelude.{ℕ, ◌^◌, List, [], ◌∷◌, Bool, not, ◌&&◌, ◌||◌, leb, ltb, Option, Result, Ok, Err}
use Rattle.digits.specs.Line.{join, fit}
use Rattle.digits.specs.Refusal.{Check, first, answer}
use Rattle.digits.specs.declared.refusal.Refusal.{Refusal}
use Rattle.digits.specs.declared.refusal.Refusal.TheVariants as R
use Rattle.word.specs.Layout.{widths, line_of, named, line}
use Rattle.word.specs.Parity.{odd_bit, values, pn_covers, pa_covers, ps_covers, pc_covers, pn_wrong, pa_wrong, ps_wrong, pc_wrong, pk_wrong, ca_to_w, k_to_w, is_return}
use Rattle.word.specs.declared.Fields.{Fields}

-- 8: CL = 2 and K to W in one word; "8 now also covers that CU 3 with CL = 2"; 9: PK wrong where it covers something
abbrev pub k_checks : List ℕ → List (Check Refusal)
k_checks l = (R.TwiceToW, ca_to_w (named l) && (k_to_w (named l) || is_return (named l))) ∷ (R.Pk, pk_wrong l) ∷ []

-- 3: one of the top nine bits set; 4, 5, 6, 7: PN, PA, PS, PC wrong; then 8 and 9. l is the word's line
abbrev pub fault_checks : ℕ → ℕ → List ℕ → List (Check Refusal)
fault_checks word address l =
    (R.TopBits, leb (2 ^ 55) word) ∷
    (R.Pn, pn_wrong l) ∷
    (R.Pa, pa_wrong address l) ∷
    (R.Ps, ps_wrong l) ∷
    (R.Pc, pc_wrong l) ∷
    k_checks l

-- how a word is refused at an address, if it is
unfoldable pub fault_of : ℕ → ℕ → Option Refusal
fault_of word address = first (fault_checks word address (line_of word))

-- 20: an address over 4,095
abbrev pub far_address : ℕ → Bool
far_address address = ltb 4095 address

-- "Taking a word apart checks 20, then 3 to 9"
abbrev pub apart_checks : ℕ → ℕ → List ℕ → List (Check Refusal)
apart_checks word address l = (R.Width, far_address address) ∷ fault_checks word address l

abbrev pub judged : ℕ → ℕ → List ℕ → Result Fields Refusal
judged word address l = answer (first (apart_checks word address l)) Err (Ok (named l))

-- ".. and gives the 18 fields other than PN, PA, PS and PC"
unfoldable pub taken_apart : ℕ → ℕ → Result Fields Refusal
taken_apart word address = judged word address (line_of word)

-- 20: a field beyond its width
unfoldable pub in_width : Fields → Bool
in_width f = fit widths (line f 0 0 0 0)

-- "packing takes those 18, checks 20, 8, 9"
abbrev pub pack_checks : Fields → ℕ → List (Check Refusal)
pack_checks f address = (R.Width, far_address address || not (in_width f)) ∷ k_checks (line f 0 0 0 0)

-- the line of the fields with its four parity bits
abbrev pub line_with : Fields → ℕ → List ℕ
line_with f address =
    let pa : ℕ = odd_bit (pa_covers address) in
    line f (odd_bit (values pn_covers (line f 0 0 0 0))) pa (odd_bit (values ps_covers (line f 0 pa 0 0))) (odd_bit (values pc_covers (line f 0 0 0 0)))

-- ".. and works out the four itself"
unfoldable pub packed : Fields → ℕ → Result ℕ Refusal
packed f address = answer (first (pack_checks f address)) Err (Ok (join widths (line_with f address)))
