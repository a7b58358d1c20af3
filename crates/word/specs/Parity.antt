-- "Parity is odd: the named bits and the parity bit together have an odd number of ones." Assumes nothing.
use Rattle.std.specs.Prelude.{ℕ, ◌-◌, ◌%◌, ◌^◌, List, [], ◌∷◌, map, ◌++◌, Bool, ◌&&◌, ◌||◌, eqb, ltb}
use Rattle.digits.specs.Line.{ones_of}
use Rattle.word.specs.Layout.{field, named, CN, PN, PA, CH, CL, CM, CU, CA, AA, CB, CK, PK, PS, CD, CF, CG, CV, CC, CS, AS, PC}
use Rattle.word.specs.declared.Fields.{Fields}

-- an even number of ones is wrong
abbrev pub wrong : List ℕ → Bool
wrong values = eqb (ones_of values % 2) 0

-- the bit that makes the number of ones odd
abbrev pub odd_bit : List ℕ → ℕ
odd_bit values = 1 - ones_of values % 2

-- the values at some places of a line
abbrev pub values : List ℕ → List ℕ → List ℕ
values places line = map (field line) places

-- "PN covers CN."
abbrev pub pn_covers : List ℕ
pn_covers = CN ∷ []

-- "PS covers PA, CH, CL, CM, CU, CA, CB, CK, PK."
abbrev pub ps_covers : List ℕ
ps_covers = PA ∷ CH ∷ CL ∷ CM ∷ CU ∷ CA ∷ CB ∷ CK ∷ PK ∷ []

-- "PC covers CD, CF, CG, CV, CC, CS, AS."
abbrev pub pc_covers : List ℕ
pc_covers = CD ∷ CF ∷ CG ∷ CV ∷ CC ∷ CS ∷ AS ∷ []

-- the values that a parity bit covers, and the bit itself
abbrev pub covered : List ℕ → ℕ → List ℕ → List ℕ
covered places parity line = values places line ++ (field line parity ∷ [])

abbrev pub pn_wrong : List ℕ → Bool
pn_wrong l = wrong (covered pn_covers PN l)

-- "PA covers the word's own 12-bit address."
abbrev pub pa_covers : ℕ → List ℕ
pa_covers address = address % 2 ^ 12 ∷ []

abbrev pub pa_wrong : ℕ → List ℕ → Bool
pa_wrong address l = wrong (pa_covers address ++ (field l PA ∷ []))

abbrev pub ps_wrong : List ℕ → Bool
ps_wrong l = wrong (covered ps_covers PS l)

abbrev pub pc_wrong : List ℕ → Bool
pc_wrong l = wrong (covered pc_covers PC l)

-- "where CL = 2": CA is a module number, for W
abbrev pub ca_to_w : Fields → Bool
ca_to_w f = eqb f.cl 2

-- "the word sends K to W": "With CM 0 to 2 .. CU 2 sends CK to W."
abbrev pub k_to_w : Fields → Bool
k_to_w f = ltb f.cm 3 && eqb f.cu 2

-- the return word: "CU 3 with CM 0 to 2"
abbrev pub is_return : Fields → Bool
is_return f = ltb f.cm 3 && eqb f.cu 3

-- "PK covers CA and AA where CL = 2, and CK where the word sends K to W; elsewhere PK is free."
abbrev pub pk_wrong : List ℕ → Bool
pk_wrong l = ca_to_w (named l) && wrong (covered (CA ∷ AA ∷ []) PK l) || k_to_w (named l) && wrong (covered (CK ∷ []) PK l)
