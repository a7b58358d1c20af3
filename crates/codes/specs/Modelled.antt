-- "Codes not listed above are not modelled, nor are AA, AK or AS = 1." Assumes nothing.
use Rattle.std.specs.Prelude.{ℕ, List, [], ◌∷◌, map, Bool, true, not, ◌&&◌, leb, ltb, Option}
use Rattle.digits.specs.Refusal.{Check, first}
use Rattle.digits.specs.Table.{among}
use Rattle.word.specs.Layout.{CH, CL, CM, CU, CA, AA, AK, CD, CS, AS}
use Rattle.word.specs.Parity.{ca_to_w}
use Rattle.word.specs.declared.Fields.{Fields}
use Rattle.codes.specs.Reading.{is_basic}
use Rattle.codes.specs.declared.Reading.{Reading}

-- a field by its place in the word, whether the row speaks of this word under the reading, the field's code, and the codes not modelled
pub record CodeRow : Type 0 where
  pub place : ℕ
  pub applies : Bool
  pub code : ℕ
  pub codes : List ℕ

abbrev pub code_row : ℕ → Bool → ℕ → List ℕ → CodeRow
code_row place applies code codes = record { place = place; applies = applies; code = code; codes = codes }

-- the codes that are not modelled, in word order: "10 follows the reading's own list"
abbrev pub code_rows : Reading → Fields → List CodeRow
code_rows reading f =
    code_row CH true f.ch (4 ∷ 5 ∷ []) ∷
    -- compatibility: "CH 3 is not modelled there, since the figure is unclear."
    code_row CH (not (is_basic reading)) f.ch (3 ∷ []) ∷
    code_row CL true f.cl (3 ∷ 15 ∷ []) ∷
    -- basic: in compatibility they are G1 and R3
    code_row CL (is_basic reading) f.cl (4 ∷ 12 ∷ []) ∷
    code_row CM true f.cm (6 ∷ 7 ∷ []) ∷
    -- Write, none, Store: only CU 0, 2 and 3, which is the return
    code_row CU (ltb f.cm 3) f.cu (1 ∷ []) ∷
    -- a read: only CU 0, 1 and 3
    code_row CU (leb 3 f.cm) f.cu (2 ∷ []) ∷
    -- "Where CL = 2, CA is a module number and every value of it is modelled."
    code_row CA (not (ca_to_w f)) f.ca (0 ∷ 1 ∷ 2 ∷ 3 ∷ 6 ∷ []) ∷
    code_row AA true f.aa (1 ∷ []) ∷
    code_row AK true f.ak (1 ∷ []) ∷
    code_row CD true f.cd (1 ∷ 2 ∷ 3 ∷ 4 ∷ []) ∷
    code_row CS true f.cs (14 ∷ []) ∷
    -- basic: in compatibility they turn S1 on and off
    code_row CS (is_basic reading) f.cs (5 ∷ 15 ∷ []) ∷
    code_row AS true f.asb (1 ∷ []) ∷
    []

abbrev pub row_check : CodeRow → Check ℕ
row_check r = (r.place, r.applies && among r.code r.codes)

-- 10 "names the first field in word order": its place; none where all are modelled
unfoldable pub unmodelled_of : Reading → Fields → Option ℕ
unmodelled_of reading f = first (map row_check (code_rows reading f))
