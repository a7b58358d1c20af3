-- "X6 by CH", "X7 by CL". Assumes nothing.
use Rattle.std.specs.Prelude.{List, [], ◌∷◌, Bool, true, false, not, ◌&&◌}
use Rattle.digits.specs.Bits.{bit}
use Rattle.digits.specs.Digits.{both_decimal}
use Rattle.codes.specs.Reading.{by}
use Rattle.codes.specs.declared.Reading.{Reading}
use Rattle.codes.specs.declared.Tested.{Tested}

-- "X6 by CH: 0 zero, 1 one, 2 R0, 3 V6 and V7 both 0, 6 AC, 7 S0, 8 S1, 9 S2, 10 S4, 11 S6, 12 G0, 13 G2, 14 G4, 15 G6"
-- in compatibility "CH 8 is R2", "CH 3 is not modelled"
abbrev pub high_branches : Reading → Tested → List Bool
high_branches reading t =
    false ∷  -- 0
    true ∷  -- 1
    bit t.r 0 ∷  -- 2
    by reading (not (bit t.v 6) && not (bit t.v 7)) false ∷  -- 3
    false ∷  -- 4
    false ∷  -- 5
    t.ac ∷  -- 6
    bit t.s 0 ∷  -- 7
    by reading (bit t.s 1) (bit t.r 2) ∷  -- 8
    bit t.s 2 ∷  -- 9
    bit t.s 4 ∷  -- 10
    bit t.s 6 ∷  -- 11
    bit t.g 0 ∷  -- 12
    bit t.g 2 ∷  -- 13
    bit t.g 4 ∷  -- 14
    bit t.g 6 ∷  -- 15
    []

-- "X7 by CL: 0 zero, 1 one, 2 one with W = CA, 5 both digits of R at most 9, 6 1BC, 7 Z0, 8 G7, 9 S3, 10 S5, 11 S7, 13 G3, 14 G5"
-- in compatibility "CL 4 is G1, CL 6 is R1, CL 12 is R3"
abbrev pub low_branches : Reading → Tested → List Bool
low_branches reading t =
    false ∷  -- 0
    true ∷  -- 1
    true ∷  -- 2
    false ∷  -- 3
    by reading false (bit t.g 1) ∷  -- 4
    both_decimal t.r ∷  -- 5
    by reading t.one_bc (bit t.r 1) ∷  -- 6
    t.z0 ∷  -- 7
    bit t.g 7 ∷  -- 8
    bit t.s 3 ∷  -- 9
    bit t.s 5 ∷  -- 10
    bit t.s 7 ∷  -- 11
    by reading false (bit t.r 3) ∷  -- 12
    bit t.g 3 ∷  -- 13
    bit t.g 5 ∷  -- 14
    false ∷  -- 15
    []
