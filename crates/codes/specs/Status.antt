-- "Status CS". Assumes nothing.
use Rattle.std.specs.Prelude.{ℕ, List, [], ◌∷◌, Bool, true, false, cond, eqb}
use Rattle.digits.specs.Bits.{with_bit}
use Rattle.digits.specs.Digits.{high, low}
use Rattle.codes.specs.Reading.{by}
use Rattle.codes.specs.declared.Reading.{Reading}

-- "Status CS: 0 none; 1 S5 on if the result's low digit is 0, else off; 2 S4 likewise by the high digit; 3 both; 4 S4 and S5 off; 6, 7 S0
-- off, on; 8 S2 off; 9 S2 on if the result is not 0, else unchanged; 10, 11 S6 off, on; 12, 13 S7 off, on."
-- in compatibility "CS 5 turns S1 on, CS 15 turns S1 off"
abbrev pub statuses : Reading → ℕ → ℕ → List ℕ
statuses reading result s =
    let s5 : Bool = eqb (low result) 0 in
    let s4 : Bool = eqb (high result) 0 in
    s ∷  -- 0
    with_bit s 5 s5 ∷  -- 1
    with_bit s 4 s4 ∷  -- 2
    with_bit (with_bit s 4 s4) 5 s5 ∷  -- 3
    with_bit (with_bit s 4 false) 5 false ∷  -- 4
    by reading s (with_bit s 1 true) ∷  -- 5
    with_bit s 0 false ∷  -- 6
    with_bit s 0 true ∷  -- 7
    with_bit s 2 false ∷  -- 8
    cond (eqb result 0) s (with_bit s 2 true) ∷  -- 9
    with_bit s 6 false ∷  -- 10
    with_bit s 6 true ∷  -- 11
    with_bit s 7 false ∷  -- 12
    with_bit s 7 true ∷  -- 13
    s ∷  -- 14
    by reading s (with_bit s 1 false) ∷  -- 15
    []
