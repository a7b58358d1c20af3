-- "Next address." Assumes nothing.
use Rattle.std.specs.Prelude.{ℕ, ◌+◌, ◌*◌, ◌/◌, false, cond, get_or}
use Rattle.digits.specs.Bits.{one}
use Rattle.word.specs.Parity.{ca_to_w, k_to_w, is_return}
use Rattle.word.specs.declared.Fields.{Fields}
use Rattle.codes.specs.Branches.{high_branches, low_branches}
use Rattle.codes.specs.declared.Reading.{Reading}
use Rattle.codes.specs.declared.Tested.{Tested}
use Rattle.machine.specs.declared.State.{State}

-- what a branch may test of a state
abbrev pub tested_of : State → Tested
tested_of s = record { r = s.r; v = s.v; s = s.s; g = s.g; ac = s.ac; one_bc = s.one_bc; z0 = s.z0 }

-- "W stays unless changed": "2 one with W = CA"; "With CM 0 to 2 .. CU 2 sends CK to W"
abbrev pub w_of : Fields → ℕ → ℕ
w_of f wx = cond (ca_to_w f) f.ca (cond (k_to_w f) f.ck (wx / 256))

-- "X0..X5 = CN", X6, X7
abbrev pub x_of : Reading → Fields → State → ℕ
x_of reading f s =
    let t : Tested = tested_of s in
    f.cn * 4 + one (get_or (high_branches reading t) f.ch false) * 2 + one (get_or (low_branches reading t) f.cl false)

-- the address of the next word, from the state that has the arriving byte in R; its AC, 1BC and Z0 are the previous cycle's. "CU 3 with
-- CM 0 to 2" restores FWX "as the next WX, over anything CN, CH and CL say"
unfoldable pub next_of : Reading → Fields → State → ℕ
next_of reading f s = cond (is_return f) s.fwx (w_of f s.wx * 256 + x_of reading f s)
