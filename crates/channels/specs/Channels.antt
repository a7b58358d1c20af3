-- The lamp channels, in the order of the C record: the one list that the record, the board's line, its picture and its walk follow. Assumes nothing.
use Rattle.std.specs.Prelude.{ℕ, List, [], ◌∷◌}
use Rattle.adder.specs.declared.Work.{Work}
use Rattle.machine.specs.declared.State.{State}
use Rattle.channels.specs.Lamps.{Channel, byte_of, pair_of, latch_of, Values, kinds_of, width, load, bytes_of}

-- the state: the heading of a column, the name of a row of lamps, and what is shown
abbrev pub channels : List (Channel State)
channels =
    byte_of "I" "I" (λ s. s.i) ∷
    byte_of "J" "J" (λ s. s.j) ∷
    byte_of "U" "U" (λ s. s.u) ∷
    byte_of "V" "V" (λ s. s.v) ∷
    byte_of "L" "L" (λ s. s.l) ∷
    byte_of "T" "T" (λ s. s.t) ∷
    byte_of "D" "D" (λ s. s.d) ∷
    byte_of "R" "R" (λ s. s.r) ∷
    byte_of "S" "S" (λ s. s.s) ∷
    byte_of "G" "G" (λ s. s.g) ∷
    byte_of "H" "H" (λ s. s.h) ∷
    byte_of "M" "M" (λ s. s.m) ∷
    byte_of "N" "N" (λ s. s.n) ∷
    pair_of "WX" "W" "X" (λ s. s.wx) ∷
    latch_of "AC" "AC" (λ s. s.ac) ∷
    latch_of "1BC" "1BC" (λ s. s.one_bc) ∷
    latch_of "Z0" "Z0" (λ s. s.z0) ∷
    latch_of "AW" "ALLOW" (λ s. s.allow_write) ∷
    latch_of "LS" "LOCAL" (λ s. s.local_selected) ∷
    latch_of "AR" "ARRIVING" (λ s. s.arriving) ∷
    byte_of "AB" "BYTE" (λ s. s.arriving_byte) ∷
    latch_of "DC" "DIGIT-CY" (λ s. s.digit_carry) ∷
    latch_of "INV" "INVALID" (λ s. s.invalid) ∷
    pair_of "FWX" "FW" "FX" (λ s. s.fwx) ∷
    latch_of "OW" "OWED" (λ s. s.owed) ∷
    []

-- the work of a cycle, between the registers and the adder
abbrev pub work_channels : List (Channel Work)
work_channels =
    byte_of "A" "A" (λ w. w.a_chosen) ∷
    byte_of "GA" "GATED-A" (λ w. w.a_gated) ∷
    byte_of "B" "B" (λ w. w.b_chosen) ∷
    byte_of "GB" "GATED-B" (λ w. w.b_gated) ∷
    byte_of "EB" "ENTERS-B" (λ w. w.b_entering) ∷
    latch_of "CI" "CARRY-IN" (λ w. w.carry_in) ∷
    byte_of "BEFORE" "BEFORE" (λ w. w.before) ∷
    byte_of "AFTER" "AFTER" (λ w. w.after) ∷
    []

-- PANEL_STATE: 27
abbrev pub record_length : ℕ
record_length = width (kinds_of channels)

-- the state that the channels show
abbrev pub state_by : Values (kinds_of channels) → State
state_by (i, (j, (u, (v, (l, (t, (d, (r, (s, (g, (h, (m, (n, (wx, (ac, (bc, (z, (allow, (local, (arriving, (arrived, (carry, (invalid, (fwx, (owed, _))))))))))))))))))))))))) =
    record {
      i = i;
      j = j;
      u = u;
      v = v;
      l = l;
      t = t;
      d = d;
      r = r;
      s = s;
      g = g;
      h = h;
      m = m;
      n = n;
      wx = wx;
      ac = ac;
      one_bc = bc;
      z0 = z;
      allow_write = allow;
      local_selected = local;
      arriving = arriving;
      arriving_byte = arrived;
      digit_carry = carry;
      invalid = invalid;
      fwx = fwx;
      owed = owed;
    }

-- "A state is a record of PANEL_STATE bytes, one lamp channel to a byte": the record of a state, and the state of a record
unfoldable pub saved : State → List ℕ
saved s = bytes_of channels s

unfoldable pub loaded : List ℕ → State
loaded bytes = state_by (load (kinds_of channels) 0 bytes)

-- enum panel_work: the record of a cycle's work
unfoldable pub worked : Work → List ℕ
worked w = bytes_of work_channels w
