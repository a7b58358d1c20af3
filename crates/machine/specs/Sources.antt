-- What a word finds: the arriving byte in R, and the adder's two sources. Assumes nothing.
use Rattle.std.specs.Prelude.{ℕ, List, [], ◌∷◌, false, cond, not, ◌&&◌, eqb, get_or}
use Rattle.digits.specs.Bits.{bit}
use Rattle.digits.specs.Digits.{digits}
use Rattle.word.specs.Parity.{ca_to_w}
use Rattle.word.specs.declared.Fields.{Fields}
use Rattle.adder.specs.Adder.{sum_of, work_of}
use Rattle.adder.specs.declared.Controls.{Controls}
use Rattle.adder.specs.declared.Sum.{Sum}
use Rattle.adder.specs.declared.Work.{Work}
use Rattle.machine.specs.declared.State.{State}

-- "a. An arriving byte enters R, unless CM is Store; then it is dropped. Either way nothing is arriving any more."
unfoldable pub entered : Fields → State → State
entered f s =
    record {
      i = s.i;
      j = s.j;
      u = s.u;
      v = s.v;
      l = s.l;
      t = s.t;
      d = s.d;
      r = cond (s.arriving && not (eqb f.cm 2)) s.arriving_byte s.r;
      s = s.s;
      g = s.g;
      h = s.h;
      m = s.m;
      n = s.n;
      wx = s.wx;
      ac = s.ac;
      one_bc = s.one_bc;
      z0 = s.z0;
      allow_write = s.allow_write;
      local_selected = s.local_selected;
      arriving = false;
      arriving_byte = 0;
      digit_carry = s.digit_carry;
      invalid = s.invalid;
      fwx = s.fwx;
      owed = s.owed;
    }

-- "A by CA: 4 S, 5 H, 7 R, 8 D, 9 L, 10 G, 11 T, 12 V, 13 U, 14 J, 15 I"
abbrev pub a_sources : State → List ℕ
a_sources s =
    0 ∷  -- 0
    0 ∷  -- 1
    0 ∷  -- 2
    0 ∷  -- 3
    s.s ∷  -- 4
    s.h ∷  -- 5
    0 ∷  -- 6
    s.r ∷  -- 7
    s.d ∷  -- 8
    s.l ∷  -- 9
    s.g ∷  -- 10
    s.t ∷  -- 11
    s.v ∷  -- 12
    s.u ∷  -- 13
    s.j ∷  -- 14
    s.i ∷  -- 15
    []

-- "where CL = 2, A is zero"
abbrev pub a_source : Fields → State → ℕ
a_source f s = cond (ca_to_w f) 0 (get_or (a_sources s) f.ca 0)

-- "B by CB: 0 R, 1 L, 2 D, 3 CK twice"
abbrev pub b_sources : Fields → State → List ℕ
b_sources f s =
    s.r ∷  -- 0
    s.l ∷  -- 1
    s.d ∷  -- 2
    digits f.ck f.ck ∷  -- 3
    []

abbrev pub b_source : Fields → State → ℕ
b_source f s = get_or (b_sources f s) f.cb 0

abbrev pub controls_of : Fields → State → Controls
controls_of f s = record { cf = f.cf; cg = f.cg; cv = f.cv; cc = f.cc; s0 = bit s.s 0; s3 = bit s.s 3 }

-- "c. Arithmetic", of the state that has the arriving byte in R
unfoldable pub sum_in : Fields → State → Sum
sum_in f s = sum_of (a_source f s) (b_source f s) (controls_of f s)

-- what the adder does on the way to that sum
unfoldable pub work_in : Fields → State → Work
work_in f s = work_of (a_source f s) (b_source f s) (controls_of f s)
