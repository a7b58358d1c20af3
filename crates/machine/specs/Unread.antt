-- "No branch reads them.": document 02, request 5. Assumes nothing.
use Rattle.std.specs.Prelude.{ℕ, ◌≡◌, List, Bool}
use Rattle.codes.specs.declared.Reading.{Reading}
use Rattle.storage.specs.declared.Fence.{Fence}
use Rattle.machine.specs.Cycle.{Outcome, outcome, cycle_in}
use Rattle.machine.specs.declared.State.{State}
use Rattle.machine.specs.declared.Cycled.{Cycled}
use Rattle.machine.specs.declared.Cycled.TheVariants.{Ran, Stopped, Refused}

-- the state with these two lamps, all else as it is
abbrev pub with_lamps : Bool → Bool → State → State
with_lamps carry invalid s =
    record {
      i = s.i;
      j = s.j;
      u = s.u;
      v = s.v;
      l = s.l;
      t = s.t;
      d = s.d;
      r = s.r;
      s = s.s;
      g = s.g;
      h = s.h;
      m = s.m;
      n = s.n;
      wx = s.wx;
      ac = s.ac;
      one_bc = s.one_bc;
      z0 = s.z0;
      allow_write = s.allow_write;
      local_selected = s.local_selected;
      arriving = s.arriving;
      arriving_byte = s.arriving_byte;
      digit_carry = carry;
      invalid = invalid;
      fwx = s.fwx;
      owed = s.owed;
    }

-- a cycle that ran set both lamps; a stop and a refusal left them
abbrev pub answer_with : Bool → Bool → Cycled → Cycled
answer_with carry invalid (Ran t) = Ran t
answer_with carry invalid (Stopped t) = Stopped (with_lamps carry invalid t)
answer_with carry invalid (Refused t refusal) = Refused (with_lamps carry invalid t) refusal

-- what a cycle does is the same whatever these two lamps show before it
abbrev pub CycleUnread : Type 0
CycleUnread =
    (fence : Fence) (reading : Reading) (store main local : List ℕ) (s : State) (carry invalid : Bool) (o : Outcome Cycled)
    → o ≡ cycle_in fence reading store main local s
    → outcome (answer_with carry invalid o.answer) o.main o.local ≡ cycle_in fence reading store main local (with_lamps carry invalid s)
