-- "Trap and return.": document 02, request 10. The call between cycles. Assumes nothing.
use Rattle.std.specs.Prelude.{ℕ, List, [], ◌∷◌, Bool, true, Result, Ok, Err}
use Rattle.digits.specs.Refusal.{Check, first, answer}
use Rattle.digits.specs.declared.refusal.Refusal.{Refusal}
use Rattle.digits.specs.declared.refusal.Refusal.TheVariants as R
use Rattle.word.specs.Word.{far_address}
use Rattle.machine.specs.declared.State.{State}

-- the state with these in WX, FWX and the latch, all else as it is
abbrev pub standing_at : ℕ → ℕ → Bool → State → State
standing_at wx fwx owed s =
    record {
      i = s.i;
      j = s.j;
      u = s.u;
      v = s.v;
      l = s.l;
      t = s.t;
      d = s.d;
      r = s.r;
      s = s.s;
      g = s.g;
      h = s.h;
      m = s.m;
      n = s.n;
      wx = wx;
      ac = s.ac;
      one_bc = s.one_bc;
      z0 = s.z0;
      allow_write = s.allow_write;
      local_selected = s.local_selected;
      arriving = s.arriving;
      arriving_byte = s.arriving_byte;
      digit_carry = s.digit_carry;
      invalid = s.invalid;
      fwx = fwx;
      owed = owed;
    }

-- "29 trap while one is open, then 30 trap address over 4,095"
abbrev pub trap_checks : ℕ → State → List (Check Refusal)
trap_checks address s = (R.Owed, s.owed) ∷ (R.TrapAddress, far_address address) ∷ []

-- "saves WX there and sets WX to a given address"
unfoldable pub trap_of : ℕ → State → Result State Refusal
trap_of address s = answer (first (trap_checks address s)) Err (Ok (standing_at address s.wx true s))

-- the state after it, where it was s before; "neither changing anything"
abbrev pub state_after : State → Result State Refusal → State
state_after s (Ok t) = t
state_after s (Err refusal) = s
