-- "a store that uses none of these seven codes must run the same under both": document 02, request 7. Assumes nothing.
use Rattle.std.specs.Prelude.{ℕ, ◌≡◌, List, [], ◌∷◌, true, false, replicate}
use Rattle.digits.specs.Table.{Each}
use Rattle.word.specs.Layout.{fields_of}
use Rattle.word.specs.declared.Fields.{Fields}
use Rattle.codes.specs.Seven.{uses_none}
use Rattle.codes.specs.declared.Reading.TheVariants.{Basic, Compatibility}
use Rattle.storage.specs.declared.Fence.{Fence}
use Rattle.machine.specs.Cycle.{cycle_in, cycle_of}
use Rattle.machine.specs.declared.State.{State}

-- one cycle, from any state over any storages: its answer, its refusal with 10's field, and what it leaves
abbrev pub CycleAlike : Type 0
CycleAlike =
    (fence : Fence) (store main local : List ℕ) (s : State)
    → uses_none store ≡ true
    → cycle_in fence Basic store main local s ≡ cycle_in fence Compatibility store main local s

-- the state at WX 0 with these in R and S, all else 0 or off
abbrev pub showing : ℕ → ℕ → State
showing r status =
    record {
      i = 0;
      j = 0;
      u = 0;
      v = 0;
      l = 0;
      t = 0;
      d = 0;
      r = r;
      s = status;
      g = 0;
      h = 0;
      m = 0;
      n = 0;
      wx = 0;
      ac = false;
      one_bc = false;
      z0 = false;
      allow_write = false;
      local_selected = false;
      arriving = false;
      arriving_byte = 0;
      digit_carry = false;
      invalid = false;
      fwx = 0;
      owed = false;
    }

-- a word by one of its codes, and a state
pub record Telling : Type 0 where
  pub field : Fields → ℕ
  pub code : ℕ
  pub word : ℕ
  pub state : State

abbrev pub telling : (Fields → ℕ) → ℕ → ℕ → State → Telling
telling field code word state = record { field = field; code = code; word = word; state = state }

-- the seven codes
abbrev pub seven : List Telling
seven =
    -- S1 is on, R2 off
    telling (λ f. f.ch) 8 0x01C01100100001 (showing 0 0x40) ∷
    telling (λ f. f.cl) 4 0x01821100100001 (showing 0 0) ∷
    -- 1BC is off, R1 on
    telling (λ f. f.cl) 6 0x01831100000001 (showing 0x40 0) ∷
    telling (λ f. f.cl) 12 0x01861100000001 (showing 0 0) ∷
    telling (λ f. f.cs) 5 0x01801100000015 (showing 0 0) ∷
    telling (λ f. f.cs) 15 0x0180110000003D (showing 0 0) ∷
    telling (λ f. f.ch) 3 0x01981100000001 (showing 0 0) ∷
    []

-- each tells the readings apart: the word has the code, and the two answers differ
abbrev pub TellApart : Type 0
TellApart =
    Each
    (λ (c : Telling). (c.field (fields_of c.word) ≡ c.code)
    × ((cycle_of Basic (c.word ∷ []) (0 ∷ []) (replicate 256 0) c.state).answer ≡ (cycle_of Compatibility (c.word ∷ []) (0 ∷ []) (replicate 256 0) c.state).answer → ⊥))
    seven
