-- What lamps show, and the bytes that feed them. Assumes nothing.
use Rattle.std.specs.Prelude.{ℕ, ◌+◌, ◌*◌, ◌/◌, ◌%◌, List, [], ◌∷◌, ◌++◌, Bool, not, eqb, get_or}
use Prim.Native.String.{String}
use Rattle.digits.specs.Bits.{one}

-- a byte, a number of two bytes, a latch
pub data Kind : Type 0 where
  byte : Kind
  pair : Kind
  latch : Kind

abbrev pub Value : Kind → Type 0
Value byte = ℕ
Value pair = ℕ
Value latch = Bool

abbrev pub Values : List Kind → Type 0
Values [] = Unit {0}
Values (k ∷ ks) = Value k × Values ks

-- how many bytes they are
abbrev pub size : Kind → ℕ
size byte = 1
size pair = 2
size latch = 1

-- and how many bytes some are together
abbrev pub width : List Kind → ℕ
width [] = 0
width (k ∷ ks) = size k + width ks

-- the bytes of a value: "high byte first"; a latch's is 0 or 1
abbrev pub lamp_bytes : (k : Kind) → Value k → List ℕ
lamp_bytes byte x = x ∷ []
lamp_bytes pair x = x / 256 ∷ x % 256 ∷ []
lamp_bytes latch on = one on ∷ []

-- the value at a place: "A latch byte is off at 0 and on at any other value"
abbrev pub value_at : (k : Kind) → ℕ → List ℕ → Value k
value_at byte i bytes = get_or bytes i 0
value_at pair i bytes = get_or bytes i 0 * 256 + get_or bytes (i + 1) 0
value_at latch i bytes = not (eqb (get_or bytes i 0) 0)

-- the bytes of the values one after the other, and the values from a place on
abbrev pub save : (ks : List Kind) → Values ks → List ℕ
save [] vs = []
save (k ∷ ks) (v, vs) = lamp_bytes k v ++ save ks vs

abbrev pub load : (ks : List Kind) → ℕ → List ℕ → Values ks
load [] i bytes = tt
load (k ∷ ks) i bytes = (value_at k i bytes, load ks (i + size k) bytes)

-- a channel that shows something of an X: the heading of its column, the name of each row of its lamps, and its value
pub record Channel (X : Type 0) : Type 0 where
  pub column : String
  pub rows : List String
  pub kind : Kind
  pub value : X → Value kind

abbrev pub byte_of : {X : Type 0} → String → String → (X → ℕ) → Channel X
byte_of column row value = record { column = column; rows = row ∷ []; kind = byte; value = value }

abbrev pub pair_of : {X : Type 0} → String → String → String → (X → ℕ) → Channel X
pair_of column high low value = record { column = column; rows = high ∷ low ∷ []; kind = pair; value = value }

abbrev pub latch_of : {X : Type 0} → String → String → (X → Bool) → Channel X
latch_of column row value = record { column = column; rows = row ∷ []; kind = latch; value = value }

abbrev pub kinds_of : {X : Type 0} → List (Channel X) → List Kind
kinds_of [] = []
kinds_of (c ∷ cs) = c.kind ∷ kinds_of cs

-- what some channels show of an X, and the bytes that feed their lamps
abbrev pub values_of : {X : Type 0} → (cs : List (Channel X)) → X → Values (kinds_of cs)
values_of [] x = tt
values_of (c ∷ cs) x = (c.value x, values_of cs x)

abbrev pub bytes_of : {X : Type 0} → List (Channel X) → X → List ℕ
bytes_of cs x = save (kinds_of cs) (values_of cs x)
