-- Loading and saving are inverse, once over any list of channels. Assumes nothing.
use Prim.Native.Nat.{ℕ, zero, suc, ◌+◌, ◌/◌, ◌%◌, ◌<◌, ◌≤◌}
use mathlib.Core.Path.{◌≡◌, refl, ap, ◌∙◌}
use mathlib.Core.List.{List, [], ◌∷◌, ◌++◌, append_assoc}
use mathlib.Core.Bool.{Bool, true, false, not}
use native.Mathlib.Nat.{add-zero}
use native.Mathlib.Numerals.{add-one}
use native.Mathlib.Omega.{arith}
use lib.Dec.{eqb}
use lib.ListN.{length, get_or, drop}
use lib.Seq.{drop-cons}
use lib.Pow.{split, high, low}
use Rattle.digits.specs.Bits.{one}
use Rattle.digits.proofs.Truth.{zero_one}
use Rattle.digits.specs.Lent.{over}
use Rattle.machine.specs.declared.State.{State}
use Rattle.channels.specs.Lamps.{Kind, byte, pair, latch, Value, Values, size, width, lamp_bytes, value_at, save, load, kinds_of, values_of}
use Rattle.channels.specs.Channels.{channels, record_length, state_by, saved, loaded}

-- ---- what was saved is loaded again

-- one byte of what stands from a place on
next_byte : (l : List ℕ) (i x : ℕ) (rest : List ℕ) → drop i l ≡ x ∷ rest → (get_or l i 0 ≡ x) × (drop (i + 1) l ≡ rest)
next_byte [] zero x rest e = absurd (zero_one cc)
next_byte [] (suc i) x rest e = absurd (zero_one cc)
next_byte (y ∷ l) zero x rest e = (cc, cc)
next_byte (y ∷ l) (suc i) x rest e =
    let (a, b) = next_byte l i x rest e in
    (a, rw add-one (rw add-one at b))

latch_back : (on : Bool) → not (eqb (one on) 0) ≡ on
latch_back true = refl
latch_back false = refl

-- one channel at its place
one_loaded : (c : Kind) (v : Value c) (l : List ℕ) (i : ℕ) (rest : List ℕ) → drop i l ≡ lamp_bytes c v ++ rest → (value_at c i l ≡ v) × (drop (i + size c) l ≡ rest)
one_loaded byte v l i rest e = next_byte l i v rest e
one_loaded pair v l i rest e =
    let (a, d) = next_byte l i (v / 256) (v % 256 ∷ rest) e in
    let (b, t) = next_byte l (i + 1) (v % 256) rest d in
    let two : i + 2 ≡ i + 1 + 1 = omega arith in
    (rw (a, b) (split v 8), rw two t)
one_loaded latch v l i rest e =
    let (a, d) = next_byte l i (one v) rest e in
    (rw a (latch_back v), d)

-- all of them
pub load_saved : (cs : List Kind) (vs : Values cs) (l : List ℕ) (i : ℕ) (rest : List ℕ) → drop i l ≡ save cs vs ++ rest → load cs i l ≡ vs
load_saved [] vs l i rest e = refl
load_saved (c ∷ cs) (v, vs) l i rest e =
    let (a, d) = one_loaded c v l i (save cs vs ++ rest) (e ∙ append_assoc (lamp_bytes c v) (save cs vs) rest) in
    let b = load_saved cs vs l (i + size c) rest d in
    λ j. (a j, b j)

-- ---- what was loaded is saved again, where a latch byte is 0 or 1

abbrev pub Clean : Kind → ℕ → List ℕ → Type 0
Clean byte i l = Unit {0}
Clean pair i l = get_or l (i + 1) 0 < 256
Clean latch i l = get_or l i 0 < 2

abbrev pub AllClean : List Kind → ℕ → List ℕ → Type 0
AllClean [] i l = Unit {0}
AllClean (c ∷ cs) i l = Clean c i l × AllClean cs (i + size c) l

byte_back : (l : List ℕ) (i : ℕ) → i < length l → get_or l i 0 ∷ drop (i + 1) l ≡ drop i l
byte_back l i h = rw (add-one, drop-cons l i 0 h)

bit_back : (b : ℕ) → b < 2 → one (not (eqb b 0)) ≡ b
bit_back zero h = refl
bit_back (suc zero) h = refl
bit_back (suc (suc b)) h = absurd (omega arith)

one_saved : (c : Kind) (l : List ℕ) (i : ℕ) → i + size c ≤ length l → Clean c i l → lamp_bytes c (value_at c i l) ++ drop (i + size c) l ≡ drop i l
one_saved byte l i h k = byte_back l i (omega arith)
one_saved pair l i h k =
    let two : i + 2 ≡ i + 1 + 1 = omega arith in
    rw (high (get_or l i 0) 8 k, low (get_or l i 0) 8 k, two)
    (ap (λ (t : List ℕ). get_or l i 0 ∷ t) (byte_back l (i + 1) (omega arith)) ∙ byte_back l i (omega arith))
one_saved latch l i h k = rw (bit_back (get_or l i 0) k) (byte_back l i (omega arith))

pub save_loaded : (cs : List Kind) (l : List ℕ) (i : ℕ) → i + width cs ≤ length l → AllClean cs i l → save cs (load cs i l) ++ drop (i + width cs) l ≡ drop i l
save_loaded [] l i h k = rw add-zero
save_loaded (c ∷ cs) l i h (k, ks) =
    let v : Value c = value_at c i l in
    let along : i + (size c + width cs) ≡ i + size c + width cs = omega arith in
    append_assoc (lamp_bytes c v) (save cs (load cs (i + size c) l)) (drop (i + (size c + width cs)) l)
    ∙ ap (λ (n : ℕ). lamp_bytes c v ++ (save cs (load cs (i + size c) l) ++ drop n l)) along
    ∙ ap (λ (t : List ℕ). lamp_bytes c v ++ t) (save_loaded cs l (i + size c) (omega arith) ks)
    ∙ one_saved c l i (omega arith) k

-- ---- the state's record

-- loading what was saved gives the state back
pub state_back : (s : State) (old : List ℕ) → loaded (over (saved s) old) ≡ s
unfolding saved loaded
state_back s old = ap state_by (load_saved (kinds_of channels) (values_of channels s) (over (saved s) old) 0 (drop record_length old) refl)

-- saving what was loaded gives the bytes back, where latch bytes are 0 or 1
pub record_back : (bytes : List ℕ) → record_length ≤ length bytes → AllClean (kinds_of channels) 0 bytes → over (saved (loaded bytes)) bytes ≡ bytes
unfolding saved loaded
record_back bytes h k = save_loaded (kinds_of channels) bytes 0 h k
