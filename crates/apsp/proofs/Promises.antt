-- That no second answer fits; and the worked examples. Assumes nothing.
use Prim.Native.Nat.{ℕ}
use mathlib.Core.Path.{◌≡◌, refl}
use mathlib.Core.List.{List, [], ◌∷◌}
use mathlib.Core.Bool.{Bool, true, false}
use lib.Count.{ones}
use lib.IntN.{ℤ, pos, negsuc}
use Rattle.digits.proofs.Sole.{sole}
use Rattle.word.specs.Word.{packed, in_width}
use Rattle.codes.specs.Seven.{uses_none}
use Rattle.machine.specs.Cycle.{outcome}
use Rattle.machine.specs.declared.State.{State}
use Rattle.decimal.specs.declared.Added.{Added}
use Rattle.apsp.specs.Numbers.{exact, overflows, field_of}
use Rattle.apsp.specs.Program.{signed_words}
use Rattle.apsp.specs.Promise.{signed_cycles}
use Rattle.apsp.proofs.words.Reads as words
use Rattle.apsp.proofs.start.Reads as start
use Rattle.apsp.proofs.add.Reads as add

-- ---- no second answer fits, nor a second storage

pub words_sole : (κs : _) (args : _) (r q : List ℕ) (x y : _) → words.Post κs args r x → words.Post κs args q y → r ≡ q
words_sole κs args r q x y a b = sole a b

pub start_sole : (κs : _) (args : _) (r q : State) (x y : _) → start.Post κs args r x → start.Post κs args q y → r ≡ q
start_sole κs args r q x y a b = sole a b

pub add_sole : (κs : _) (args : _) (r q : Added) (x y : _) → add.Post κs args r x → add.Post κs args q y → outcome r x.0.now x.1.0.now ≡ outcome q y.0.now y.1.0.now
add_sole κs args r q x y a b = sole a.0 b.0

-- ---- worked: the true result, whether it overflows, the field that is left, and the cycles

pub record Worked : Type 0 where
  pub true_result : ℤ
  pub over : Bool
  pub left : List ℕ
  pub cycles : ℕ

abbrev worked : ℤ → Bool → List ℕ → ℕ → Worked
worked z over left cycles = record { true_result = z; over = over; left = left; cycles = cycles }

-- of two fields of n bytes, one after the other
abbrev works : ℕ → List ℕ → Bool → Worked
works n main subtract = let z : ℤ = exact main 0 n n subtract in worked z (overflows n z) (field_of n z) (signed_cycles main 0 n n subtract)

-- document 001's 138 + 117 and 190 - 200; and of one byte -5 + -5, -0 + -0, -5 - -5, 5 + -9 with F for plus and B for minus
pub worked_examples :
    works 2 (0x13 ∷ 0x8C ∷ 0x11 ∷ 0x7C ∷ []) false
    ∷ works 2 (0x19 ∷ 0x0C ∷ 0x20 ∷ 0x0C ∷ []) true
    ∷ works 1 (0x5D ∷ 0x5D ∷ []) false
    ∷ works 1 (0x0D ∷ 0x0D ∷ []) false
    ∷ works 1 (0x5D ∷ 0x5D ∷ []) true
    ∷ works 1 (0x5F ∷ 0x9B ∷ []) false
    ∷ []
    ≡ worked (pos 255) false (0x25 ∷ 0x5C ∷ []) 44
    ∷ worked (negsuc 9) false (0x01 ∷ 0x0D ∷ []) 71
    ∷ worked (negsuc 9) true (0x0D ∷ []) 30
    ∷ worked (pos 0) false (0x0C ∷ []) 30
    ∷ worked (pos 0) false (0x0C ∷ []) 30
    ∷ worked (negsuc 3) false (0x4D ∷ []) 48
    ∷ []
worked_examples = refl

-- ---- the words of AP and SP use none of the seven codes of request 7 either

pub signed_uses_none : uses_none signed_words ≡ true
unfolding packed in_width ones signed_words
signed_uses_none = refl
