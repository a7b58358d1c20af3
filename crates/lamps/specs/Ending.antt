-- How a run ended, and what came of a trap. Assumes nothing.
use Rattle.std.specs.Prelude.{ℕ, List, [], ◌∷◌, ◌++◌, get_or, Result, Ok, Err}
use Prim.Native.String.{String}
use Rattle.text.specs.Ascii.{ascii}
use Rattle.text.specs.Text.{hexadecimal, decimal}
use Rattle.text.specs.Words.{words_of}
use Rattle.digits.specs.Refusal.{refusal_number, refusal_field}
use Rattle.digits.specs.declared.refusal.Refusal.{Refusal}
use Rattle.machine.specs.declared.State.{State}
use Rattle.trap.specs.Trap.{state_after}
use Rattle.run.specs.declared.Ending.{Ending}
use Rattle.run.specs.declared.Ending.TheVariants as E

-- the fields of a word in their order, each after a space; refusal 10 names one, and the others 0
abbrev pub field_names : List String
field_names =
    "" ∷ " CN" ∷ " PN" ∷ " PA" ∷ " CH" ∷ " CL" ∷ " CM" ∷ " CU" ∷ " CA" ∷ " AA" ∷ " CB" ∷ " CK" ∷ " AK" ∷ " PK" ∷ " PS" ∷ " CD" ∷ " CF" ∷ " CG" ∷ " CV" ∷ " CC" ∷ " CS" ∷ " AS" ∷ " PC" ∷ []

unfoldable pub field_of : ℕ → List ℕ
field_of field = ascii (get_or field_names field "")

-- an ending, and the address of the word at which the run stands
abbrev pub standing : List ℕ → ℕ → List ℕ
standing ending at = ending ++ (hexadecimal 3 at ++ (10 ∷ []))

-- a refusal, its field, where, and in words
abbrev pub place_of : ℕ → List ℕ
place_of at = ascii " AT " ++ (hexadecimal 3 at ++ ascii ": ")

unfoldable pub refused_of : ℕ → ℕ → ℕ → List ℕ
refused_of number field at = ascii "REFUSED " ++ (decimal number ++ (field_of field ++ (place_of at ++ (words_of number ++ (10 ∷ [])))))

unfoldable pub ending_of : Ending → ℕ → List ℕ
ending_of E.Stopped at = standing (ascii "STOPPED AT ") at
ending_of E.Spent at = standing (ascii "SPENT AT ") at
ending_of (E.Refused r) at = refused_of (refusal_number r) (refusal_field r) at

-- a trap that was taken: the address to which, and the one of the word broken into
abbrev pub taken_of : ℕ → ℕ → List ℕ
taken_of to from = ascii "TRAP TO " ++ (hexadecimal 3 to ++ (ascii ", FROM " ++ (hexadecimal 3 from ++ (10 ∷ []))))

-- what came of a trap that broke into the state; a refused one stands where that does after it
unfoldable pub trapped_of : State → Result State Refusal → List ℕ
trapped_of s (Ok t) = taken_of t.wx t.fwx
trapped_of s (Err r) = ascii "TRAP " ++ refused_of (refusal_number r) 0 (state_after s (Err r)).wx
