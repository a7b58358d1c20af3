-- The refusals in words. Assumes nothing.
use Rattle.std.specs.Prelude.{ℕ, List, [], ◌∷◌, get_or}
use Prim.Native.String.{String}
use Rattle.text.specs.Ascii.{ascii}

-- by number, a number that nothing gives yet with the words of 0; docs/NUMBERS.md has the same
abbrev pub refusal_words : List String
refusal_words =
    "no such refusal" ∷  -- 0
    "a size is wrong: of the word store, of main or of local storage" ∷  -- 1
    "WX is not in the word store" ∷  -- 2
    "one of the word's top nine bits is set" ∷  -- 3
    "PN is wrong" ∷  -- 4
    "PA is wrong" ∷  -- 5
    "PS is wrong" ∷  -- 6
    "PC is wrong" ∷  -- 7
    "CL = 2 and K to W, or a return, in one word" ∷  -- 8
    "PK is wrong" ∷  -- 9
    "a code is not modelled" ∷  -- 10
    "the main address is not in main storage, or not in the fence" ∷  -- 11
    "the decimal length is not 1 to 16" ∷  -- 12
    "a decimal field does not lie in main storage, or in the fence" ∷  -- 13
    "the decimal fields overlap and do not start together" ∷  -- 14
    "the deck's length is 0, no multiple of 512, or over 34304" ∷  -- 15
    "a block's number is not its place" ∷  -- 16
    "a count, reserved bytes or unused bytes are wrong" ∷  -- 17
    "a block's check is wrong" ∷  -- 18
    "the room lent is too small" ∷  -- 19
    "a field or the address is beyond its width" ∷  -- 20
    "there are no words, or over 4096" ∷  -- 21
    "the budget is over 1000000" ∷  -- 22
    "no such refusal" ∷  -- 23
    "no such refusal" ∷  -- 24
    "a digit is over 9 in the first fifteen places" ∷  -- 25
    "the sign digit is below A" ∷  -- 26
    "the number has more than fifteen digits" ∷  -- 27
    "no such refusal" ∷  -- 28
    "a trap is open, and its return is owed" ∷  -- 29
    "the trap address is over 4095" ∷  -- 30
    "no such refusal" ∷  -- 31
    "a fence is empty or outside main storage, or the two overlap" ∷  -- 32
    "the signed field is not of 8 bytes" ∷  -- 33
    []

unfoldable pub words_of : ℕ → List ℕ
words_of number = ascii (get_or refusal_words number "no such refusal")
