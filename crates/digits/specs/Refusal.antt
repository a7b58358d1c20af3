-- "Answers by number, in the order checked": a list of answers, each beside its test. Assumes nothing.
use Rattle.std.specs.Prelude.{ℕ, ◌<◌, ◌≡◌, List, [], ◌∷◌, map, Bool, true, false, cond, get_or, slice_get, Option, Some, None}
use Rattle.digits.specs.declared.refusal.Refusal.{Refusal}
use Rattle.digits.specs.declared.refusal.Refusal.TheVariants as R

-- the paper's number of each refusal; `Other` has any other, which no list of checks gives
abbrev pub refusal_number : Refusal → ℕ
refusal_number R.Size = 1
refusal_number R.NoWord = 2
refusal_number R.TopBits = 3
refusal_number R.Pn = 4
refusal_number R.Pa = 5
refusal_number R.Ps = 6
refusal_number R.Pc = 7
refusal_number R.TwiceToW = 8
refusal_number R.Pk = 9
refusal_number (R.NotModelled place) = 10
refusal_number R.MainAddress = 11
refusal_number R.DecimalLength = 12
refusal_number R.DecimalField = 13
refusal_number R.Overlap = 14
refusal_number R.DeckLength = 15
refusal_number R.BlockNumber = 16
refusal_number R.BlockShape = 17
refusal_number R.BlockCheck = 18
refusal_number R.Room = 19
refusal_number R.Width = 20
refusal_number R.WordCount = 21
refusal_number R.Budget = 22
refusal_number R.Digit = 25
refusal_number R.Sign = 26
refusal_number R.TooLong = 27
refusal_number R.Owed = 29
refusal_number R.TrapAddress = 30
refusal_number R.Fence = 32
refusal_number R.SignedLength = 33
refusal_number (R.Other number place) = number

-- 10 comes with its field, every other number of the paper with 0
abbrev pub refusal_field : Refusal → ℕ
refusal_field (R.NotModelled place) = place
refusal_field (R.Other number place) = place
refusal_field r = 0

-- an answer, and the test by which it is given
abbrev pub Check : Type 0 → Type 0
Check R = R × Bool

-- the first answer whose test holds, none where none does
abbrev pub first : {R : Type 0} → List (Check R) → Option R
first [] = None
first ((r, b) ∷ rest) = cond b (Some r) (first rest)

-- what is answered: x where no test holds, else that refusal
abbrev pub answer : {R A : Type 0} → Option R → (R → A) → A → A
answer None refused x = x
answer (Some r) refused x = refused r

abbrev pub test_at : {R : Type 0} → List (Check R) → ℕ → Bool
test_at cs i = get_or (map (λ c. c.1) cs) i false

-- "given exactly when": r stands at some place, its test holds there, and no earlier test does
pub record Given {R : Type 0} (r : R) (cs : List (Check R)) : Type 0 where
  pub place : ℕ
  pub stands : slice_get (map (λ c. c.0) cs) place ≡ Some r
  pub holds : test_at cs place ≡ true
  pub earlier : (j : ℕ) → j < place → test_at cs j ≡ false
