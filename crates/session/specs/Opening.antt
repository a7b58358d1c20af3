-- "Two boards, one core.": document 02, request 13. What a session is opened with. Assumes nothing.
use Rattle.std.specs.Prelude.{ℕ, List, [], ◌∷◌, Bool, ◌&&◌, ◌||◌, leb, ltb, Result, Ok, Err}
use Rattle.digits.specs.Refusal.{Check, first, answer}
use Rattle.digits.specs.declared.refusal.Refusal.{Refusal}
use Rattle.digits.specs.declared.refusal.Refusal.TheVariants as R
use Rattle.storage.specs.declared.Fence.{Fence}

-- "a fence that is empty or reaches outside main storage"
abbrev pub fence_wrong : ℕ → Fence → Bool
fence_wrong main fence = leb fence.end fence.start || ltb main fence.end

-- "or two that overlap": an end is not in its fence, so that fences that touch are apart
abbrev pub meet : Fence → Fence → Bool
meet a b = ltb a.start b.end && ltb b.start a.end

abbrev pub fences_wrong : ℕ → Fence → Fence → Bool
fences_wrong main a b = fence_wrong main a || (fence_wrong main b || meet a b)

-- "32 on opening"
abbrev pub open_checks : ℕ → Fence → Fence → List (Check Refusal)
open_checks main a b = (R.Fence, fences_wrong main a b) ∷ []

abbrev pub open_of : ℕ → Fence → Fence → Result (Unit {0}) Refusal
open_of main a b = answer (first (open_checks main a b)) Err (Ok tt)
