-- Request 3: what AP and SP come to. Assumes nothing.
use Rattle.std.specs.Prelude.{ℕ, ◌+◌, ◌-◌, ◌*◌, ◌<◌, ◌≤◌, ◌≡◌, List, Bool, cond, not, ◌&&◌, ◌⊎◌, ltb, length, get_or}
use Rattle.digits.specs.Digits.{low}
use Rattle.digits.specs.Packed.{sign_of, is_minus, size_in}
use Rattle.storage.specs.Storage.{whole}
use Rattle.decimal.specs.Value.{decimal_field}
use Rattle.decimal.specs.Entry.{add_checks}
use Rattle.decimal.specs.Promise.{until_bad, Bad, Keeps}
use Rattle.decimal.specs.declared.Added.{Added}
use Rattle.decimal.specs.declared.Added.TheVariants.{Summed}
use Rattle.apsp.specs.Numbers.{places, field, last_byte, signed_byte, good_field, exact, overflows, field_of}
use Rattle.apsp.specs.Entry.{signed_run}

-- a sign turns add into subtract, and back
abbrev pub turned_by : Bool → Bool → Bool
turned_by minus subtract = cond minus (not subtract) subtract

module _ (main : List ℕ) (a b n : ℕ) (subtract : Bool) where
  abbrev minus : ℕ → Bool
  minus start = is_minus (sign_of (low (last_byte main start n)))

  -- the sizes are subtracted, "through S0"
  abbrev pub is_difference : Bool
  is_difference = turned_by (minus a) (turned_by (minus b) subtract)

  -- "complement again when the difference is negative"
  abbrev pub is_again : Bool
  is_again = is_difference && ltb (size_in (places n) (field main a n)) (size_in (places n) (field main b n))

  -- the exact count
  abbrev pub signed_cycles : ℕ
  signed_cycles = cond is_again (23 * n + 25) (14 * n + 16)

-- if every digit and both signs are good
pub record SignedSums (main local : List ℕ) (a b n : ℕ) (subtract : Bool) (r : Added) (main' local' : List ℕ) : Type 0 where
  -- done, with overflow exactly when the true result has more digits than the field
  pub done : r ≡ Summed (overflows n (exact main a b n subtract)) (signed_cycles main a b n subtract)
  -- the first field holds it
  pub result : field main' a n ≡ field_of n (exact main a b n subtract)
  -- "Every other byte of main storage and all of local storage keeps its value"
  pub size : length main' ≡ length main
  pub others : (k : ℕ) → (k < a) ⊎ (a + n ≤ k) → get_or main' k 0 ≡ get_or main k 0
  pub local_kept : local' ≡ local

-- the cycles until a digit or a sign is not
abbrev pub until_bad_signed : List ℕ → ℕ → ℕ → ℕ → ℕ
until_bad_signed main a b n =
    cond (decimal_field main a (n - 1) && decimal_field main b (n - 1)) (cond (signed_byte (last_byte main b n)) (5 * n + 7) (5 * n + 1)) (2 + until_bad main a b (n - 1))

-- "Bad digits or signs end at the program's other stop with all storage as before"
abbrev pub SignedPromise : List ℕ → List ℕ → ℕ → ℕ → ℕ → Bool → Added → List ℕ → List ℕ → Type 0
SignedPromise main local a b n subtract r main' local' =
    Keeps (add_checks whole (length main) (length local) a b n) (signed_run main local a b n subtract) (good_field main a n && good_field main b n) (SignedSums main local a b n subtract) (Bad (until_bad_signed main a b n) main local) main local n r main' local'
