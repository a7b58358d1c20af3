-- One cycle, by what its checks find. Assumes nothing.
use Prim.Native.Nat.{ℕ, ◌<◌, ◌≤◌}
use mathlib.Core.Path.{◌≡◌, sym, ap, ◌∙◌}
use mathlib.Core.List.{List, ◌++◌}
use mathlib.Core.Bool.{true, false}
use native.Mathlib.Omega.{arith}
use borrow.Author.Tests.{leb-false}
use lib.Dec.{leb}
use lib.ListN.{length}
use Rattle.std.specs.Prelude.{Option, Some, None, Ok}
use Rattle.digits.specs.Refusal.{Check, first, answer}
use Rattle.digits.specs.declared.refusal.Refusal.{Refusal}
use Rattle.digits.specs.declared.refusal.Refusal.TheVariants as R
use Rattle.digits.proofs.Refusals.{first_append}
use Rattle.digits.proofs.Sizes.{right_sizes}
use Rattle.word.specs.Layout.{line_of, fields_of}
use Rattle.word.specs.Word.{fault_checks, fault_of, taken_apart}
use Rattle.word.specs.declared.Fields.{Fields}
use Rattle.codes.specs.Modelled.{unmodelled_of}
use Rattle.codes.specs.declared.Reading.{Reading}
use Rattle.adder.specs.declared.Sum.{Sum}
use Rattle.word.proofs.Trips.{apart_fields}
use Rattle.machine.specs.Sources.{entered, sum_in}
use Rattle.storage.specs.Storage.{access_of, outside, fetched_of, main_after, local_after}
use Rattle.storage.specs.declared.Access.{Access}
use Rattle.storage.specs.declared.Fence.{Fence}
use Rattle.digits.specs.Sizes.{sizes_wrong}
use Rattle.machine.specs.Cycle.{outcome, stops, seen_of, access_in, step_checks, cycle_checks, word_at, after, ran_of, decided, step_of, cycle_in}
use Rattle.machine.specs.declared.State.{State}
use Rattle.machine.specs.declared.Cycled.TheVariants.{Ran, Stopped, Refused}

-- ---- from the fields on

module _ (fence : Fence) (reading : Reading) (f : Fields) (main local : List ℕ) (s : State) where
  pub on_stop : stops f ≡ true → step_of fence reading f main local s ≡ outcome (Stopped s) main local
  on_stop e = rw e

  pub on_10 : stops f ≡ false → {place : ℕ} → unmodelled_of reading f ≡ Some place → step_of fence reading f main local s ≡ outcome (Refused s (R.NotModelled place)) main local
  on_10 e u = rw (e, u)

  pub on_ran : stops f ≡ false → unmodelled_of reading f ≡ None → outside fence (length main) (access_in f s) ≡ false → step_of fence reading f main local s ≡ ran_of reading f main local s
  on_ran e u o = rw (e, u, o)

-- the state after the fields of a word
abbrev pub after_fields : Reading → Fields → List ℕ → List ℕ → State → State
after_fields reading f main local s =
    let e : State = entered f s in
    let a : Access = access_of f (seen_of e) in
    after reading f (sum_in f e) a (fetched_of main local a) e

-- what runs, put together from its parts
pub ran_is : (reading : Reading) (f : Fields) (main local main' local' : List ℕ) (s e t : State) (a : Access) (z : Sum) (b : ℕ)
    → e ≡ entered f s → a ≡ access_of f (seen_of e) → z ≡ sum_in f e → b ≡ fetched_of main local a → t ≡ after reading f z a b e
    → main' ≡ main_after main a e.r → local' ≡ local_after local a e.r → outcome (Ran t) main' local' ≡ ran_of reading f main local s
unfolding ran_of
ran_is reading f main local main' local' s e t a z b pe pa pz pb pt pm pl = rw (pt, pm, pl, pb, pz, pa, pe)

-- ---- the whole cycle

-- the fields of a word are in their widths
pub fields_small : (w : ℕ) (f : Fields) → f ≡ fields_of w → (f.cn < 64) × (f.ck < 16)
fields_small w f e = rw e (omega arith)

-- a store of the right size has addresses of 12 bits
pub address_fits : (store main local wx : ℕ) → sizes_wrong store main local ≡ false → leb store wx ≡ false → wx ≤ 4095
address_fits store main local wx h l = omega (arith, (right_sizes store main local h).0, leb-false store wx l)

module _ (fence : Fence) (reading : Reading) (store main local : List ℕ) (s : State) where
  pub on_1 : sizes_wrong (length store) (length main) (length local) ≡ true → cycle_in fence reading store main local s ≡ outcome (Refused s R.Size) main local
  unfolding cycle_in
  on_1 e = rw e

  module _ (sizes : sizes_wrong (length store) (length main) (length local) ≡ false) where
    pub on_2 : leb (length store) s.wx ≡ true → cycle_in fence reading store main local s ≡ outcome (Refused s R.NoWord) main local
    unfolding cycle_in
    on_2 e = rw (sizes, e)

    module _ (inside : leb (length store) s.wx ≡ false) where
      -- past 1 and 2
      late : first (cycle_checks fence reading store main local s) ≡ first (fault_checks (word_at store s) s.wx (line_of (word_at store s)) ++ step_checks fence reading (fields_of (word_at store s)) (length main) s)
      late = rw (sizes, inside)

      module _ (found : Option Refusal) (e : fault_of (word_at store s) s.wx ≡ found) where
        -- the word's own refusal, else those of its fields
        by_fault : cycle_in fence reading store main local s
            ≡ decided reading (answer found Some (first (step_checks fence reading (fields_of (word_at store s)) (length main) s))) (stops (fields_of (word_at store s))) (fields_of (word_at store s)) main local s
        unfolding cycle_in fault_of
        by_fault =
            let f : Fields = fields_of (word_at store s) in
            let steps : List (Check Refusal) = step_checks fence reading f (length main) s in
            ap (λ (k : Option Refusal). decided reading k (stops f) f main local s)
            (late ∙ first_append (fault_checks (word_at store s) s.wx (line_of (word_at store s))) steps ∙ ap (λ (k : Option Refusal). answer k Some (first steps)) e)

      pub on_fault : (r : Refusal) → fault_of (word_at store s) s.wx ≡ Some r → cycle_in fence reading store main local s ≡ outcome (Refused s r) main local
      on_fault r = by_fault (Some r)

      pub on_fields : fault_of (word_at store s) s.wx ≡ None → cycle_in fence reading store main local s ≡ step_of fence reading (fields_of (word_at store s)) main local s
      on_fields = by_fault None

      -- by what taking the word apart gives
      pub on_apart : (f : Fields) → taken_apart (word_at store s) s.wx ≡ Ok f → step_of fence reading f main local s ≡ cycle_in fence reading store main local s
      on_apart f e =
          let (none, same) = apart_fields (word_at store s) s.wx f e in
          ap (λ (g : Fields). step_of fence reading g main local s) (sym same) ∙ sym (on_fields none)
