-- The seven codes: where none is used the readings are one, and each tells them apart. Assumes nothing.
use Prim.Native.Nat.{ℕ, ◌+◌, ◌*◌}
use mathlib.Core.Path.{◌≡◌, refl, ap, ◌∙◌}
use mathlib.Core.List.{List, [], ◌∷◌, ◌++◌}
use mathlib.Core.Bool.{Bool, true, false, cond, not, ◌&&◌}
use native.Mathlib.Omega.{arith}
use lib.Count.{ones}
use lib.Dec.{leb}
use lib.ListN.{length}
use Rattle.digits.specs.Bits.{one, with_bit}
use Rattle.std.specs.Prelude.{Option, Some, None, is_some, unwrap_or}
use Rattle.digits.specs.Refusal.{first, refusal_number}
use Rattle.digits.specs.Sizes.{sizes_wrong}
use Rattle.digits.specs.declared.refusal.Refusal.{Refusal}
use Rattle.digits.specs.declared.refusal.Refusal.TheVariants as R
use Rattle.word.specs.Layout.{line_of, fields_of}
use Rattle.word.specs.Parity.{is_return}
use Rattle.word.specs.Word.{fault_checks}
use Rattle.word.specs.declared.Fields.{Fields}
use Rattle.codes.specs.Modelled.{unmodelled_of}
use Rattle.codes.specs.Seven.{uses_one}
use Rattle.codes.specs.declared.Reading.TheVariants.{Basic, Compatibility}
use Rattle.codes.proofs.Alike.{none_at, high_alike, low_alike, status_alike, unmodelled_alike}
use Rattle.adder.specs.Adder.{sum_of}
use Rattle.adder.specs.declared.Sum.{Sum}
use Rattle.machine.specs.Sources.{entered, sum_in}
use Rattle.machine.specs.Branch.{tested_of, w_of, next_of}
use Rattle.storage.specs.Storage.{access_of, outside}
use Rattle.machine.specs.Status.{into, saves, status_of}
use Rattle.machine.specs.Cycle.{stops, access_in, cycle_checks, word_at, ran_of, decided, cycle_in}
use Rattle.machine.specs.Seven.{CycleAlike, TellApart}
use Rattle.machine.specs.declared.State.{State}
use Rattle.machine.specs.declared.Cycled.{Cycled}
use Rattle.machine.specs.declared.Cycled.TheVariants.{Ran, Stopped, Refused}

-- ---- a word that uses none

module _ (f : Fields) (none : uses_one f ≡ false) where
  status_same : (z : Sum) (s : ℕ) → status_of Basic f z s ≡ status_of Compatibility f z s
  unfolding status_of
  status_same z s i = let changed = status_alike f none z.result s i in cond (saves f.cc) (with_bit changed 3 z.ac) changed

  next_same : (s : State) → next_of Basic f s ≡ next_of Compatibility f s
  unfolding next_of
  next_same s i =
      let t = tested_of s in
      cond (is_return f) s.fwx (w_of f s.wx * 256 + (f.cn * 4 + one (high_alike f none t i) * 2 + one (low_alike f none t i)))

  module _ (main local : List ℕ) (s : State) where
    ran_same : ran_of Basic f main local s ≡ ran_of Compatibility f main local s
    unfolding ran_of
    ran_same =
        let e : State = entered f s in
        let z : Sum = sum_in f e in
        rw (status_same z (into 6 f.cd z.result e.s), next_same e)

    decided_same : (k : Option Refusal) (stop : Bool) → decided Basic k stop f main local s ≡ decided Compatibility k stop f main local s
    decided_same (Some r) stop = refl
    decided_same None true = refl
    decided_same None false = ran_same

pub cycle_alike : CycleAlike
unfolding cycle_in
cycle_alike fence store main local s none =
    let w : ℕ = word_at store s in
    let f : Fields = fields_of w in
    let uses_none_lem : uses_one f ≡ false = none_at 0 store s.wx none in
    let ten : unmodelled_of Basic f ≡ unmodelled_of Compatibility f = unmodelled_alike f uses_none_lem in
    let checks : first (cycle_checks fence Basic store main local s) ≡ first (cycle_checks fence Compatibility store main local s) =
    λ i. first
    ((R.Size, sizes_wrong (length store) (length main) (length local)) ∷ (R.NoWord, leb (length store) s.wx)
    ∷ (fault_checks w s.wx (line_of w) ++ ((R.NotModelled (unwrap_or (ten i) 0), not (stops f) && is_some (ten i)) ∷ (R.MainAddress, not (stops f) && outside fence (length main) (access_in f s)) ∷ []))) in
    ap (λ (k : Option Refusal). decided Basic k (stops f) f main local s) checks
    ∙ decided_same f uses_none_lem main local s (first (cycle_checks fence Compatibility store main local s)) (stops f)

-- ---- each of the seven

-- where an answer leads
abbrev leads : Cycled → ℕ
leads (Ran t) = t.wx
leads (Stopped t) = 4096
leads (Refused t r) = 4096 + refusal_number r

differ : (x y : Cycled) (m n : ℕ) → leads x ≡ m → leads y ≡ n → (m ≡ n → ⊥) → x ≡ y → ⊥
differ x y m n hx hy other e = other (omega (arith, hx, hy, ap leads e))

pub tell_apart : TellApart
unfolding cycle_in ran_of entered sum_in sum_of access_of next_of status_of unmodelled_of ones
tell_apart = (
  (refl, differ _ _ 2 0 refl refl (λ e. omega arith)),
  (
    (refl, differ _ _ 4106 0 refl refl (λ e. omega arith)),
    (
      (refl, differ _ _ 0 1 refl refl (λ e. omega arith)),
      (
        (refl, differ _ _ 4106 0 refl refl (λ e. omega arith)),
        (
          (refl, differ _ _ 4106 0 refl refl (λ e. omega arith)),
          (
            (refl, differ _ _ 4106 0 refl refl (λ e. omega arith)),
            ((refl, differ _ _ 2 4106 refl refl (λ e. omega arith)), tt),
          ),
        ),
      ),
    ),
  ),
)
