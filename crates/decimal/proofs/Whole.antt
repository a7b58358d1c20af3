-- The shipped words from start to stop. Assumes nothing.
use Prim.Native.Nat.{ℕ, zero, suc, ◌+◌, ◌*◌, ◌<◌, ◌≤◌}
use mathlib.Core.Path.{◌≡◌, refl}
use mathlib.Core.List.{List}
use mathlib.Core.Bool.{Bool, true, false, cond, ◌&&◌}
use native.Mathlib.Omega.{arith}
use lib.ListN.{length, get_or}
use Rattle.digits.specs.Digits.{both_decimal}
use Rattle.storage.specs.declared.Fence.{Fence}
use Rattle.adder.proofs.Laws.{both_at_most}
use Rattle.run.proofs.Goes.{machine, Right}
use Rattle.decimal.specs.Value.{value, decimal_field}
use Rattle.decimal.specs.Program.{shipped}
use Rattle.decimal.specs.Entry.{start, SUMMED}
use Rattle.decimal.specs.Promise.{until_bad}
use Rattle.decimal.proofs.Places.{Marks, marked, view, at, ended, Reaches, Refuses, on, then, told, on_refuses}
use Rattle.decimal.proofs.Checks.{Fit}
use Rattle.decimal.proofs.Fields.{field_sound}
use Rattle.decimal.proofs.Pass1.{good, bad}
use Rattle.decimal.proofs.Pass2.{Fits, Passing, passing, pass, all}
use Rattle.decimal.proofs.Stands.{Stands, stands}
use Rattle.decimal.proofs.Plain.{tests, plain, between, at_last, begins}

pub decimal_lt : (b : ℕ) → both_decimal b ≡ true → b < 256
decimal_lt b d = omega (arith, both_at_most b d)

abbrev none : Marks
none = marked false false false false false

module _ (fence : Fence) (main local : List ℕ) (a b k : ℕ) (c : Bool) (f : Fit fence (length main) (length local) a b (suc k)) where
  pub right : Right shipped (machine (start a b (suc k) c) main local)
  unfolding shipped
  right = f.sizes

  begun : Reaches fence shipped local 2 (machine (start a b (suc k) c) main local) (at 0x02 main (view a b (suc k) (suc k) c none))
  begun = begins fence local main a b (suc k) c right (omega (arith, f.in_a.in_main, f.fits)) (omega (arith, f.in_b.in_main, f.fits)) (omega (arith, f.few))

  -- where every digit is decimal
  module _ (da : decimal_field main a (suc k) ≡ true) (db : decimal_field main b (suc k) ≡ true) where
    abbrev at_first : Passing
    at_first = passing main c none

    abbrev pub at_end : Passing
    at_end = pass (plain fence local) a b (suc k) at_first

    fits : Fits (plain fence local) a b (suc k) at_first
    fits =
        record {
          most = f.fits;
          in_a = f.in_a;
          in_b = f.in_b;
          clear = f.clear;
          bytes = λ i h. decimal_lt (get_or main (b + i) 0) (field_sound main b (suc k) db i h);
        }

    pub adds : Reaches fence shipped local (14 * suc k + 4) (machine (start a b (suc k) c) main local) (ended SUMMED at_end.main at_end.carry)
    adds =
        let e : 2 + (suc k * 5 + (1 + (suc k * 9 + 1))) ≡ 14 * suc k + 4 = omega arith in
        told fence shipped local e refl
        (on fence shipped local right begun
        (then fence shipped local (good fence shipped local tests main f.fits (suc k) c none k a b (omega (arith, f.few)) f.in_a f.in_b db da)
        (then fence shipped local (between fence local main (suc k) c none (a + suc k) (b + suc k) (omega (arith, f.few)))
        (then fence shipped local (all (plain fence local) a b (suc k) k at_first (omega (arith, f.few)) fits) (at_last fence local at_end.main (suc k) at_end.carry at_end.status a b)))))

    pub sum_stands : Stands false a (suc k) main at_end.main (value main a (suc k)) (value main b (suc k)) c at_end.carry
    unfolding plain
    sum_stands =
        stands (plain fence local) false true (λ (m : Marks). m.s0 ≡ false) (λ m off x y c. rw off) (λ m r off. off) a b (suc k) at_first refl fits (field_sound main a (suc k) da) (field_sound main b (suc k) db)

  -- where one is not
  pub spots : decimal_field main a (suc k) && decimal_field main b (suc k) ≡ false → Refuses fence shipped local SUMMED (2 + until_bad main a b (suc k)) (machine (start a b (suc k) c) main local) main
  spots d = on_refuses fence shipped local right begun (bad fence shipped local tests main f.fits (suc k) c none SUMMED refl refl k a b (omega (arith, f.few)) f.in_a f.in_b d)

-- the first pass is short
pub until_le : (main : List ℕ) (n a b : ℕ) → until_bad main a b n ≤ 5 * n
unfolding until_bad
until_le main zero a b = omega arith
until_le main (suc n) a b = by (until_le main n (a + 1) (b + 1)) (both_decimal (get_or main b 0)) (both_decimal (get_or main a 0))
  where
    by : until_bad main (a + 1) (b + 1) n ≤ 5 * n → (p q : Bool) → cond p (cond q (5 + until_bad main (a + 1) (b + 1) n) 4) 2 ≤ 5 * suc n
    by h false q = omega arith
    by h true false = omega arith
    by h true true = omega arith
