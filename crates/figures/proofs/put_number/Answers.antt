-- A minus and the digits, with the minus left out or not. Assumes nothing.
use Prim.Native.Nat.{ℕ, suc, ◌+◌, ◌-◌, ◌≤◌}
use mathlib.Core.Path.{◌≡◌, sym, ap, ◌∙◌}
use mathlib.Core.List.{List, ◌∷◌, ◌++◌, map}
use native.Mathlib.Omega.{arith}
use lib.IntN.{nat_abs}
use lib.ListN.{length, take, drop, replicate, length-map}
use lib.Seq.{take_at, length-take-le}
use mir.Syntax.{w64}
use mir.Val.{to_z, of_z}
use Rattle.digits.specs.Tens.{last_digits}
use Rattle.digits.specs.Packed.{below_zero}
use Rattle.digits.proofs.Tens.{length_last}
use Rattle.signed.proofs.Whole.{reads, below_zero_lem}
use Rattle.figures.specs.Figures.{figure, figures, number_text}
use Rattle.figures.proofs.put_number.Goals as goal
use Rattle.figures.proofs.put_number.Goals.{then-is_negative, else-is_negative}

abbrev past : ℕ → List ℕ
past n = drop (n + 1 - 1) (drop 1 (replicate 21 45))

-- the room for so many digits after a minus
abbrev room : ℕ → List ℕ
room n = take (n + 1 - 1) (drop 1 (replicate 21 45))

length_room : (n : ℕ) → n ≤ 20 → length (room n) ≡ n
length_room n h = let k : n + 1 - 1 ≡ n = omega arith in rw k (length-take-le n (replicate 20 45) h)

-- from the minus on, or after it
abbrev shown : ℕ → ℕ → List ℕ → List ℕ
shown from n l = take (n + 1 - from) (drop from (45 ∷ l))

with_minus : (ds rest : List ℕ) (n : ℕ) → length ds ≡ n → shown 0 n (ds ++ rest) ≡ 45 ∷ ds
with_minus ds rest n e = let k : n + 1 - 0 ≡ suc n = omega arith in rw k (ap (λ (l : List ℕ). 45 ∷ l) (take_at ds rest n e))

without : (ds rest : List ℕ) (n : ℕ) → length ds ≡ n → shown 1 n (ds ++ rest) ≡ ds
without ds rest n e = let k : n + 1 - 1 ≡ n = omega arith in rw k (take_at ds rest n e)

pub returns : goal.returns
unfolding number_text
returns c =
    let number = c.args.number in
    let same : to_z w64 (of_z w64 number) ≡ number = reads number c.ranges.number in
    let count = c.digit_count-end.result in
    let size = c.unsigned_abs-size.result in
    let put : c.put_figures.new.out ≡ map figure (last_digits count size) = rw (length_room count c.digit_count-end.ensures.1) at c.put_figures.ensures in
    let is_long : length c.put_figures.new.out ≡ count = ap length put ∙ length-map (last_digits count size) figure ∙ length_last count size in
    let digits : c.put_figures.new.out ≡ figures (nat_abs number) =
    put ∙ ap (λ (k : ℕ). map figure (last_digits k size)) c.digit_count-end.ensures.0 ∙ ap figures (rw same at c.unsigned_abs-size.ensures.value) in
    let minus : c.is_negative.result ≡ below_zero number = (rw same at c.is_negative.ensures) ∙ below_zero_lem number in
    let text : shown c.if-is_negative.from count (c.put_figures.new.out ++ past count) ≡ number_text number =
    elim c.if-is_negative.branch [
      | then-is_negative w ↦ rw (w.from-is, sym minus ∙ w.if-is_negative.true) (with_minus _ (past count) count is_long ∙ ap (λ (l : List ℕ). 45 ∷ l) digits)
      | else-is_negative w ↦ rw (w.from-is, sym minus ∙ w.if-is_negative.false) (without _ (past count) count is_long ∙ digits)
    ] in
    rw text at c.put.ensures
