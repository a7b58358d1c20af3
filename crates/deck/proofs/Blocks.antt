-- The refusals of a block, test by test, and what a block without one is. Assumes nothing.
use Rattle.std.proofs.Common.{◌≡◌, ℕ, ◌+◌, ◌*◌, ◌≤◌, Bool, true, false, not, eqb, ltb, List, arith, ltb-false, le-ltb, eq-eqb, ne_eqb, eqb-true, Some}
use borrow.Author.Tests.{eqb-false, not-false}
use Rattle.digits.specs.declared.refusal.Refusal.TheVariants as R
use Rattle.digits.specs.Refusal.{first}
use Rattle.digits.proofs.Refusals.{NoneHolds}
use Rattle.digits.proofs.Truth.{neither}
use Rattle.digits.specs.Lists.{in_turn, all_zero}
use Rattle.deck.specs.Deck.{number_in, count_in, reserved_in, words_in, unused_in, check_of, check_in, count_wrong, total_wrong, unused_wrong, shape_wrong, word_checks, block_checks}

-- what a right count is
pub some : (last : Bool) (count : ℕ) → count_wrong last count ≡ false → (1 ≤ count) × (count ≤ 62)
some true count h =
    let (none, many) = neither (eqb count 0) (ltb 62 count) h in
    let ne = eqb-false count 0 none in
    (omega arith, ltb-false 62 count many)
some false count h =
    let e = eqb-true count 62 (not-false (eqb count 62) h) in
    (omega arith, omega arith)

pub full : (count : ℕ) → count_wrong false count ≡ false → count ≡ 62
full count h = eqb-true count 62 (not-false (eqb count 62) h)

module _ (n b : ℕ) (gs : List ℕ) where
  pub gives_16 : (number_in gs ≡ b → ⊥) → first (block_checks n b gs) ≡ Some R.BlockNumber
  unfolding block_checks
  gives_16 h = rw (ne_eqb (number_in gs) b h)

  pub gives_17 : number_in gs ≡ b → shape_wrong n b gs ≡ true → first (block_checks n b gs) ≡ Some R.BlockShape
  unfolding block_checks
  gives_17 h s = rw (eq-eqb (number_in gs) b h, s)

  pub gives_18 : number_in gs ≡ b → shape_wrong n b gs ≡ false → (check_of gs ≡ check_in gs → ⊥) → first (block_checks n b gs) ≡ Some R.BlockCheck
  unfolding block_checks
  gives_18 h s k = rw (eq-eqb (number_in gs) b h, s, ne_eqb (check_of gs) (check_in gs) k)

  pub gives_word : number_in gs ≡ b → shape_wrong n b gs ≡ false → check_of gs ≡ check_in gs → first (block_checks n b gs) ≡ first (in_turn word_checks (62 * b) (words_in gs))
  unfolding block_checks
  gives_word h s k = rw (eq-eqb (number_in gs) b h, s, eq-eqb (check_of gs) (check_in gs) k)

  pub record Shaped : Type 0 where
    pub count : count_wrong (eqb (b + 1) n) (count_in gs) ≡ false
    pub total : 62 * b + count_in gs ≤ 4096
    pub reserved : reserved_in gs ≡ 0
    pub unused : all_zero (unused_in gs) ≡ true

  pub shaped : shape_wrong n b gs ≡ false → Shaped
  shaped h =
      let (count, rest) = neither _ _ h in
      let (total, bytes) = neither (total_wrong b (count_in gs)) _ rest in
      let (reserved, unused) = neither (not (eqb (reserved_in gs) 0)) (unused_wrong gs) bytes in
      record {
        count = count;
        total = ltb-false 4096 (62 * b + count_in gs) total;
        reserved = eqb-true (reserved_in gs) 0 (not-false _ reserved);
        unused = not-false (all_zero (unused_in gs)) unused;
      }

  shape : Shaped → shape_wrong n b gs ≡ false
  shape s = rw (s.count, le-ltb 4096 (62 * b + count_in gs) s.total, eq-eqb (reserved_in gs) 0 s.reserved, s.unused)

  -- what a block is that is not refused
  pub record Good : Type 0 where
    pub number : number_in gs ≡ b
    pub shape : Shaped
    pub check : check_of gs ≡ check_in gs
    pub words : NoneHolds (in_turn word_checks (62 * b) (words_in gs))

  pub good : NoneHolds (block_checks n b gs) → Good
  unfolding block_checks
  good (number, (shape, (check, words))) =
      record {
        number = eqb-true (number_in gs) b (not-false _ number);
        shape = shaped shape;
        check = eqb-true (check_of gs) (check_in gs) (not-false _ check);
        words = words;
      }

  pub none : Good → NoneHolds (block_checks n b gs)
  unfolding block_checks
  none g = (rw (eq-eqb (number_in gs) b g.number), (shape g.shape, (rw (eq-eqb (check_of gs) (check_in gs) g.check), g.words)))
