-- The record after a trap is that of the state after it. Assumes nothing.
use Prim.Native.Nat.{ℕ, ◌+◌, ◌*◌, ◌/◌, ◌%◌, ◌<◌, ◌≤◌}
use mathlib.Core.Path.{◌≡◌, refl, ap₂, subst, ◌∙◌}
use mathlib.Core.List.{List, [], ◌∷◌, ◌++◌}
use mathlib.Core.Bool.{true, false, not}
use native.Mathlib.Omega.{arith}
use borrow.Author.Rules.{Below-set}
use borrow.Author.Tests.{le-ltb, eqb-false}
use lib.Dec.{eqb}
use lib.ListN.{length, get_or, set}
use lib.Pow.{split}
use lib.Seq.{get_or-set_same, get_or-set_other}
use Rattle.std.specs.Prelude.{Result, Ok, Err}
use Rattle.digits.specs.Table.{among}
use Rattle.digits.specs.declared.refusal.Refusal.{Refusal}
use Rattle.digits.proofs.Truth.{neither}
use Rattle.trap.specs.Trap.{standing_at, trap_of, state_after}
use Rattle.machine.specs.declared.State.{State}
use Rattle.trap.proofs.Calls.{taken_is}
use Rattle.channels.specs.Channels.{record_length, loaded}
use Rattle.panel.specs.Answers.{placed, answer_trap, trap_call}

-- a list of places and bytes, written one after the other
abbrev Written : List (ℕ × ℕ) → List ℕ → List ℕ
Written [] l = l
Written ((k, x) ∷ bytes) l = Written bytes (set l k x)

abbrev places : List (ℕ × ℕ) → List ℕ
places [] = []
places ((k, x) ∷ bytes) = k ∷ places bytes

-- a place that is none of them keeps its byte
away : (bytes : List (ℕ × ℕ)) (l : List ℕ) (i : ℕ) → among i (places bytes) ≡ false → get_or (Written bytes l) i 0 ≡ get_or l i 0
away [] l i h = refl
away ((k, x) ∷ bytes) l i h =
    let (here, later) = neither (eqb i k) (among i (places bytes)) h in
    away bytes (set l k x) i later ∙ get_or-set_other l k i x 0 (eqb-false i k here)

-- the last byte that is written at a place stands there
there : (before after : List (ℕ × ℕ)) (l : List ℕ) (k x : ℕ) → k < length l → among k (places after) ≡ false → get_or (Written (before ++ ((k, x) ∷ after)) l) k 0 ≡ x
there [] after l k x h none = away after (set l k x) k none ∙ get_or-set_same l k x 0 h
there ((j, y) ∷ before) after l k x h none = there before after (set l j y) k x (Below-set ℕ l k j y h) none

-- the state that is then loaded is the one after the trap
module _ (address : ℕ) (state : List ℕ) (long : record_length ≤ length state) where
  after_trap : State
  after_trap = standing_at address (loaded state).wx true (loaded state)

  back : loaded (placed after_trap state) ≡ after_trap
  unfolding loaded after_trap
  back =
      let s : State = loaded state in
      let w : ℕ × ℕ = (13, address / 256) in
      let x : ℕ × ℕ = (14, address % 256) in
      let fw : ℕ × ℕ = (24, s.wx / 256) in
      let fx : ℕ × ℕ = (25, s.wx % 256) in
      let latch : ℕ × ℕ = (26, 1) in
      let kept : (i : ℕ) → among i (13 ∷ 14 ∷ 24 ∷ 25 ∷ 26 ∷ []) ≡ false → get_or (placed after_trap state) i 0 ≡ get_or state i 0 = λ i h. away (w ∷ x ∷ fw ∷ fx ∷ latch ∷ []) state i h in
      let wx = ap₂ (λ h l. h * 256 + l) (there [] (x ∷ fw ∷ fx ∷ latch ∷ []) state 13 _ (omega (arith, long)) refl) (there (w ∷ []) (fw ∷ fx ∷ latch ∷ []) state 14 _ (omega (arith, long)) refl) ∙ split address 8 in
      let fwx = ap₂ (λ h l. h * 256 + l) (there (w ∷ x ∷ []) (fx ∷ latch ∷ []) state 24 _ (omega (arith, long)) refl) (there (w ∷ x ∷ fw ∷ []) (latch ∷ []) state 25 _ (omega (arith, long)) refl) ∙ split s.wx 8 in
      let owed = there (w ∷ x ∷ fw ∷ fx ∷ []) [] state 26 1 (omega (arith, long)) refl in
      λ k. record {
        i = kept 0 refl k;
        j = kept 1 refl k;
        u = kept 2 refl k;
        v = kept 3 refl k;
        l = kept 4 refl k;
        t = kept 5 refl k;
        d = kept 6 refl k;
        r = kept 7 refl k;
        s = kept 8 refl k;
        g = kept 9 refl k;
        h = kept 10 refl k;
        m = kept 11 refl k;
        n = kept 12 refl k;
        wx = wx k;
        ac = not (eqb (kept 15 refl k) 0);
        one_bc = not (eqb (kept 16 refl k) 0);
        z0 = not (eqb (kept 17 refl k) 0);
        allow_write = not (eqb (kept 18 refl k) 0);
        local_selected = not (eqb (kept 19 refl k) 0);
        arriving = not (eqb (kept 20 refl k) 0);
        arriving_byte = kept 21 refl k;
        digit_carry = not (eqb (kept 22 refl k) 0);
        invalid = not (eqb (kept 23 refl k) 0);
        fwx = fwx k;
        owed = not (eqb (owed k) 0);
      }

  pub trap_placed : (t : State) → trap_of address (loaded state) ≡ Ok t → loaded (placed t state) ≡ t
  unfolding after_trap
  trap_placed t taken = subst (λ (x : State). loaded (placed x state) ≡ x) (taken_is address (loaded state) t taken).1 back

  -- be it taken or refused, the record then shows the state after the trap
  pub trap_shown : loaded (trap_call address state).lent ≡ state_after (loaded state) (trap_of address (loaded state))
  unfolding trap_call
  trap_shown = rw (le-ltb (length state) record_length long) (by (trap_of address (loaded state)) refl)
    where
      by : (a : Result State Refusal) → trap_of address (loaded state) ≡ a → loaded (answer_trap a state).lent ≡ state_after (loaded state) a
      by (Ok t) e = trap_placed t e
      by (Err r) e = refl
