-- One turn: what 32 tells, and what the turn is past it. Assumes nothing.
use Prim.Native.Nat.{ℕ}
use mathlib.Core.Path.{◌≡◌, refl, sym, ap, subst, ◌∙◌}
use mathlib.Core.List.{List, ◌∷◌}
use mathlib.Core.Bool.{Bool, true, false, cond, ◌&&◌, ◌||◌}
use mathlib.Core.Logic.{inl, inr}
use native.Mathlib.Omega.{arith}
use borrow.Author.Tests.{lt-ltb, ltb-true, ltb-false, leb-true, leb-false}
use lib.Dec.{ltb, leb}
use lib.ListN.{length, get_or}
use Rattle.digits.specs.Refusal.{first}
use Rattle.digits.specs.Sizes.{sizes_wrong}
use Rattle.digits.specs.declared.refusal.Refusal.{Refusal}
use Rattle.digits.specs.declared.refusal.Refusal.TheVariants as R
use Rattle.digits.proofs.Truth.{zero_one, neither}
use Rattle.word.specs.Layout.{fields_of}
use Rattle.word.specs.declared.Fields.{Fields}
use Rattle.codes.specs.declared.Reading.{Reading}
use Rattle.storage.specs.Storage.{Within, Beyond}
use Rattle.storage.specs.declared.Fence.{Fence}
use Rattle.machine.specs.Cycle.{Outcome, outcome, stops, word_at, next_word_checks, decided, cycle_in}
use Rattle.machine.specs.Fenced.{SameIn, AlikeIn}
use Rattle.machine.specs.declared.State.{State}
use Rattle.machine.specs.declared.Cycled.{Cycled}
use Rattle.machine.specs.declared.Cycled.TheVariants.{Refused}
use Rattle.machine.specs.declared.Cycled.TheVariants as C
use Rattle.machine.proofs.Promises.{Kept, stop_keeps, refusal_keeps, sizes_stay}
use Rattle.machine.proofs.Fenced.{reads_inside, changes_inside}
use Rattle.session.specs.Opening.{fence_wrong, meet, fences_wrong}
use Rattle.session.specs.Turn.{turn_of}

-- ---- fences for which 32 is not given

module _ (main : ℕ) (a b : Fence) (right : fences_wrong main a b ≡ false) where
  parts : (fence_wrong main a ≡ false) × ((fence_wrong main b ≡ false) × (meet a b ≡ false))
  parts =
      let (p, q) = neither (fence_wrong main a) (fence_wrong main b || meet a b) right in
      (p, neither (fence_wrong main b) (meet a b) q)

  -- they have no address in common
  pub apart : (i : ℕ) → Within a i → Within b i → ⊥
  apart i (la, ha) (lb, hb) =
      let none = parts.1.1 in
      let met : meet a b ≡ true = rw (lt-ltb a.start b.end (omega arith), lt-ltb b.start a.end (omega arith)) in
      zero_one cc

  -- nor is it given for them the other way round
  pub turned_round : fences_wrong main b a ≡ false
  turned_round =
      let (p, q) = parts in
      rw (p, q.0) (exchanged (ltb a.start b.end) (ltb b.start a.end) q.1)
    where
      exchanged : (p q : Bool) → p && q ≡ false → q && p ≡ false
      exchanged true true h = h
      exchanged true false h = refl
      exchanged false true h = refl
      exchanged false false h = refl

-- ---- the turn

module _ (own other : Fence) (reading : Reading) (store main local : List ℕ) (s : State) where
  abbrev its_turn : Outcome Cycled
  its_turn = turn_of own other reading store main local s

  abbrev by_tests : Bool → Bool → Outcome Cycled
  by_tests sizes fences =
      let f : Fields = fields_of (word_at store s) in
      decided reading (first ((R.Size, sizes) ∷ (R.Fence, fences) ∷ next_word_checks own reading store (length main) s)) (stops f) f main local s

  -- past 32 it is the cycle in the board's own fence
  pub turn_is : fences_wrong (length main) own other ≡ false → its_turn ≡ cycle_in own reading store main local s
  unfolding turn_of cycle_in
  turn_is right = ap (by_tests (sizes_wrong (length store) (length main) (length local))) right

  pub turn_1 : sizes_wrong (length store) (length main) (length local) ≡ true → its_turn ≡ outcome (Refused s R.Size) main local
  unfolding turn_of
  turn_1 wrong = ap (λ (b : Bool). by_tests b (fences_wrong (length main) own other)) wrong

  pub turn_32 : sizes_wrong (length store) (length main) (length local) ≡ false → fences_wrong (length main) own other ≡ true → its_turn ≡ outcome (Refused s R.Fence) main local
  unfolding turn_of
  turn_32 sizes wrong = λ i. by_tests (sizes i) (wrong i)

  -- where the fences are wrong nothing is done
  refused : fences_wrong (length main) own other ≡ true → its_turn ≡ outcome (Refused s (cond (sizes_wrong (length store) (length main) (length local)) R.Size R.Fence)) main local
  refused wrong = by (sizes_wrong (length store) (length main) (length local)) refl
    where
      by : (b : Bool) → sizes_wrong (length store) (length main) (length local) ≡ b → its_turn ≡ outcome (Refused s (cond b R.Size R.Fence)) main local
      by true e = turn_1 e
      by false e = turn_32 e wrong

  -- so a turn does nothing, or is the cycle
  by_turn : (P : Outcome Cycled → Type 0) → ((why : Refusal) → P (outcome (Refused s why) main local)) → (fences_wrong (length main) own other ≡ false → P (cycle_in own reading store main local s)) → P its_turn
  by_turn P refuses runs = by (fences_wrong (length main) own other) refl
    where
      by : (b : Bool) → fences_wrong (length main) own other ≡ b → P its_turn
      by true e = subst P (sym (refused e)) (refuses _)
      by false e = subst P (sym (turn_is e)) (runs e)

  pub turn_size : length its_turn.main ≡ length main
  turn_size = by_turn (λ (o : Outcome Cycled). length o.main ≡ length main) (λ n. refl) (λ right. (sizes_stay own reading store main local s).of_main)

  pub turn_keeps : (i : ℕ) → Beyond own i → get_or its_turn.main i 0 ≡ get_or main i 0
  turn_keeps i out = by_turn (λ (o : Outcome Cycled). get_or o.main i 0 ≡ get_or main i 0) (λ n. refl) (λ right. changes_inside own reading store main local s i out)

  -- a stop and a refusal leave everything
  pub turn_stops : (t : State) → its_turn.answer ≡ C.Stopped t → Kept main local s t its_turn
  turn_stops t = by_turn (λ (o : Outcome Cycled). o.answer ≡ C.Stopped t → Kept main local s t o) (λ n e. absurd (zero_one cc)) (λ right. stop_keeps own reading store main local s t)

  pub turn_refuses : (t : State) (why : Refusal) → its_turn.answer ≡ Refused t why → Kept main local s t its_turn
  turn_refuses t why =
      by_turn (λ (o : Outcome Cycled). o.answer ≡ Refused t why → Kept main local s t o) (λ k e. record { state = cc; in_main = refl; in_local = refl })
      (λ right. refusal_keeps own reading store main local s t why)

  -- of the other's fence it changes nothing
  pub turn_spares : (i : ℕ) → Within other i → get_or its_turn.main i 0 ≡ get_or main i 0
  turn_spares i there =
      by_turn (λ (o : Outcome Cycled). get_or o.main i 0 ≡ get_or main i 0) (λ n. refl)
      (λ right. changes_inside own reading store main local s i (out (apart (length main) own other right i)))
    where
      out : (Within own i → Within other i → ⊥) → Beyond own i
      out never = by (ltb i own.start) (leb own.end i) refl refl
        where
          by : (p q : Bool) → ltb i own.start ≡ p → leb own.end i ≡ q → Beyond own i
          by true q e f = inl (ltb-true i own.start e)
          by false true e f = inr (leb-true own.end i f)
          by false false e f = absurd (never (ltb-false i own.start e, leb-false own.end i f) there)

-- what it answers and leaves depends on the bytes of the board's own fence alone
module _ (own other : Fence) (reading : Reading) (store m k local : List ℕ) (s : State) (same : SameIn own m k) where
  pub turn_alike : AlikeIn own (turn_of own other reading store m local s) (turn_of own other reading store k local s)
  turn_alike = by (fences_wrong (length m) own other) refl
    where
      size : fences_wrong (length m) own other ≡ fences_wrong (length k) own other
      size = ap (λ (n : ℕ). fences_wrong n own other) same.size

      by : (b : Bool) → fences_wrong (length m) own other ≡ b → AlikeIn own (turn_of own other reading store m local s) (turn_of own other reading store k local s)
      by true e =
          let p = refused own other reading store m local s e in
          let q = refused own other reading store k local s (sym size ∙ e) in
          rw (p, q) (record { answer = ap (λ (n : ℕ). Refused s (cond (sizes_wrong (length store) n (length local)) R.Size R.Fence)) same.size; in_main = same; in_local = refl })
      by false e =
          let p = turn_is own other reading store m local s e in
          let q = turn_is own other reading store k local s (sym size ∙ e) in
          rw (p, q) (reads_inside own reading store m k local s same)
