-- Each function's ways to return, over plain values. Assumes nothing.
use Prim.Native.Nat.{ℕ, ◌<◌, ◌≤◌}
use mathlib.Core.Path.{◌≡◌, refl, sym, ap, subst, ◌∙◌}
use mathlib.Core.List.{List, [], ◌∷◌}
use mathlib.Core.Bool.{Bool, true, false, ◌||◌}
use native.Mathlib.Omega.{arith}
use borrow.Author.Tests.{lt-ltb, le-ltb, ltb-true, ltb-false}
use lib.Dec.{ltb}
use lib.IntN.{ℤ}
use lib.ListN.{length, set}
use mir.Syntax.{w64}
use mir.Val.{to_z, of_z}
use Rattle.std.specs.Prelude.{Option, Result, Ok, Err}
use Rattle.digits.specs.Refusal.{refusal_number}
use Rattle.digits.specs.declared.refusal.Refusal.{Refusal}
use Rattle.digits.specs.declared.refusal.Refusal.TheVariants as R
use Rattle.digits.proofs.Truth.{neither}
use Rattle.adder.specs.declared.Work.{Work}
use Rattle.word.specs.Word.{taken_apart, packed}
use Rattle.word.specs.declared.Fields.{Fields}
use Rattle.codes.specs.declared.Reading.{Reading}
use Rattle.machine.specs.Cycle.{Outcome, outcome, next_sum_of}
use Rattle.machine.specs.declared.State.{State}
use Rattle.trap.specs.Trap.{trap_of}
use Rattle.machine.specs.declared.Cycled.{Cycled}
use Rattle.run.specs.Run.{run_of}
use Rattle.run.specs.declared.Finished.{Finished}
use Rattle.decimal.specs.declared.Added.{Added}
use Rattle.digits.specs.Lent.{over}
use Rattle.signed.specs.Signed.{read_signed}
use Rattle.signed.proofs.Trips.{read_whole}
use Rattle.channels.specs.Channels.{record_length, loaded}
use Rattle.panel.specs.Fields.{fields_in}
use Rattle.panel.specs.Answers.{counted, refused, Answered, answered, answer_apart, take_apart_call, answer_packed, pack_call, Called, called, short, answer_cycle, cycled_by, call_by, ending_code, record_after, ran_by, run_call, answer_trap, trap_call, answer_next, next_sum_call, added_code, added_by, read_signed_call}

-- ---- a word

module _ (word address : ℕ) (fields : List ℕ) where
  pub apart_short : (n : ℕ) → n ≡ 19 → length fields < 18 → answered n fields ≡ take_apart_call word address fields
  unfolding take_apart_call
  apart_short n e h = rw (lt-ltb (length fields) 18 h, e)

  pub apart_is : 18 ≤ length fields → (a x : Result Fields Refusal) → a ≡ taken_apart word address → a ≡ x → answer_apart x fields ≡ take_apart_call word address fields
  unfolding take_apart_call
  apart_is h a x is e = ap (λ (y : Result Fields Refusal). answer_apart y fields) (sym e ∙ is) ∙ rw (le-ltb (length fields) 18 h)

module _ (fields : List ℕ) (address : ℕ) (word : List ℕ) where
  pub pack_short : (n : ℕ) → n ≡ 19 → ltb (length fields) 18 || ltb (length word) 1 ≡ true → answered n word ≡ pack_call fields address word
  unfolding pack_call
  pack_short n e h = rw (h, e)

  pub pack_is : ltb (length fields) 18 || ltb (length word) 1 ≡ false → (f : Fields) (p x : Result ℕ Refusal) → f ≡ fields_in fields → p ≡ packed f address → p ≡ x
      → answer_packed x word ≡ pack_call fields address word
  unfolding pack_call
  pack_is h f p x in-fields is e =
      ap (λ (y : Result ℕ Refusal). answer_packed y word) (sym e ∙ is ∙ ap (λ (g : Fields). packed g address) in-fields) ∙ rw h

-- the rooms that are lent, past 19
pub both_lent : (m n k l : ℕ) → ltb m k || ltb n l ≡ false → (k ≤ m) × (l ≤ n)
both_lent m n k l h = let (a, b) = neither (ltb m k) (ltb n l) h in (ltb-false m k a, ltb-false n l b)

-- an element at the front
pub front : {A : Type 0} (l : List A) (w : A) → 1 ≤ length l → set l 0 w ≡ over (w ∷ []) l
front [] w h = absurd (omega arith)
front (x ∷ l) w h = refl

-- ---- a cycle, a turn

module _ (cycle : State → Outcome Cycled) (main local state : List ℕ) where
  pub call_short : (r : ℕ) → length state < record_length → r ≡ refused R.Room → called r main local state ≡ call_by cycle main local state
  unfolding call_by
  call_short r h e = rw (lt-ltb (length state) record_length h, e)

  pub call_is : record_length ≤ length state → (m l out : List ℕ) (a : Cycled) (r : ℕ) → outcome a m l ≡ cycle (loaded state) → answered r out ≡ answer_cycle a state
      → called r m l out ≡ call_by cycle main local state
  unfolding call_by
  call_is h m l out a r o e =
      ap (λ (y : Answered ℕ). called y.number m l y.lent) e
      ∙ ap (λ (y : Outcome Cycled). cycled_by y state) o
      ∙ rw (le-ltb (length state) record_length h)

-- ---- a run

module _ (reading : Reading) (store main local state : List ℕ) (budget : ℕ) where
  pub run_short : (k r : ℕ) → length state < record_length → k ≡ refused R.Room → r ≡ counted k 0 → called r main local state ≡ run_call reading store main local state budget
  unfolding run_call
  run_short k r h e q = rw (lt-ltb (length state) record_length h, q, e)

  pub run_else : record_length ≤ length state → ran_by (run_of budget reading store main local (loaded state)) state ≡ run_call reading store main local state budget
  unfolding run_call
  run_else h = rw (le-ltb (length state) record_length h)

  -- a call is refused by 19, or is its run
  pub by_record : (P : Called → Type 0) → (length state < record_length → P (short main local state)) → (record_length ≤ length state → P (ran_by (run_of budget reading store main local (loaded state)) state))
      → P (run_call reading store main local state budget)
  by_record P refused ran = by (ltb (length state) record_length) refl
    where
      by : (b : Bool) → ltb (length state) record_length ≡ b → P (run_call reading store main local state budget)
      by true e = let h = ltb-true (length state) record_length e in subst P (run_short _ _ h refl refl) (refused h)
      by false e = let h = ltb-false (length state) record_length e in subst P (run_else h) (ran h)

  pub run_any : (m l out : List ℕ) (x : Reading) (s : State) (f : Finished) (k r : ℕ) → record_length ≤ length state → x ≡ reading → s ≡ loaded state
      → outcome f m l ≡ run_of budget x store main local s → out ≡ record_after f.count f.state state → k ≡ ending_code f.ending → r ≡ counted k f.count
      → called r m l out ≡ run_call reading store main local state budget
  run_any m l out x s f k r h read in_state o p e q =
      (λ i. called ((q ∙ ap (λ (n : ℕ). counted n f.count) e) i) m l (p i))
      ∙ ap (λ (z : Outcome Finished). ran_by z state) (o ∙ λ i. run_of budget (read i) store main local (in_state i))
      ∙ run_else h

-- ---- a trap

module _ (address : ℕ) (state : List ℕ) where
  pub trap_short : (n : ℕ) → n ≡ 19 → length state < record_length → answered n state ≡ trap_call address state
  unfolding trap_call
  trap_short n e h = rw (lt-ltb (length state) record_length h, e)

  pub trap_is : record_length ≤ length state → (s : State) (a x : Result State Refusal) → s ≡ loaded state → a ≡ trap_of address s → a ≡ x → answer_trap x state ≡ trap_call address state
  unfolding trap_call
  trap_is h s a x in_state is e =
      ap (λ (y : Result State Refusal). answer_trap y state) (sym e ∙ is ∙ ap (trap_of address) in_state) ∙ rw (le-ltb (length state) record_length h)

-- ---- the work of the next word

module _ (store state work : List ℕ) where
  pub next_short : (n : ℕ) → n ≡ 19 → ltb (length state) record_length || ltb (length work) 8 ≡ true → answered n work ≡ next_sum_call store state work
  unfolding next_sum_call
  next_short n e h = rw (h, e)

  pub next_is : ltb (length state) record_length || ltb (length work) 8 ≡ false → (s : State) (n x : Option Work) → s ≡ loaded state → n ≡ next_sum_of store s → n ≡ x
      → answer_next x work ≡ next_sum_call store state work
  unfolding next_sum_call
  next_is h s n x in_state is e = ap (λ (y : Option Work). answer_next y work) (sym e ∙ is ∙ ap (next_sum_of store) in_state) ∙ rw h

-- ---- decimal add, and add and subtract with signs

pub added : (m l : List ℕ) (a : Added) (r : ℕ) (o : Outcome Added) → outcome a m l ≡ o → r ≡ added_code a → outcome r m l ≡ added_by o
added m l a r o e q = (λ i. outcome (q i) m l) ∙ ap added_by e

-- ---- a signed field

module _ (field : List ℕ) (number : List ℤ) where
  -- past the answer's own refusal, 19 where no number is lent
  pub signed_short : (z : ℤ) (n : ℕ) → n ≡ 19 → Ok z ≡ read_signed field → length number < 1 → answered n number ≡ read_signed_call field number
  unfolding read_signed_call
  signed_short z n is e h = rw (← e, lt-ltb (length number) 1 h, is)

  pub signed_is : (z : ℤ) → Ok z ≡ read_signed field → 1 ≤ length number → answered 0 (set number 0 (to_z w64 (of_z w64 z))) ≡ read_signed_call field number
  unfolding read_signed_call
  signed_is z e h = rw (← e, le-ltb (length number) 1 h, read_whole field z (sym e)) (ap (answered 0) (front number z h))

  pub signed_refused : (r : Refusal) (n : ℕ) → n ≡ refusal_number r → Err r ≡ read_signed field → answered n number ≡ read_signed_call field number
  unfolding read_signed_call
  signed_refused r n is e = rw (← e, is)
