-- Demand 3 in a fence, and in a session. Assumes nothing.
use Prim.Native.Nat.{ℕ, zero, suc, ◌<◌}
use mathlib.Core.Path.{◌≡◌, refl, sym, ap, subst, ◌∙◌}
use mathlib.Core.List.{List, [], ◌∷◌}
use mathlib.Core.Bool.{Bool, true, false}
use native.Mathlib.Omega.{arith}
use lib.ListN.{length, replicate}
use Rattle.std.specs.Prelude.{Ok, None}
use Rattle.digits.specs.Refusal.{Check, first}
use Rattle.digits.specs.Sizes.{storage_wrong}
use Rattle.digits.specs.declared.refusal.Refusal.{Refusal}
use Rattle.digits.specs.declared.refusal.Refusal.TheVariants as R
use Rattle.digits.proofs.Refusals.{first_none, given_none, result_tells}
use Rattle.codes.specs.declared.Reading.{Reading}
use Rattle.codes.specs.declared.Reading.TheVariants.{Basic}
use Rattle.storage.specs.Storage.{bytes_in}
use Rattle.storage.specs.declared.Fence.{Fence}
use Rattle.machine.specs.Cycle.{Outcome, outcome, cycle_in}
use Rattle.machine.specs.declared.Cycled.{Cycled}
use Rattle.machine.specs.declared.Cycled.TheVariants as C
use Rattle.machine.proofs.Promises.{sizes_stay}
use Rattle.run.specs.Run.{Cycle, ended, run_in}
use Rattle.run.specs.declared.Finished.{Finished}
use Rattle.run.proofs.Goes.{Machine, machine, Answers, Halts, Goes, here, next, lawful, standing}
use Rattle.run.proofs.Promises.{run_goes, run_halts}
use Rattle.decimal.specs.Program.{shipped}
use Rattle.decimal.specs.Entry.{field_checks, bound, run_for, answered_at, SUMMED, entry_by, add_in}
use Rattle.decimal.specs.Promise.{cycles_in}
use Rattle.decimal.specs.declared.Added.{Added}
use Rattle.decimal.specs.declared.Added.TheVariants as D
use Rattle.decimal.proofs.Checks.{Fit, checked}
use Rattle.decimal.proofs.Kept.{accepts, promised, count_in_lem}
use Rattle.session.specs.Opening.{fence_wrong, fences_wrong, open_checks, open_of}
use Rattle.session.specs.Turn.{state_in}
use Rattle.session.specs.Boards.{Own, own, Session, other, fence_of, own_of, with, Turned, turned_to, turned_of}
use Rattle.session.specs.Isolation.{same, Shown, shown_by, all_shown, turns_alone}
use Rattle.session.specs.Adding.{fenced_add_checks, fenced_add, PromiseIn, last_of, StopsInSession, Adds, AddsInSession}
use Rattle.session.specs.declared.Board.{Board}
use Rattle.session.specs.declared.Board.TheVariants.{A, B}
use Rattle.session.proofs.Turns.{turned_round, turn_is}
use Rattle.session.proofs.Isolation.{own_with, main_with, isolated}

-- ---- the entry

module _ (fence : Fence) (main local : List ℕ) (a b n : ℕ) (carry : Bool) where
  abbrev checks : List (Check Refusal)
  checks = fenced_add_checks fence (length main) (length local) a b n

  abbrev by_tests : Bool → Bool → Outcome Added
  by_tests sizes wrong = entry_by SUMMED ((R.Size, sizes) ∷ (R.Fence, wrong) ∷ field_checks fence (length main) a b n) (run_for fence main local a b n carry) main local

  pub on_1 : storage_wrong (length main) (length local) ≡ true → outcome (D.Refused R.Size) main local ≡ fenced_add fence main local a b n carry
  unfolding fenced_add
  on_1 e = ap (λ (sizes : Bool). by_tests sizes (fence_wrong (length main) fence)) (sym e)

  pub on_32 : storage_wrong (length main) (length local) ≡ false → fence_wrong (length main) fence ≡ true → outcome (D.Refused R.Fence) main local ≡ fenced_add fence main local a b n carry
  unfolding fenced_add
  on_32 e f = λ i. by_tests (sym e i) (sym f i)

  -- past 1 and 32 it is the entry in the fence
  pub on_right : fence_wrong (length main) fence ≡ false → add_in fence main local a b n carry ≡ fenced_add fence main local a b n carry
  unfolding fenced_add add_in
  on_right f = ap (by_tests (storage_wrong (length main) (length local))) (sym f)

  fit : first checks ≡ None → Fit fence (length main) (length local) a b n
  fit e = let none = first_none checks e in checked fence (length main) (length local) a b n none.0 none.1.1

  pub with_promise : (r : Added) (m l : List ℕ) → outcome r m l ≡ fenced_add fence main local a b n carry
      → (outcome r m l ≡ fenced_add fence main local a b n carry) × PromiseIn fence main local a b n carry r m l
  unfolding fenced_add
  with_promise r m l e = (e, promised checks fence main local a b n carry fit r m l e)

-- ---- a board that goes to a stop alone does so in a session

same_self : (x : Board) → same x x ≡ true
same_self A = refl
same_self B = refl

-- alone, all turns are its own
all_own : (x : Board) (turns : List Board) → turns_alone x turns ≡ replicate (length (turns_alone x turns)) x
all_own x [] = refl
all_own A (A ∷ ys) = ap (λ (l : List Board). A ∷ l) (all_own A ys)
all_own A (B ∷ ys) = all_own A ys
all_own B (A ∷ ys) = all_own B ys
all_own B (B ∷ ys) = ap (λ (l : List Board). B ∷ l) (all_own B ys)

module _ (x : Board) (a b : Fence) (reading : Reading) (store : List ℕ) where
  abbrev fence : Fence
  fence = fence_of x a b

  abbrev its : Cycle
  its = cycle_in fence reading store

  -- the board stands where a machine stands, and the fences are right
  record At (w : Session) (m : Machine) : Type 0 where
    pub mine : own_of x w ≡ own m.state m.local
    pub in_main : w.main ≡ m.main
    pub right : fences_wrong (length m.main) fence (fence_of (other x) a b) ≡ false

  -- a turn, by what the cycle answers there
  a_turn : (w : Session) (m z : Machine) (r : Cycled) → At w m → Answers its m r z → turned_of x a b reading store w ≡ turned_to r (with x (own (state_in r) z.local) z.main w)
  unfolding turned_of
  a_turn w m z r at e =
      let mine : Own = own_of x w in
      let right = ap (λ (k : List ℕ). fences_wrong (length k) fence (fence_of (other x) a b)) at.in_main ∙ at.right in
      ap (λ (o : Outcome Cycled). turned_to o.answer (with x (own (state_in o.answer) o.local) o.main w))
      (turn_is fence (fence_of (other x) a b) reading store w.main mine.local mine.state right ∙ (λ i. its (at.in_main i) (at.mine i).local (at.mine i).state) ∙ sym e)

  -- and then it stands where that leads
  at_next : (w : Session) (m z : Machine) (r : Cycled) → state_in r ≡ z.state → At w m → Answers its m r z → At (with x (own (state_in r) z.local) z.main w) z
  at_next w m z r s at e =
      record {
        mine = own_with x _ _ w ∙ (λ i. own (s i) z.local);
        in_main = main_with x _ _ w;
        right =
            ap (λ (k : ℕ). fences_wrong k fence (fence_of (other x) a b)) (ap (λ (o : Outcome Cycled). length o.main) e ∙ (sizes_stay fence reading store m.main m.local m.state).of_main)
            ∙ at.right;
      }

  -- one turn more
  shown_more : (k : ℕ) (w : Session) (t : Turned) → turned_of x a b reading store w ≡ t
      → all_shown x (replicate (suc k) x) a b reading store w ≡ shown_by x a b t ∷ all_shown x (replicate k x) a b reading store t.after
  unfolding all_shown
  shown_more k w t e = rw (same_self x, e)

  -- what it shows where it stops
  abbrev stopped : Machine → Shown
  stopped z = record { answer = C.Stopped z.state; own = own z.state z.local; bytes = bytes_in fence z.main }

  shows_stop : (w : Session) (z : Machine) → shown_by x a b (turned_to (C.Stopped z.state) (with x (own z.state z.local) z.main w)) ≡ stopped z
  shows_stop w z = λ i. record { answer = C.Stopped z.state; own = own_with x (own z.state z.local) z.main w i; bytes = bytes_in fence (main_with x (own z.state z.local) z.main w i) }

  -- there it stays
  stays : (k : ℕ) (w : Session) (z : Machine) → At w z → Halts its z → last_of (stopped z) (all_shown x (replicate k x) a b reading store w) ≡ stopped z
  unfolding all_shown
  stays zero w z at h = refl
  stays (suc k) w z at h =
      let r : Cycled = C.Stopped z.state in
      ap (last_of (stopped z)) (shown_more k w _ (a_turn w z z r at h))
      ∙ ap (λ (s : Shown). last_of s (all_shown x (replicate k x) a b reading store (with x (own z.state z.local) z.main w))) (shows_stop w z)
      ∙ stays k (with x (own z.state z.local) z.main w) z (at_next w z z r refl at h) h

  comes : (k : ℕ) {n : ℕ} {m z : Machine} (w : Session) (d : Shown) → At w m → Goes its n m z → Halts its z → n < k → last_of d (all_shown x (replicate k x) a b reading store w) ≡ stopped z
  comes zero w d at g h less = absurd (omega arith)
  comes (suc k) {n} {m} {z} w d at here h less =
      let r : Cycled = C.Stopped z.state in
      ap (last_of d) (shown_more k w _ (a_turn w z z r at h))
      ∙ ap (λ (s : Shown). last_of s (all_shown x (replicate k x) a b reading store (with x (own z.state z.local) z.main w))) (shows_stop w z)
      ∙ stays k (with x (own z.state z.local) z.main w) z (at_next w z z r refl at h) h
  comes (suc k) {n} {m} {z} w d at (next {x = y} l g) h less =
      let r : Cycled = C.Ran y.state in
      let v : Session = with x (own y.state y.local) y.main w in
      ap (last_of d) (shown_more k w _ (a_turn w m y r at l)) ∙ comes k v (shown_by x a b (turned_to r v)) (at_next w m y r refl at l) g h (omega arith)

opened : (main : ℕ) (a b : Fence) → open_of main a b ≡ Ok tt → fences_wrong main a b ≡ false
opened main a b e = (given_none result_tells tt tt (λ p. refl) (open_checks main a b) e).0.0

-- right fences are right for either board
right_for : (x : Board) (a b : Fence) (main : ℕ) → open_of main a b ≡ Ok tt → fences_wrong main (fence_of x a b) (fence_of (other x) a b) ≡ false
right_for A a b main e = opened main a b e
right_for B a b main e = turned_round main a b (opened main a b e)

pub stops_in_session : StopsInSession
stops_in_session x turns a b reading store w budget n t main local d opened e less =
    let mine : Own = own_of x w in
    let fence : Fence = fence_of x a b in
    let r : Outcome Finished = run_in budget fence reading store w.main mine.local mine.state in
    let law = lawful fence reading store in
    let g = subst (λ (o : Outcome Finished). Goes (cycle_in fence reading store) o.answer.count (machine mine.state w.main mine.local) (standing o)) e (run_goes law budget w.main mine.local mine.state) in
    let h = subst (λ (o : Outcome Finished). Halts (cycle_in fence reading store) (standing o)) e (run_halts law budget w.main mine.local mine.state (ap (λ (o : Outcome Finished). o.answer.ending) e)) in
    ap (last_of d) (isolated x turns a b reading store w ∙ ap (λ (l : List Board). all_shown x l a b reading store w) (all_own x turns))
    ∙ comes x a b reading store (length (turns_alone x turns)) w d (record { mine = refl; in_main = refl; right = right_for x a b (length w.main) opened }) g h less

-- ---- the shipped words

pub adds_in_session : AddsInSession
unfolding fenced_add
adds_in_session x turns fence-a fence-b w a b n carry d opened begins accepted less =
    let fence : Fence = fence_of x fence-a fence-b in
    let mine : Own = own_of x w in
    let r : Outcome Finished = run_for fence w.main mine.local a b n carry in
    let is = accepts SUMMED (checks fence w.main mine.local a b n carry) r w.main mine.local n accepted in
    let p = (with_promise fence w.main mine.local a b n carry _ _ _ is).1 in
    let count : cycles_in (answered_at SUMMED r.answer) ≡ r.answer.count = count_in_lem SUMMED r.answer in
    let ran = ap (λ (o : Outcome Added). cycles_in o.answer) is in
    let e = ap (run_in (bound n) fence Basic shipped w.main mine.local) begins ∙ (λ i. ended (p.stops accepted i) r.answer.state r.answer.count r.main r.local) in
    subst (Adds fence mine w.main a b n carry) (sym (stops_in_session x turns fence-a fence-b Basic shipped w (bound n) r.answer.count r.answer.state r.main r.local d opened e (omega arith)))
    (record { stopped = refl; cycles = r.answer.count; left = r.main; bytes = refl; promise = p })
