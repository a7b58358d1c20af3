-- A cycle in a fence neither reads nor changes a byte of main storage outside it. Assumes nothing.
use Prim.Native.Nat.{ℕ, zero, suc}
use mathlib.Core.Path.{◌≡◌, refl, sym, ap, subst, ◌∙◌}
use mathlib.Core.List.{List, [], ◌∷◌}
use mathlib.Core.Bool.{Bool, true, false, cond, not, ◌&&◌}
use native.Mathlib.Omega.{arith}
use mathlib.Core.Logic.{⊎_elim}
use lib.ListN.{length, get_or, set, length-set}
use lib.Seq.{get_or-set_other}
use Rattle.std.specs.Prelude.{Option, Some, None}
use Rattle.digits.specs.Refusal.{Check, first}
use Rattle.digits.specs.Sizes.{sizes_wrong}
use Rattle.digits.specs.declared.refusal.Refusal.{Refusal}
use Rattle.digits.specs.declared.refusal.Refusal.TheVariants as R
use Rattle.digits.proofs.Refusals.{first_none}
use Rattle.digits.proofs.Table.{each_split}
use Rattle.word.specs.Layout.{line_of, fields_of}
use Rattle.word.specs.Word.{fault_checks}
use Rattle.word.specs.declared.Fields.{Fields}
use Rattle.codes.specs.declared.Reading.{Reading}
use Rattle.storage.specs.Storage.{Beyond, outside, fetched_of, main_after, main_address}
use Rattle.storage.specs.declared.Access.{Access}
use Rattle.storage.specs.declared.Fence.{Fence}
use Rattle.storage.proofs.Inside.{inside_fetch, inside_put}
use Rattle.machine.specs.Sources.{entered, sum_in}
use Rattle.machine.specs.Cycle.{stops, access_in, step_checks, next_word_checks, cycle_checks, word_at, after, ran_of, decided, cycle_in}
use Rattle.machine.specs.Fenced.{SameIn, AlikeIn, ReadsInside, ChangesInside}
use Rattle.machine.specs.declared.State.{State}
use Rattle.machine.specs.declared.Cycled.TheVariants.{Ran}

-- past all checks the address is in the fence
past_11 : (fence : Fence) (reading : Reading) (store main local : List ℕ) (s : State) → let f = fields_of (word_at store s) in
    first (cycle_checks fence reading store main local s) ≡ None → stops f ≡ false → outside fence (length main) (access_in f s) ≡ false
past_11 fence reading store main local s e on =
    let w : ℕ = word_at store s in
    let none = first_none (cycle_checks fence reading store main local s) e in
    let steps = (each_split (λ (c : Check Refusal). c.1 ≡ false) (fault_checks w s.wx (line_of w)) (step_checks fence reading (fields_of w) (length main) s) none.1.1).1 in
    rw on at steps.1.0

-- ---- what runs

-- a byte is put at the same place of both
set_alike : (m k : List ℕ) (a v i : ℕ) → length m ≡ length k → get_or m i 0 ≡ get_or k i 0 → get_or (set m a v) i 0 ≡ get_or (set k a v) i 0
set_alike [] [] a v i l e = e
set_alike [] (y ∷ k) a v i l e = absurd (omega arith)
set_alike (x ∷ m) [] a v i l e = absurd (omega arith)
set_alike (x ∷ m) (y ∷ k) zero v zero l e = refl
set_alike (x ∷ m) (y ∷ k) zero v (suc i) l e = e
set_alike (x ∷ m) (y ∷ k) (suc a) v zero l e = e
set_alike (x ∷ m) (y ∷ k) (suc a) v (suc i) l e = set_alike m k a v i (omega arith) e

module _ (fence : Fence) (a : Access) where
  fetched_alike : (m k local : List ℕ) → outside fence (length m) a ≡ false → SameIn fence m k → fetched_of m local a ≡ fetched_of k local a
  fetched_alike m k local past same = by a.fetches a.local refl refl
    where
      by : (f l : Bool) → a.fetches ≡ f → a.local ≡ l
          → cond f (cond l (get_or local a.n 0) (get_or m (main_address a) 0)) 0 ≡ cond f (cond l (get_or local a.n 0) (get_or k (main_address a) 0)) 0
      by false l ef el = refl
      by true true ef el = refl
      by true false ef el = same.bytes (main_address a) (inside_fetch fence (length m) a past el ef).in_fence

  main_alike : (m k : List ℕ) (r : ℕ) → SameIn fence m k → SameIn fence (main_after m a r) (main_after k a r)
  main_alike m k r same = by (a.puts && not a.local)
    where
      by : (b : Bool) → SameIn fence (cond b (set m (main_address a) r) m) (cond b (set k (main_address a) r) k)
      by true =
          record {
            size = length-set m (main_address a) r ∙ same.size ∙ sym (length-set k (main_address a) r);
            bytes = λ i h. set_alike m k (main_address a) r i same.size (same.bytes i h);
          }
      by false = same

  main_keeps : (m : List ℕ) (r i : ℕ) → outside fence (length m) a ≡ false → Beyond fence i → get_or (main_after m a r) i 0 ≡ get_or m i 0
  main_keeps m r i past out = by a.puts a.local refl refl
    where
      by : (p l : Bool) → a.puts ≡ p → a.local ≡ l → get_or (cond (p && not l) (set m (main_address a) r) m) i 0 ≡ get_or m i 0
      by false l ep el = refl
      by true true ep el = refl
      by true false ep el =
          let there = (inside_put fence (length m) a past el ep).in_fence in
          get_or-set_other m (main_address a) i r 0 (λ e. ⊎_elim (λ low. omega arith) (λ high. omega arith) out)

-- ---- the whole cycle

module _ (fence : Fence) (reading : Reading) (f : Fields) (local : List ℕ) (s : State) where
  ran_alike : (m k : List ℕ) → outside fence (length m) (access_in f s) ≡ false → SameIn fence m k → AlikeIn fence (ran_of reading f m local s) (ran_of reading f k local s)
  unfolding ran_of
  ran_alike m k past same =
      let e : State = entered f s in
      let a : Access = access_in f s in
      record {
        answer = ap (λ (b : ℕ). Ran (after reading f (sum_in f e) a b e)) (fetched_alike fence a m k local past same);
        in_main = main_alike fence a m k e.r same;
        in_local = refl;
      }

  decided_alike : (found : Option Refusal) (stop : Bool) (m k : List ℕ) → (found ≡ None → stop ≡ false → outside fence (length m) (access_in f s) ≡ false) → SameIn fence m k
      → AlikeIn fence (decided reading found stop f m local s) (decided reading found stop f k local s)
  decided_alike (Some r) stop m k past same = record { answer = refl; in_main = same; in_local = refl }
  decided_alike None true m k past same = record { answer = refl; in_main = same; in_local = refl }
  decided_alike None false m k past same = ran_alike m k (past refl refl) same

  decided_keeps : (found : Option Refusal) (stop : Bool) (m : List ℕ) (i : ℕ) → (found ≡ None → stop ≡ false → outside fence (length m) (access_in f s) ≡ false) → Beyond fence i
      → get_or (decided reading found stop f m local s).main i 0 ≡ get_or m i 0
  unfolding ran_of
  decided_keeps (Some r) stop m i past out = refl
  decided_keeps None true m i past out = refl
  decided_keeps None false m i past out = main_keeps fence (access_in f s) m (entered f s).r i (past refl refl) out

pub reads_inside : ReadsInside
unfolding cycle_in
reads_inside fence reading store m k local s same =
    let f : Fields = fields_of (word_at store s) in
    let found : Option Refusal = first (cycle_checks fence reading store m local s) in
    let e : found ≡ first (cycle_checks fence reading store k local s) =
    ap (λ (size : ℕ). first ((R.Size, sizes_wrong (length store) size (length local)) ∷ next_word_checks fence reading store size s)) same.size in
    subst (λ (z : Option Refusal). AlikeIn fence (decided reading found (stops f) f m local s) (decided reading z (stops f) f k local s)) e
    (decided_alike fence reading f local s found (stops f) m k (past_11 fence reading store m local s) same)

pub changes_inside : ChangesInside
unfolding cycle_in
changes_inside fence reading store main local s i out =
    let f : Fields = fields_of (word_at store s) in
    decided_keeps fence reading f local s (first (cycle_checks fence reading store main local s)) (stops f) main i (past_11 fence reading store main local s) out
