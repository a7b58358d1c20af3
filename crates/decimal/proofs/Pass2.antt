-- The second pass, a byte of each field at a time, downward: 0A, 0C to 0F, and four words of which the program's own make the sum. Assumes nothing.
use Prim.Native.Nat.{ℕ, zero, suc, ◌+◌, ◌*◌, ◌<◌, ◌≤◌}
use mathlib.Core.Path.{◌≡◌, refl, ap, ◌∙◌}
use mathlib.Core.List.{List, [], ◌∷◌}
use mathlib.Core.Bool.{Bool, true, false, ◌||◌}
use native.Mathlib.Omega.{arith}
use native.Mathlib.Nat.{add-zero}
use lib.Dec.{eqb, leb}
use lib.ListN.{length, get_or, set, length-set}
use lib.Seq.{set-get_or, get_or-set_other}
use Rattle.storage.specs.Storage.{beyond, access_of}
use Rattle.storage.specs.declared.Fence.{Fence}
use Rattle.storage.proofs.Inside.{In}
use Rattle.adder.specs.Adder.{sum_of}
use Rattle.adder.specs.declared.Sum.{Sum}
use Rattle.machine.specs.Sources.{entered, sum_in}
use Rattle.machine.specs.Branch.{next_of}
use Rattle.machine.specs.Status.{status_of}
use Rattle.codes.specs.Modelled.{unmodelled_of}
use Rattle.decimal.specs.Program.{program}
use Rattle.decimal.proofs.Steps.{Has, run, back}
use Rattle.decimal.proofs.Places.{branch, Marks, view, at, at_with, in_d, Block, then, said, look, walks, saved}
use Rattle.decimal.proofs.Pairs.{down, address, within, Lies, last_in, front_lies, same, some_left}

-- the words that lead to the sum
abbrev pub leading : List ℕ
leading = 0x0A ∷ 0x0C ∷ 0x0D ∷ 0x0E ∷ 0x0F ∷ []

-- both addresses one down, and the second field's byte in D
module _ (fence : Fence) (store local : List ℕ) (w : Has store program leading) (main : List ℕ) (fits : length main ≤ 65536) (a a⁺ b b⁺ l t : ℕ) (c : Bool) (m : Marks)
    (ea : a⁺ ≡ a + 1) (eb : b⁺ ≡ b + 1) (hb : In fence (length main) b) (byte : get_or main b 0 < 256) where
  pub lead : Block fence store local 5 (at 0x0A main (view a⁺ b⁺ l t c m)) (at_with 0x10 main (view a b l t c m) (in_d (get_or main b 0)))
  unfolding entered sum_in sum_of access_of next_of status_of unmodelled_of
  lead =
      look fence store local 0x0A main (view a⁺ b⁺ l t c m)
      (λ x right carry status.
      let down-b = down x.s b b⁺ eb in
      let in_b = ap (λ (p : ℕ × ℕ). leb (length main) (p.0 * 256 + p.1) || beyond fence (p.0 * 256 + p.1)) down-b ∙ within fence b (length main) hb fits in
      let is_b = ap (λ (p : ℕ × ℕ). get_or main (p.0 * 256 + p.1) 0) down-b ∙ ap (λ (k : ℕ). get_or main k 0) (address fence b (length main) hb fits) in
      walks fence store program leading w local (run 0x0A ∷ run 0x0C ∷ run 0x0D ∷ back 0x0E ∷ run 0x0F ∷ []) tt right
      (record {
        way = ((refl, refl), ((refl, refl), ((refl, in_b), ((refl, in_b), set-get_or main _ 0, ((refl, refl), tt)))));
        rests = refl;
        comes = refl;
        stores = refl;
        known = (record { first = down _ a a⁺ ea; second = down-b; l = refl; t = refl; carry = carry; status = simp saved status }, same _ (rw is_b byte) ∙ is_b);
      }))

-- how a program sums two bytes, by its marks, and what it makes of these: four words from 10 on, of which 12 writes the sum
pub record Summing (fence : Fence) (store local : List ℕ) : Type 1 where
  pub sum : Marks → ℕ → ℕ → Bool → Sum
  pub next : Marks → ℕ → Marks
  pub words : Has store program leading
  pub four : (main : List ℕ) → length main ≤ 65536 → (a b l k y : ℕ) (c : Bool) (m : Marks) → In fence (length main) a → k < 255 → (none : Bool) → eqb k 0 ≡ none
      → let z = sum m (get_or main a 0) y c in
      Block fence store local 4 (at_with 0x10 main (view a b l (suc k) c m) (in_d y)) (at (branch 0x0A none) (set main a z.result) (view a b l k z.ac (next m z.result)))

-- main storage, the carry and the marks, between two bytes
pub record Passing : Type 0 where
  pub main : List ℕ
  pub carry : Bool
  pub status : Marks

abbrev pub passing : List ℕ → Bool → Marks → Passing
passing main carry status = record { main = main; carry = carry; status = status }

-- a byte of the first field is written after each byte of the second that stands there was read
abbrev pub Clear : ℕ → ℕ → ℕ → Type 0
Clear a b n = (i j : ℕ) → j < i → i < n → b + j ≡ a + i → ⊥

module _ {fence : Fence} {store local : List ℕ} (p : Summing fence store local) (a b : ℕ) where
  -- the bytes at a + k and b + k
  abbrev pub summed : ℕ → Passing → Sum
  summed k s = p.sum s.status (get_or s.main (a + k) 0) (get_or s.main (b + k) 0) s.carry

  abbrev pub onward : ℕ → Passing → Passing
  onward k s = passing (set s.main (a + k) (summed k s).result) (summed k s).ac (p.next s.status (summed k s).result)

  -- n bytes, from the last on
  unfoldable pub pass : ℕ → Passing → Passing
  pass zero s = s
  pass (suc n) s = pass n (onward n s)

  -- it changes no byte past them
  pub pass_others : (n : ℕ) (s : Passing) (j : ℕ) → a + n ≤ j → get_or (pass n s).main j 0 ≡ get_or s.main j 0
  unfolding pass
  pass_others zero s j h = refl
  pass_others (suc n) s j h = pass_others n (onward n s) j (omega arith) ∙ get_or-set_other s.main (a + n) j (summed n s).result 0 (λ e. omega arith)

  -- what n bytes ask
  pub record Fits (n : ℕ) (s : Passing) : Type 0 where
    pub most : length s.main ≤ 65536
    pub in_a : Lies fence (length s.main) a n
    pub in_b : Lies fence (length s.main) b n
    pub clear : Clear a b n
    pub bytes : (i : ℕ) → i < n → get_or s.main (b + i) 0 < 256

  pub fits_on : (n : ℕ) (s : Passing) → Fits (suc n) s → Fits n (onward n s)
  fits_on n s f =
      let e = length-set s.main (a + n) (summed n s).result in
      record {
        most = rw e f.most;
        in_a = rw e (front_lies f.in_a);
        in_b = rw e (front_lies f.in_b);
        clear = λ i j h k. f.clear i j h (omega arith);
        bytes = λ i h. rw (get_or-set_other s.main (a + n) (b + i) (summed n s).result 0 (f.clear n i h (omega arith))) (f.bytes i (omega arith));
      }

  module _ (l : ℕ) where
    nine : (n : ℕ) (s : Passing) → n < 255 → Fits (suc n) s → (none : Bool) → eqb n 0 ≡ none
        → Block fence store local 9 (at 0x0A s.main (view (a + suc n) (b + suc n) l (suc n) s.carry s.status))
        (at (branch 0x0A none) (onward n s).main (view (a + n) (b + n) l n (onward n s).carry (onward n s).status))
    nine n s small f none e =
        then fence store local
        (lead fence store local p.words s.main f.most (a + n) (a + suc n) (b + n) (b + suc n) l (suc n) s.carry s.status (omega arith) (omega arith) (last_in f.in_b) (f.bytes n (omega arith)))
        (p.four s.main f.most (a + n) (b + n) l n (get_or s.main (b + n) 0) s.carry s.status (last_in f.in_a) small none e)

    pub all : (n : ℕ) (s : Passing) → n < 255 → Fits (suc n) s
        → Block fence store local (suc n * 9) (at 0x0A s.main (view (a + suc n) (b + suc n) l (suc n) s.carry s.status))
        (at 0x0B (pass (suc n) s).main (view a b l 0 (pass (suc n) s).carry (pass (suc n) s).status))
    unfolding pass
    all zero s small f =
        said fence store local refl (λ i. at 0x0B (onward 0 s).main (view (add-zero a i) (add-zero b i) l 0 (onward 0 s).carry (onward 0 s).status)) (nine 0 s small f true refl)
    all (suc n) s small f =
        said fence store local (omega arith) refl (then fence store local (nine (suc n) s small f false (some_left n)) (all n (onward (suc n) s) (omega arith) (fits_on (suc n) s f)))
