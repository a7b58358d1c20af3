-- The refusals in words, row by row. Assumes nothing.
use Prim.Native.Nat.{ℕ, zero, suc, ◌≤◌}
use Prim.Native.String.{String}
use mathlib.Core.Path.{◌≡◌, refl, sym}
use mathlib.Core.List.{List, [], ◌∷◌, map}
use denote.Bor.{Bor}
use borrow.Author.Rules.{rules}
use lib.ListN.{length, get_or}
use Rattle.digits.specs.Table.{Each}
use Rattle.text.specs.Ascii.{ascii}
use Rattle.text.specs.Words.{refusal_words, words_of}

-- what is made of an element at a place, or of another past the end
pub made_at : {A B : Type 0} (f : A → B) (l : List A) (i : ℕ) (d : A) → get_or (map f l) i (f d) ≡ f (get_or l i d)
made_at f [] i d = refl
made_at f (x ∷ l) zero d = refl
made_at f (x ∷ l) (suc i) d = made_at f l i d

-- the text that a reference among some points to
pub now_at : (bs : List (Bor (List ℕ))) (i : ℕ) (d : Bor (List ℕ)) → (get_or bs i d).now ≡ get_or (map (λ (b : Bor (List ℕ)). b.now) bs) i d.now
now_at bs i d = sym (made_at (λ (b : Bor (List ℕ)). b.now) bs i d)

short : (ws : List String) → Each (λ (w : String). length (ascii w) ≤ 64) ws → (i : ℕ) (e : String) → length (ascii e) ≤ 64 → length (ascii (get_or ws i e)) ≤ 64
short [] h i e f = f
short (w ∷ ws) h zero e f = h.0
short (w ∷ ws) h (suc i) e f = short ws h.1 i e f

-- 64 bytes are room for the words of every refusal
pub words_short : (number : ℕ) → length (words_of number) ≤ 64
unfolding words_of
words_short number = short refusal_words (search rules) number "no such refusal" (search rules)
