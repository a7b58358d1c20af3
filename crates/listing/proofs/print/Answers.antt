-- The deck's words listed, or its refusal. Assumes nothing.
use Prim.Native.Nat.{ℕ, ◌≤◌}
use mathlib.Core.Path.{◌≡◌, sym, ◌∙◌}
use mathlib.Core.List.{List}
use native.Mathlib.Omega.{arith}
use lib.ListN.{take, replicate, length-replicate}
use lib.Seq.{length-take-le}
use Rattle.std.specs.Prelude.{Ok}
use Rattle.listing.specs.Listing.{lines_of, text_of}
use Rattle.listing.proofs.Texts.{text_of_words, text_of_refusal}
use Rattle.deck.specs.Deck.{read_of, words_after}
use Rattle.listing.proofs.print.Goals as goal

-- the room for the words
abbrev room : List ℕ
room = replicate 4096 0

-- the words are few enough, and their lines are the text
words : (deck words : List ℕ) (count : ℕ) → Ok count ≡ read_of deck 4096 → words ≡ words_after deck room
    → (count ≤ 4096) × (lines_of (take count words) ≡ text_of deck)
words deck ws count e f =
    let r = text_of_words deck room count (length-replicate {A = ℕ} 4096 0) (sym e) in
    (r.0, rw f r.1)

pub slice_bounds-words-end : goal.slice_bounds-words-end
slice_bounds-words-end c =
    let f = c.read in
    omega (arith, words c.args.deck.now f.new.words c.in-Ok.count (sym c.in-Ok.is ∙ f.ensures.0) f.ensures.1)

pub slice_bounds-list-end : goal.slice_bounds-list-end
slice_bounds-list-end c =
    let f = c.read in
    sym (length-take-le c.in-Ok.count f.new.words (omega (arith, (words c.args.deck.now f.new.words c.in-Ok.count (sym c.in-Ok.is ∙ f.ensures.0) f.ensures.1).0, f.auto.words)))

pub returns-in-Ok : goal.returns-in-Ok
returns-in-Ok c =
    let f = c.read in
    rw (words c.args.deck.now f.new.words c.in-Ok.count (sym c.in-Ok.is ∙ f.ensures.0) f.ensures.1).1 at c.list.ensures

pub returns-in-Err : goal.returns-in-Err
returns-in-Err c =
    rw (c.number.ensures, text_of_refusal c.args.deck.now c.in-Err.why (rw (length-replicate {A = ℕ} 4096 0) at (sym c.read.ensures.0 ∙ c.in-Err.is))) at c.refusal.ensures
