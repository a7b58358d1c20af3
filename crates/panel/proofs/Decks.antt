-- The counts of a deck's answers are small. Assumes nothing.
use Prim.Native.Nat.{ℕ, zero, suc, ◌*◌, ◌/◌, ◌<◌, ◌≤◌}
use mathlib.Core.Path.{◌≡◌, refl}
use mathlib.Core.List.{List, map}
use native.Mathlib.Omega.{arith}
use lib.ListN.{length, take, drop, length-append, length-take, length-drop}
use Rattle.std.specs.Prelude.{Result, Ok, Err, IfOk}
use Rattle.digits.specs.Lists.{pieces, joined}
use Rattle.digits.specs.declared.refusal.Refusal.{Refusal}
use Rattle.deck.specs.Deck.{groups_of, blocks_of, words_in, words_of, read_of, write_of}
use Rattle.deck.proofs.Groups.{length_groups}
use Rattle.deck.proofs.Answers.{sized, few, was_read, wrote}

-- a block of 64 groups has at most 63 words
block_few : (gs : List ℕ) → length gs ≡ 64 → length (words_in gs) ≤ 63
block_few gs e = simp (length-take, length-drop) (omega arith)

blocks_few : (n : ℕ) (l : List ℕ) → length (joined (map words_in (map groups_of (pieces 512 n l)))) ≤ n * 63
blocks_few zero l = omega arith
blocks_few (suc n) l =
    let a = block_few (groups_of (take 512 l)) (length_groups (take 512 l)) in
    let b = blocks_few n (drop 512 l) in
    rw length-append (omega arith)

words_few : (deck : List ℕ) → length (words_of deck) ≤ length deck / 512 * 63
unfolding words_of blocks_of
words_few deck = blocks_few (length deck / 512) deck

pub read_few : (deck : List ℕ) (room n : ℕ) → read_of deck room ≡ Ok n → n ≤ 4221
read_few deck room n e =
    let r = was_read deck room n e in
    let h = (sized (length deck) r.length_right).most in
    let k = words_few deck in
    let c = r.count in
    omega arith

pub write_few : (ws : List ℕ) (room n : ℕ) → write_of ws room ≡ Ok n → n ≤ 34304
write_few ws room n e =
    let w = wrote ws room n e in
    let k = (few (length ws) w.length_right).1 in
    let c = w.count in
    omega arith

-- so they are numbers of C
abbrev pub Fits : Result ℕ Refusal → Type 0
Fits r = IfOk r (λ n. n < 4294967296)

fits_by : (answer : Result ℕ Refusal) (most : ℕ) → most < 4294967296 → ((n : ℕ) → answer ≡ Ok n → n ≤ most) → Fits answer
fits_by (Ok n) most small h = let k = h n refl in omega arith
fits_by (Err r) most small h = tt

pub read_fits : (deck : List ℕ) (room : ℕ) → Fits (read_of deck room)
read_fits deck room = fits_by (read_of deck room) 4221 (omega arith) (read_few deck room)

pub write_fits : (ws : List ℕ) (room : ℕ) → Fits (write_of ws room)
write_fits ws room = fits_by (write_of ws room) 34304 (omega arith) (write_few ws room)
