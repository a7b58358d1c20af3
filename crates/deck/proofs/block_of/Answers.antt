-- The head, the words, zeros, and the check of those last. Assumes nothing.
use Rattle.std.proofs.Common.{◌≡◌, ℕ, suc, ◌+◌, ◌-◌, ◌*◌, ◌^◌, List, [], ◌∷◌, ◌++◌, length, replicate, ap, ◌∙◌, arith}
use lib.Seq.{set_at}
use Rattle.digits.proofs.Copies.{copied_all}
use Rattle.deck.specs.Deck.{head_of, check_of, block_of}
use Rattle.deck.proofs.Written.{drop_zeros, length_padded, check_before}
use Rattle.deck.proofs.block_of.Goals as goal

pub returns : goal.returns
unfolding block_of
returns c =
    let a = c.args in
    let ws = a.words.now in
    let ys : List ℕ = ws ++ replicate (62 - length ws) 0 in
    let h : a.b * 2 ^ 48 + length ws * 2 ^ 32 ≡ head_of a.b (length ws) = omega arith in
    let y : c.copy.new.to ≡ ys = c.copy.ensures ∙ copied_all ws (replicate 62 0) (omega arith) ∙ ap (λ (l : List ℕ). ws ++ l) (drop_zeros (length ws) 62) in
    let n : length ys ≡ 62 = length_padded ws (omega arith) in
    let s : c.block_check.result ≡ check_of (head_of a.b (length ws) ∷ ys) =
    (rw (h, y) at c.block_check.ensures) ∙ check_before (head_of a.b (length ws) ∷ ys) (0 ∷ []) (ap suc n) in
    rw (h, y, s) (set_at (head_of a.b (length ws) ∷ ys) 0 [] _ 63 (ap suc n))
