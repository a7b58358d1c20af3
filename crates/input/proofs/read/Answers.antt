-- What a turn reads stands behind what was read before it. Assumes nothing.
use Rattle.std.proofs.Common.{rules, ◌≡◌, ℕ, ◌+◌, ◌≤◌, List, ◌++◌, length, take, sym, ap, subst, ◌∙◌, length-take-le}
use Rattle.std.proofs.Math.Seq.{take-append-add, take-append-le}
use Rattle.std.specs.Io.KnownBytes.{Consumes}
use Rattle.std.proofs.KnownBytes.{Consumes-trans}
use borrow.Rule.Slice.PartMut.{put_mid, post_of}
use Rattle.input.proofs.read.Goals as goal

-- the front, and the first bytes of the part that was read into
front_and_more : (a k n : ℕ) (xs ys : List ℕ) → a ≤ length xs → n ≤ length ys → take a xs ++ take n ys ≡ take (a + n) (put_mid a k xs ys)
front_and_more a k n xs ys within fits =
    let rest = post_of a k xs in
    ap (λ l. take a xs ++ l) (sym (take-append-le n ys rest fits)) ∙ sym (take-append-add (take a xs) (ys ++ rest) n) ∙ ap (λ m. take (m + n) (take a xs ++ (ys ++ rest))) (length-take-le a xs within)

pub loop-done-preserved : goal.loop-done-preserved
loop-done-preserved g c =
    let before = c.loop-done.invariant in
    let more = front_and_more c.loop-done.done _ c.in_ok-more.more c.loop-done.room c.read.new.buf before.0 c.in_ok-more.ensures.bound.0 in
    (search rules, subst (Consumes _ _) more (Consumes-trans _ _ _ _ _ before.1 c.in_ok-more.ensures.bytes.0))
