-- All of the room that is left is lent, which is enough. Assumes nothing.
use Prim.Native.Nat.{◌+◌}
use mathlib.Core.Path.{◌≡◌, ap, ◌∙◌}
use native.Mathlib.Omega.{arith}
use lib.ListN.{length}
use Rattle.std.specs.Result.{result_unwrap_or}
use Rattle.text.specs.Words.{words_of}
use Rattle.text.proofs.Rows.{words_short}
use Rattle.lamps.proofs.Told.{words_put}
use Rattle.lamps.proofs.endings.put_words.Goals as goal

pub overflow_add-result : goal.overflow_add-result
overflow_add-result c =
    let a = c.args in
    let put = words_put a.number a.at a.room.now c.words.new.room c.words.result c.requires c.words.ensures in
    let size : c.unwrap_or.result ≡ length (words_of a.number) = c.unwrap_or.ensures ∙ ap (λ r. result_unwrap_or r 0) put.0 in
    omega (arith, size, c.requires, words_short a.number)

pub returns-clause-upper_bound : goal.returns-clause-upper_bound
returns-clause-upper_bound c =
    let a = c.args in
    let put = words_put a.number a.at a.room.now c.words.new.room c.words.result c.requires c.words.ensures in
    let size : c.unwrap_or.result ≡ length (words_of a.number) = c.unwrap_or.ensures ∙ ap (λ r. result_unwrap_or r 0) put.0 in
    omega (arith, size, words_short a.number)

pub returns-clause-value : goal.returns-clause-value
returns-clause-value c =
    let a = c.args in
    let put = words_put a.number a.at a.room.now c.words.new.room c.words.result c.requires c.words.ensures in
    (ap (λ n. a.at + n) (c.unwrap_or.ensures ∙ ap (λ r. result_unwrap_or r 0) put.0), put.1)
