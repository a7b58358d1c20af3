-- The entry of the shipped words in a fence, and its promise. Assumes nothing.
use mathlib.Core.Path.{◌∙◌}
use lib.ListN.{length}
use Rattle.codes.specs.declared.Reading.TheVariants.{Basic}
use Rattle.run.specs.Run.{run_in}
use Rattle.decimal.specs.Entry.{add_checks, start_with, bound, entry_by, SUMMED, add_in}
use Rattle.decimal.proofs.Checks.{accepted}
use Rattle.decimal.proofs.Kept.{promised}
use Rattle.decimal.proofs.add_in.Goals as goal

pub returns : goal.returns
unfolding add_in
returns c =
    let a = c.args in
    let m = a.main.now in
    let l = a.local.now in
    let checks = add_checks a.fence (length m) (length l) a.first a.second a.length in
    let is = c.entry.ensures ∙ (λ i. entry_by SUMMED checks (run_in (bound a.length) a.fence Basic (c.words.ensures i) m l (start_with a.first a.second a.length (c.with_bit-status.ensures i))) m l) in
    record { run = is; promise = promised checks a.fence m l a.first a.second a.length a.carry (accepted a.fence (length m) (length l) a.first a.second a.length) _ _ _ is }
