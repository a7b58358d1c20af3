-- Either entry answers from the run of its words. Assumes nothing.
use Rattle.std.proofs.Common.{◌∙◌}
use Rattle.codes.specs.declared.Reading.TheVariants.{Basic}
use Rattle.storage.specs.Storage.{whole}
use Rattle.run.specs.Run.{run_of}
use Rattle.decimal.specs.Entry.{bound, from_run, run_for, SUMMED, add_in}
use Rattle.apsp.specs.Entry.{signed_run, DONE, signed_of}
use Rattle.board.proofs.Laws.{entered}
use Rattle.board.proofs.add.summed.Goals as goal

pub returns-in-Add : goal.returns-in-Add
unfolding add_in
returns-in-Add c =
    let a = c.args in
    rw c.in-Add.is
    (c.answered.ensures ∙ (λ i. from_run SUMMED (run_of (bound a.size) Basic (c.words.ensures i) a.main.now a.local.now (c.start.ensures i)))
    ∙ entered SUMMED (run_for whole a.main.now a.local.now 256 512 a.size c.in-Add.carry) a.main.now a.local.now a.size c.requires.le_size c.requires.main_len)

pub returns-in-Signed : goal.returns-in-Signed
unfolding signed_of
returns-in-Signed c =
    let a = c.args in
    rw c.in-Signed.is
    (c.answered-in-Signed.ensures ∙ (λ i. from_run DONE (run_of (bound a.size) Basic (c.words-in-Signed.ensures i) a.main.now a.local.now (c.start-in-Signed.ensures i)))
    ∙ entered DONE (signed_run a.main.now a.local.now 256 512 a.size c.in-Signed.subtract) a.main.now a.local.now a.size c.requires.le_size c.requires.main_len)
