-- 19, then the run. Assumes nothing.
use Rattle.panel.proofs.Calls.{run_short, run_any}
use Rattle.panel.proofs.panel_run.Goals as goal

pub returns-then-state-lt-STATE : goal.returns-then-state-lt-STATE
returns-then-state-lt-STATE c = run_short _ _ _ _ c.args.state.now _ _ _ c.if-state-lt-STATE.true c.refused.ensures c.counted.ensures

pub returns : goal.returns
returns c =
    run_any _ _ _ _ _ _ _ _ _ _ _ _ _ _ c.if-state-lt-STATE.false c.reading_of.ensures c.loaded.ensures c.run-finished.ensures c.save_after.ensures c.ending_code.ensures c.counted-2.ensures
