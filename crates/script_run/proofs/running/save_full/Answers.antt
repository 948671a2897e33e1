use Rattle.script_run.specs.States.{counts_in_full}
use Rattle.script_run.proofs.running.save_full.Goals as goal

pub returns-in-Ok-clause-ok : goal.returns-in-Ok-clause-ok
unfolding counts_in_full
returns-in-Ok-clause-ok c =
    let saved = c.in-Ok.ensures.ok in record { fits = saved.0; held = saved.1.0; is = saved.1.1 }
