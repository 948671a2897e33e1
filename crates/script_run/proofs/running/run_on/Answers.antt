use Rattle.std.proofs.Common.{◌∙◌, subst}
use Rattle.doc_read.specs.Holds.{IsAccepted}
use Rattle.script_run.specs.Commands.{listed}
use Rattle.script_run.proofs.RunLemmas.{script_saved, told_at_end}
use Rattle.script_run.proofs.running.run_on.Goals as goal

pub returns-in-Err-clause-guards : goal.returns-in-Err-clause-guards
returns-in-Err-clause-guards g c = told_at_end _ (listed c.args.script.now) c.run_all.new.session _
    c.in_ok-run_all.ensures.ok

pub returns-clause-ends : goal.returns-clause-ends
returns-clause-ends g c =
    let run = c.in_ok-run_all.ensures.ok in
    let saves = c.count_saves.ensures in
    let bytes = c.bytes.ensures in
    record {
      accepted = run.passed;
      image =
          script_saved _ c.args.script.now c.run_all.new.session _ c.requires.saved run _ (c.in-Ok.ensures ∙
          bytes.bytes)
          (subst IsAccepted bytes.bytes bytes.accepted);
      count = c.len.ensures;
      fast = saves.fast;
      full = saves.full;
    }
