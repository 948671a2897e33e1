use Rattle.std.proofs.lemmas.Result.{on_ok_weaker}
use Rattle.script_run.specs.Commands.{listed}
use Rattle.script_run.proofs.RunLemmas.{makes_number, halts_number}
use Rattle.script_run.proofs.source.ScriptSource.make.Goals as goal

pub returns-clause-made : goal.returns-clause-made
returns-clause-made g c =
    on_ok_weaker c.run_command.result
    (λ makes. makes_number (listed c.args.self.now) c.args.index c.get.result.now c.args.session.now
    c.run_command.new.session _ _ (λ state at. c.get.ensures) makes)
    c.run_command.ensures.made

pub returns-clause-err : goal.returns-clause-err
returns-clause-err g c =
    halts_number (listed c.args.self.now) c.args.index c.get.result.now c.args.session.now _ c.run_command.result
    (λ state at. c.get.ensures) c.run_command.ensures.err
