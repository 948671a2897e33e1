use Rattle.std.proofs.lemmas.Result.{on_ok_weaker}
use Rattle.script_run.specs.Generated.{generated}
use Rattle.script_run.proofs.RunLemmas.{makes_number, halts_number}
use Rattle.script_run.proofs.GeneratedStartLemmas.{generated_there}
use Rattle.script_run.proofs.generated.GeneratorSource.make.Goals as goal

pub returns-clause-made : goal.returns-clause-made
returns-clause-made g c =
    let seed = c.args.self.now.seed in
    let index = c.args.index in
    let there = generated_there seed index c.main_len.result c.quick_saves.result c.in_ok-command.command
    c.args.session.now _ c.requires.within c.main_len.ensures.len c.quick_saves.ensures c.in_ok-command.ensures in
    on_ok_weaker c.run_command.result
    (λ makes. makes_number (generated seed) index c.in_ok-command.command c.args.session.now c.run_command.new.session
    _ _ there makes)
    c.run_command.ensures.made

pub returns-clause-err : goal.returns-clause-err
returns-clause-err g c =
    let seed = c.args.self.now.seed in
    let index = c.args.index in
    let there = generated_there seed index c.main_len.result c.quick_saves.result c.in_ok-command.command
    c.args.session.now _ c.requires.within c.main_len.ensures.len c.quick_saves.ensures c.in_ok-command.ensures in
    halts_number (generated seed) index c.in_ok-command.command c.args.session.now _ c.run_command.result there
    c.run_command.ensures.err
