use Rattle.script_run.proofs.source.ScriptSource.count.Goals as goal

pub returns : goal.returns
returns c = c.len.ensures
