use Rattle.doc_run.proofs.Public.{script_few}
use Rattle.run_rows.proofs.runs.runs.Goals as goal

pub ends-requires-clause-few : goal.ends-requires-clause-few
ends-requires-clause-few g c = script_few _ c.in-Ok.script c.in-Ok.ensures
