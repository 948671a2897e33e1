use Rattle.doc_run.proofs.Public.{unchanged_of}
use Rattle.run_rows.proofs.runs.blank_session.Goals as goal

pub returns-in-Ok : goal.returns-in-Ok
returns-in-Ok c = unchanged_of _ c.in-Ok.session c.in-Ok.ensures
