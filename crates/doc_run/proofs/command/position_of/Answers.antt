use Rattle.doc_run.proofs.PositionLemmas.{position-parsed}
use Rattle.doc_run.proofs.command.position_of.Goals as goal

pub returns-in-Err : goal.returns-in-Err
returns-in-Err c pos is = position-parsed c.args.word.now pos c.parse.result _ c.parse.ensures.value.0 c.in-Err.is is
