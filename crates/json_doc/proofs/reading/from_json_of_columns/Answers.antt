use Rattle.serde_json.specs.View.{view}
use Rattle.json_doc.proofs.JudgedLemmas.{read_told}
use Rattle.json_doc.proofs.reading.from_json_of_columns.Goals as goal

pub returns-in-Ok : goal.returns-in-Ok
returns-in-Ok c =
    read_told c.args.bytes.now (view c.in_ok-value.value) c.in-Ok.document c.check_read.result c.in_ok-value.ensures
    c.in-Ok.ensures.0 c.in-Ok.ensures.1 c.columns_are_formed.ensures c.check_read.ensures
