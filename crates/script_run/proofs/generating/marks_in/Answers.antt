use Rattle.std.proofs.Common.{◌∙◌, ap, arith}
use Rattle.doc_columns.specs.Attached.{attached_of}
use Rattle.doc_columns.proofs.Public.{column_long}
use Rattle.script_run.specs.GeneratedRuns.{marks_beside}
use Rattle.script_run.proofs.MarkCountLemmas.{marks-map}
use Rattle.script_run.proofs.generating.marks_in.Goals as goal

pub count_marks-requires : goal.count_marks-requires
count_marks-requires c =
    let long =
    column_long c.attachments.result.now c.args.text.now attached_of c.len-len.result c.attachments.ensures
    c.len-len.ensures.len in
    let few = c.len-len.ensures.formed.few in
    omega (arith, long, few, c.len-len.ensures.len)

pub returns : goal.returns
returns c = c.count_marks.ensures ∙ ap marks_beside c.attachments.ensures ∙ marks-map c.args.text.now
