use Rattle.std.proofs.Common.{◌∙◌, length, ap, arith}
use Rattle.std.proofs.lemmas.List.{length-map}
use Rattle.run_lists.proofs.Public.{length-spread}
use Rattle.doc_columns.specs.Attached.{attached_of}
use Rattle.full_save.proofs.MeasureLemmas.{attached_measurable, attached_measure}
use Rattle.full_save.proofs.measures.measure_of.Goals as goal

pub runs_measure-requires-clause-few : goal.runs_measure-requires-clause-few
runs_measure-requires-clause-few c =
    let few = c.len-len.ensures.formed.few in
    omega (
      arith,
      few,
      length-spread c.attachments.result.now,
      ap length c.attachments.ensures,
      length-map c.args.text.now attached_of,
    )

pub runs_measure-requires-clause-each : goal.runs_measure-requires-clause-each
runs_measure-requires-clause-each c =
    attached_measurable c.args.measure c.args.text.now _ c.attachments.ensures c.requires

pub returns-clause-is : goal.returns-clause-is
returns-clause-is c =
    c.runs_measure.ensures.is ∙ attached_measure c.args.measure c.args.text.now _ c.attachments.ensures

pub returns-clause-bound : goal.returns-clause-bound
returns-clause-bound c =
    let bound = c.runs_measure.ensures.bound in
    omega (
      arith,
      bound,
      length-spread c.attachments.result.now,
      ap length c.attachments.ensures,
      length-map c.args.text.now attached_of,
    )
