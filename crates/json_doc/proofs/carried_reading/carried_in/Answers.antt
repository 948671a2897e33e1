use Rattle.std.proofs.lemmas.Result.{err_from_is_err_and}
use Rattle.serde_json.specs.View.{view}
use Rattle.doc_model.specs.Formed.{IsFormedCarried}
use Rattle.json_doc.specs.CarriedParts.{carried_json}
use Rattle.json_doc.proofs.CarriedLemmas.{no_carried, carried_unread, carried_told}
use Rattle.json_doc.proofs.ValueLemmas.{tells_err}
use Rattle.json_doc.proofs.carried_reading.carried_in.Goals as goal

pub returns-in_err-fields : goal.returns-in_err-fields
returns-in_err-fields c =
    let p = err_from_is_err_and c.from_residual.result c.from_residual.ensures.1 in
    rw (p.1, p.2) (tells_err carried_json IsFormedCarried (view c.args.value.now) c.in_err-fields.field-0.0
    (λ shape. no_carried (view c.args.value.now) (c.in_err-fields.ensures shape)))

pub returns-in-Ok : goal.returns-in-Ok
returns-in-Ok c =
    carried_told (view c.args.value.now) c.in_ok-fields.fields (view c.in_ok-fields.value.now) c.in-Ok.streams
    c.carried_from.result c.in_ok-fields.ensures c.in-Ok.ensures.1.1 c.carried_from.ensures

pub returns-in-Err : goal.returns-in-Err
returns-in-Err c =
    tells_err carried_json IsFormedCarried (view c.args.value.now) c.in-Err.fault
    (λ shape. carried_unread (view c.args.value.now) c.in_ok-fields.fields (view c.in_ok-fields.value.now)
    c.in_ok-fields.ensures (c.in-Err.ensures shape))
