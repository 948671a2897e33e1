use Rattle.std.proofs.Common.{[], sym, subst}
use Rattle.std.proofs.lemmas.Result.{err_from_is_err_and}
use Rattle.serde_json.specs.View.{items_view}
use Rattle.edit_script.specs.Json.{each_of}
use Rattle.edit_script.specs.Values.{short_number}
use Rattle.json_doc.proofs.ListLemmas.{AreGiven, value_lost, front_more, front_all}
use Rattle.json_doc.proofs.RowLemmas.{gives_err, gives_lost}
use Rattle.json_doc.proofs.style_reading.numbers_from.Goals as goal

pub loop-value-init : goal.loop-value-init
loop-value-init c = subst (AreGiven short_number []) (sym c.new-numbers.ensures) tt

pub returns-in_err-short_in : goal.returns-in_err-short_in
returns-in_err-short_in c =
    let values = c.args.values.now in
    let p = err_from_is_err_and c.from_residual.result c.from_residual.ensures.1 in
    rw (p.1, p.2) (gives_err (each_of short_number (items_view values)) c.in_err-short_in.field-0.0
    (λ shape. value_lost short_number values c.loop-value.value-index c.value-item.result c.loop-value-test.true
    c.value-item.is (gives_lost c.in_err-short_in.ensures.read shape)))

pub loop-value-preserved : goal.loop-value-preserved
loop-value-preserved c =
    front_more short_number c.args.values.now c.loop-value.value-index c.value-item.result c.loop-value.numbers
    c.in_ok-short_in.field-0 c.push_all.new.self c.loop-value-test.true c.value-item.is c.loop-value.invariant
    c.in_ok-short_in.ensures.read c.in_ok-push_all.ensures.ok

pub returns : goal.returns
returns c =
    front_all short_number c.args.values.now c.loop-value.value-index c.loop-value.numbers c.loop-value-test.false
    c.loop-value.invariant
