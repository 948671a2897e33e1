use Rattle.std.proofs.Common.{sym, subst, map, arith, take, rules}
use Rattle.std.proofs.lemmas.List.{length-map}
use Rattle.std.proofs.lemmas.Result.{err_from_is_err_and}
use Rattle.serde_json.specs.Data.{Data, array}
use Rattle.serde_json.specs.View.{view, items_view}
use Rattle.json_doc.specs.CarriedParts.{streams_json}
use Rattle.json_doc.specs.CarriedReading.{stream_of_value, AreFormedStreams, IsNoStream}
use Rattle.cfb_streams.specs.Contents.{AreStreams, AreStored}
use Rattle.doc_model.specs.Carried.{AreCarriedStreams}
use Rattle.json_doc.proofs.ListLemmas.{AreGiven}
use Rattle.json_doc.proofs.CarriedLemmas.{one_added, streams_unread, streams_same, streams_read, stored_all}
use Rattle.json_doc.proofs.ValueLemmas.{more_values, at_value, front_values, all_values, reads_err}
use Rattle.json_doc.proofs.carried_reading.streams_from.Goals as goal

pub returns-in_err-add_stream : goal.returns-in_err-add_stream
returns-in_err-add_stream c =
    let values = c.args.values.now in
    let i = c.loop-value.value-index in
    let old = c.loop-value.streams in
    let p = err_from_is_err_and c.from_residual.result c.from_residual.ensures.1 in
    rw (p.1, p.2) (reads_err streams_json AreFormedStreams (array (items_view values)) c.in_err-add_stream.field-0.0
    (λ shape. streams_unread (map view values) i old
    (omega (arith, c.loop-value-test.true, length-map {B = Data} values))
    (subst (λ ds. AreGiven stream_of_value ds old) (front_values values i) c.loop-value.invariant)
    (subst (λ d. IsNoStream d old) (sym (at_value values i c.value-item.result c.loop-value-test.true c.value-item.is))
    (c.in_err-add_stream.ensures shape))))

pub loop-value-preserved : goal.loop-value-preserved
loop-value-preserved c =
    let values = c.args.values.now in
    let i = c.loop-value.value-index in
    subst (λ ds. AreGiven stream_of_value ds c.add_stream.new.streams)
    (sym (more_values values i c.value-item.result c.loop-value-test.true c.value-item.is))
    (one_added (map view (take i values)) c.loop-value.streams c.add_stream.new.streams (view c.value-item.result)
    c.loop-value.invariant c.in_ok-add_stream.ensures)

pub returns-then-not-are_carried : goal.returns-then-not-are_carried
returns-then-not-are_carried c = λ xs formed e.
    let values = c.args.values.now in
    let streams = c.loop-value.streams in
    let given = subst (λ ds. AreGiven stream_of_value ds streams) (all_values values c.loop-value.value-index
    c.loop-value-test.false) c.loop-value.invariant in
    let same = streams_same (map view values) streams xs given formed e in
    absurd (search (rules, c.are_carried.ensures.1 (subst AreCarriedStreams (sym same) formed.carried)))

pub returns : goal.returns
returns c =
    let values = c.args.values.now in
    let streams = c.loop-value.streams in
    let given = subst (λ ds. AreGiven stream_of_value ds streams) (all_values values c.loop-value.value-index
    c.loop-value-test.false) c.loop-value.invariant in (
      record {
        ordered = subst AreStreams c.streams-2.view_is c.streams-2.invariant.0;
        stored = stored_all streams (subst AreStored c.streams-2.view_is c.streams-2.invariant.1);
        carried = c.are_carried.ensures.0 (search rules);
      },
      λ order. streams_read (map view values) streams given order,
    )
