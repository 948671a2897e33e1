use Rattle.std.proofs.Common.{ap, arith, length, map, take, sym, subst, ◌+◌, ◌++◌, ◌∷◌, []}
use Rattle.std.proofs.lemmas.List.{length-map}
use Rattle.std.proofs.lemmas.Result.{err_from_is_err_and}
use Rattle.serde_json.specs.Data.{Data, array}
use Rattle.serde_json.specs.View.{view, items_view}
use Rattle.doc_model.specs.Document.{IsFormedText, AreFormedTexts}
use Rattle.json_doc.specs.Pieces.{text_json, texts_json}
use Rattle.json_doc.proofs.ReadLemmas.{AreRead, same_items, read_more, read_length, list_read}
use Rattle.json_doc.proofs.ValueLemmas.{more_values, all_values, reads_err, wrong_at, front_length}
use Rattle.json_doc.proofs.piece_reading.all_texts.Goals as goal

pub returns-then-values : goal.returns-then-values
returns-then-values c = λ x formed e.
    let values = c.args.values.now in
    let len = ap length (same_items (map view values) (map text_json x) e) in
    let few = formed.few in
    absurd (omega (arith, few, len, length-map {B = Data} values, length-map {B = Data} x, c.if-values.true))

pub returns-in_err-text_in : goal.returns-in_err-text_in
returns-in_err-text_in c =
    let values = c.args.values.now in
    let p = err_from_is_err_and c.from_residual.result c.from_residual.ensures.1 in
    rw (p.1, p.2) (reads_err texts_json AreFormedTexts (array (items_view values)) c.in_err-text_in.field-0.0
    (λ shape texts formed. wrong_at text_json IsFormedText values c.loop-value.value-index c.value-item.result
    c.loop-value-test.true c.value-item.is c.in_err-text_in.field-0.0 shape c.in_err-text_in.ensures texts formed.each))

pub add-requires : goal.add-requires
add-requires c =
    let values = c.args.values.now in
    let i = c.loop-value.value-index in
    let len = read_length text_json IsFormedText (map view (take i values)) c.loop-value.texts c.loop-value.invariant in
    omega (arith, len, front_length values i, c.loop-value-test.true, c.if-values.false)

pub loop-value-preserved : goal.loop-value-preserved
loop-value-preserved c =
    let values = c.args.values.now in
    let i = c.loop-value.value-index in
    let read = read_more text_json IsFormedText (map view (take i values)) c.loop-value.texts (view c.value-item.result)
    c.in_ok-text_in.field-0 c.loop-value.invariant c.in_ok-text_in.ensures in
    subst (λ texts. AreRead text_json IsFormedText (map view (take (i + 1) values)) texts) (sym c.in_ok-add.ensures.ok)
    (subst (λ ds. AreRead text_json IsFormedText ds (c.loop-value.texts ++ c.in_ok-text_in.field-0 ∷ []))
    (sym (more_values values i c.value-item.result c.loop-value-test.true c.value-item.is)) read)

pub returns : goal.returns
returns c =
    let values = c.args.values.now in
    let i = c.loop-value.value-index in
    let all = subst (λ ds. AreRead text_json IsFormedText ds c.loop-value.texts) (all_values values i
    c.loop-value-test.false) c.loop-value.invariant in
    let len = read_length text_json IsFormedText (map view values) c.loop-value.texts all in
    let read = list_read text_json IsFormedText (map view values) c.loop-value.texts all in (
      record { few = omega (arith, len, length-map {B = Data} values, c.if-values.false); each = read.0 },
      read.1,
    )
