use Rattle.std.proofs.Common.{[], sym, subst, map, arith, take}
use Rattle.std.proofs.lemmas.List.{length-map}
use Rattle.std.proofs.lemmas.Result.{err_from_is_err_and}
use Rattle.serde_json.specs.Data.{Data, array}
use Rattle.serde_json.specs.View.{view, items_view}
use Rattle.doc_model.specs.Document.{IsFormedText}
use Rattle.json_doc.specs.Pieces.{text_json}
use Rattle.json_doc.specs.PieceReading.{IsNoPiece}
use Rattle.json_doc.proofs.CutTextLemmas.{AreTaken, one_taken, none_taken, taken_same, text_unread}
use Rattle.json_doc.proofs.TextReadLemmas.{none_over}
use Rattle.json_doc.proofs.ValueLemmas.{more_values, at_value, front_values, all_values, reads_err}
use Rattle.json_doc.proofs.piece_reading.items_in.Goals as goal

pub loop-value-init : goal.loop-value-init
loop-value-init c = record {
  taken = subst (AreTaken []) (sym c.new.ensures) none_taken;
  ends = none_over c.new.result c.new.ensures;
}

pub returns-in_err-grown : goal.returns-in_err-grown
returns-in_err-grown c =
    let values = c.args.values.now in
    let i = c.loop-value.value-index in
    let items = c.loop-value.grown.text in
    let p = err_from_is_err_and c.from_residual.result c.from_residual.ensures.1 in
    rw (p.1, p.2) (reads_err text_json IsFormedText (array (items_view values)) c.in_err-grown.field-0.0
    (λ shape. text_unread (map view values) i items
    (omega (arith, c.loop-value-test.true, length-map {B = Data} values))
    (subst (λ ds. AreTaken ds items) (front_values values i) c.loop-value.invariant.taken)
    (subst (λ d. IsNoPiece d items) (sym (at_value values i c.value-item.result c.loop-value-test.true c.value-item.is))
    (c.in_err-grown.ensures shape))))

pub loop-value-preserved : goal.loop-value-preserved
loop-value-preserved c =
    let values = c.args.values.now in
    let i = c.loop-value.value-index in
    record {
      taken =
          subst (λ ds. AreTaken ds c.in_ok-grown.grown.text)
          (sym (more_values values i c.value-item.result c.loop-value-test.true c.value-item.is))
          (one_taken (map view (take i values)) c.loop-value.grown.text c.in_ok-grown.grown.text
          (view c.value-item.result) c.loop-value.invariant.taken c.in_ok-grown.ensures.0);
      ends = c.in_ok-grown.ensures.1;
    }

pub returns : goal.returns
returns c =
    let values = c.args.values.now in
    let items = c.loop-value.grown.text in
    let taken : AreTaken (map view values) items =
    subst (λ ds. AreTaken ds items) (all_values values c.loop-value.value-index c.loop-value-test.false)
    c.loop-value.invariant.taken in (
      c.len-len.ensures.formed,
      λ order. taken_same (map view values) items taken order,
    )
