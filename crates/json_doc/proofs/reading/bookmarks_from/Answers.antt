use Rattle.std.proofs.Common.{[], ◌∷◌, List, ap, arith, length, length-append}
use Rattle.std.proofs.lemmas.Result.{err_from_is_err_and}
use Rattle.serde_json.specs.View.{items_view}
use Rattle.document_bookmarks.specs.declared.bookmark_order.Bookmark.{Bookmark}
use Rattle.edit_script.specs.Json.{each_of}
use Rattle.json_doc.specs.DocumentReading.{bookmark_of}
use Rattle.json_doc.proofs.ListLemmas.{value_lost, front_more, front_all}
use Rattle.json_doc.proofs.RowLemmas.{gives_err, gives_lost}
use Rattle.json_doc.proofs.reading.bookmarks_from.Goals as goal

pub returns-in_err-bookmark_in : goal.returns-in_err-bookmark_in
returns-in_err-bookmark_in c =
    let values = c.args.values.now in
    let p = err_from_is_err_and c.from_residual-in_err-bookmark_in.result
    c.from_residual-in_err-bookmark_in.ensures.1 in
    rw (p.1, p.2) (gives_err (each_of bookmark_of (items_view values)) c.in_err-bookmark_in.field-0.0
    (λ shape. value_lost bookmark_of values c.loop-value.value-index c.value-item.result c.loop-value-test.true
    c.value-item.is (gives_lost c.in_err-bookmark_in.ensures shape)))

pub loop-value-preserved : goal.loop-value-preserved
loop-value-preserved c =
    let old = c.loop-value.bookmarks in
    let bookmark = c.in_ok-bookmark_in.field-0 in
    let more = ap (λ (list : List Bookmark). length list) c.in_ok-add.ensures.ok in
    record {
      read = front_more bookmark_of c.args.values.now c.loop-value.value-index c.value-item.result old bookmark
          c.add.new.self c.loop-value-test.true c.value-item.is c.loop-value.invariant.read
          c.in_ok-bookmark_in.ensures c.in_ok-add.ensures.ok;
      few = omega (arith, more, length-append old (bookmark ∷ []), c.loop-value.invariant.few);
    }

pub returns : goal.returns
returns c =
    front_all bookmark_of c.args.values.now c.loop-value.value-index c.loop-value.bookmarks c.loop-value-test.false
    c.loop-value.invariant.read
