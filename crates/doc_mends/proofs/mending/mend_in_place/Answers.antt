use Rattle.std.proofs.Common.{◌≡◌, ◌∙◌, ◌++◌, ap, List, map}
use Rattle.doc_model.specs.declared.document.Document.{Document}
use Rattle.doc_mends.specs.declared.mends.Mend.{Mend}
use Rattle.doc_mends.specs.declared.mends.Mend.TheVariants.{NormalMark, PlainRow}
use Rattle.doc_mends.specs.NormalMarks.{with_normal_marks, wrong_marks}
use Rattle.doc_mends.specs.BrokenRows.{broken_rows}
use Rattle.doc_mends.specs.PlainRows.{with_plain_rows}
use Rattle.doc_mends.proofs.mending.mend_in_place.Goals as goal

pub returns-clause-document : goal.returns-clause-document
returns-clause-document c =
    c.in_ok-rows.ensures.document ∙ ap with_plain_rows c.in_ok-mends.ensures.document

pub returns-clause-mends : goal.returns-clause-mends
returns-clause-mends c =
    let before : Document = c.args.document.now in
    let marks : List Mend = c.in_ok-mends.mends.items in
    let rows : List Mend = c.deref.result.now in
    let rows_are : rows ≡ map PlainRow (broken_rows (with_normal_marks before)) =
    c.deref.ensures.value
    ∙ (c.in_ok-rows.ensures.mends
    ∙ ap (λ (d : Document). map PlainRow (broken_rows d)) c.in_ok-mends.ensures.document) in
    c.in_ok-extend_from_slice.ensures.items
    ∙ (ap (λ (l : List Mend). l ++ rows) c.in_ok-mends.ensures.mends
    ∙ ap (λ (l : List Mend). map NormalMark (wrong_marks before) ++ l) rows_are)
