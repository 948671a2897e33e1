use Rattle.std.proofs.lemmas.Result.{err_from_is_err_and}
use Rattle.serde_json.specs.View.{view}
use Rattle.doc_model.specs.declared.document.Document.{Document}
use Rattle.json_doc.specs.DocumentReading.{SixValues}
use Rattle.json_doc.proofs.DocumentLemmas.{no_document, document_told}
use Rattle.json_doc.proofs.DocumentTextLemmas.{no_sheet, no_carried}
use Rattle.json_doc.proofs.reading.document_in.Goals as goal

pub returns-in_err-parts : goal.returns-in_err-parts
returns-in_err-parts c =
    let p = err_from_is_err_and c.from_residual.result c.from_residual.ensures.1 in
    rw (p.1, p.2) (λ shape document whole. no_document (view c.args.value.now) (c.in_err-parts.ensures shape) document)

pub returns-in_err-texts : goal.returns-in_err-texts
returns-in_err-texts c =
    let p = err_from_is_err_and c.from_residual-in_err-texts.result c.from_residual-in_err-texts.ensures.1 in
    rw (p.1, p.2) (λ shape. c.in_err-texts.ensures shape (view c.args.value.now) c.in_ok-parts.ensures)

pub returns-in_err-sheet : goal.returns-in_err-sheet
returns-in_err-sheet c =
    let parts = c.in_ok-parts.parts in
    let six : SixValues = record {
      bookmarks = view parts.bookmarks.now;
      carried = view parts.carried.now;
      heads = view parts.heads.now;
      main = view parts.main.now;
      notes = view parts.notes.now;
      sheet = view parts.sheet.now;
    } in
    let p = err_from_is_err_and c.from_residual-in_err-sheet.result c.from_residual-in_err-sheet.ensures.1 in
    rw (p.1, p.2) (λ shape. no_sheet six c.in_err-sheet.field-0.0 shape c.in_err-sheet.ensures (view c.args.value.now)
    c.in_ok-parts.ensures)

pub returns-in_err-carried : goal.returns-in_err-carried
returns-in_err-carried c =
    let parts = c.in_ok-parts.parts in
    let six : SixValues = record {
      bookmarks = view parts.bookmarks.now;
      carried = view parts.carried.now;
      heads = view parts.heads.now;
      main = view parts.main.now;
      notes = view parts.notes.now;
      sheet = view parts.sheet.now;
    } in
    let p = err_from_is_err_and c.from_residual-in_err-carried.result c.from_residual-in_err-carried.ensures.1 in
    rw (p.1, p.2) (λ shape. no_carried six c.in_err-carried.field-0.0 shape c.in_err-carried.ensures
    (view c.args.value.now) c.in_ok-parts.ensures)

pub returns : goal.returns
returns c =
    let parts = c.in_ok-parts.parts in
    let six : SixValues = record {
      bookmarks = view parts.bookmarks.now;
      carried = view parts.carried.now;
      heads = view parts.heads.now;
      main = view parts.main.now;
      notes = view parts.notes.now;
      sheet = view parts.sheet.now;
    } in
    let texts = c.in_ok-texts.texts in
    let are = c.in_ok-texts.ensures in
    let document : Document = record {
      main = texts.main;
      notes = texts.notes;
      heads = texts.heads;
      sheet = c.in_ok-sheet.sheet;
      carried = c.in_ok-carried.carried;
      bookmarks = texts.bookmarks;
    } in (
      are.bookmarks.0.formed,
      document_told (view c.args.value.now) six document c.in_ok-parts.ensures (record {
        bookmarks = are.bookmarks.1;
        carried = c.in_ok-carried.ensures;
        heads = are.heads.1;
        main = are.main.1;
        notes = are.notes.1;
        sheet = c.in_ok-sheet.ensures;
      }),
    )
