use Rattle.std.proofs.lemmas.Result.{err_from_is_err_and}
use Rattle.std.proofs.Common.{subst}
use Rattle.serde_json.specs.View.{view}
use Rattle.json_doc.specs.DocumentReading.{AreMarks, SixValues}
use Rattle.json_doc.specs.Documents.{bookmarks_json}
use Rattle.json_doc.specs.ReadValues.{ReadsValue}
use Rattle.std.specs.Prelude.{Ok}
use Rattle.json_doc.proofs.DocumentLemmas.{marks_unread}
use Rattle.json_doc.proofs.DocumentTextLemmas.{no_main, no_notes, no_heads}
use Rattle.json_doc.proofs.reading.texts_of.Goals as goal

pub returns-in_err-main : goal.returns-in_err-main
returns-in_err-main c =
    let parts = c.args.parts.now in
    let six : SixValues = record {
      bookmarks = view parts.bookmarks.now;
      carried = view parts.carried.now;
      heads = view parts.heads.now;
      main = view parts.main.now;
      notes = view parts.notes.now;
      sheet = view parts.sheet.now;
    } in
    let p = err_from_is_err_and c.from_residual.result c.from_residual.ensures.1 in
    rw (p.1, p.2) (λ shape. no_main six c.in_err-main.field-0.0 shape c.in_err-main.ensures)

pub returns-in_err-bookmarks : goal.returns-in_err-bookmarks
returns-in_err-bookmarks c =
    let parts = c.args.parts.now in
    let six : SixValues = record {
      bookmarks = view parts.bookmarks.now;
      carried = view parts.carried.now;
      heads = view parts.heads.now;
      main = view parts.main.now;
      notes = view parts.notes.now;
      sheet = view parts.sheet.now;
    } in
    let p = err_from_is_err_and c.from_residual-in_err-bookmarks.result c.from_residual-in_err-bookmarks.ensures.1 in
    rw (p.1, p.2) (λ shape value read. marks_unread value six c.in_ok-main.main c.len.result
    c.in_err-bookmarks.field-0.0 read c.in_ok-main.ensures.0 c.in_ok-main.ensures.1 c.len.ensures.len shape
    c.in_err-bookmarks.ensures)

pub returns-in_err-notes : goal.returns-in_err-notes
returns-in_err-notes c =
    let parts = c.args.parts.now in
    let six : SixValues = record {
      bookmarks = view parts.bookmarks.now;
      carried = view parts.carried.now;
      heads = view parts.heads.now;
      main = view parts.main.now;
      notes = view parts.notes.now;
      sheet = view parts.sheet.now;
    } in
    let p = err_from_is_err_and c.from_residual-in_err-notes.result c.from_residual-in_err-notes.ensures.1 in
    rw (p.1, p.2) (λ shape. no_notes six c.in_err-notes.field-0.0 shape c.in_err-notes.ensures)

pub returns-in_err-heads : goal.returns-in_err-heads
returns-in_err-heads c =
    let parts = c.args.parts.now in
    let six : SixValues = record {
      bookmarks = view parts.bookmarks.now;
      carried = view parts.carried.now;
      heads = view parts.heads.now;
      main = view parts.main.now;
      notes = view parts.notes.now;
      sheet = view parts.sheet.now;
    } in
    let p = err_from_is_err_and c.from_residual-in_err-heads.result c.from_residual-in_err-heads.ensures.1 in
    rw (p.1, p.2) (λ shape. no_heads six c.in_err-heads.field-0.0 shape c.in_err-heads.ensures)

pub returns : goal.returns
returns c = record {
  main = c.in_ok-main.ensures;
  bookmarks =
      subst (λ len. ReadsValue bookmarks_json (AreMarks len) (view c.args.parts.now.bookmarks.now)
      (Ok c.in_ok-bookmarks.bookmarks)) c.len.ensures.len c.in_ok-bookmarks.ensures;
  notes = c.in_ok-notes.ensures;
  heads = c.in_ok-heads.ensures;
}
