-- A document by columns, as it is seen.
use Rattle.doc_model.specs.declared.document.Document.{Document}
use Rattle.doc_columns.specs.declared.document.ColumnDocument.TheInside.{Inside}

-- the document of these columns
abbrev pub seen_document : Inside → Document
seen_document columns = record {
  main = columns.main;
  notes = columns.notes;
  heads = columns.heads;
  sheet = columns.sheet;
  carried = columns.carried;
  bookmarks = columns.bookmarks;
}
