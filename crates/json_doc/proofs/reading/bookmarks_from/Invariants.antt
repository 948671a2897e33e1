use Rattle.std.proofs.Common.{◌≤◌, length}
use Rattle.json_doc.specs.DocumentReading.{bookmark_of}
use Rattle.json_doc.proofs.ListLemmas.{FrontGiven}
use Rattle.json_doc.proofs.reading.bookmarks_from.Given as goal

abbrev pub invariant-loop-value : goal.invariant-loop-value
invariant-loop-value l = record {
  read : FrontGiven bookmark_of l.values l.value-index l.bookmarks;
  few : length l.bookmarks ≤ l.value-index;
}
