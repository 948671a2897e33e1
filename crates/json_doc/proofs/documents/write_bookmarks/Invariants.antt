use Rattle.json_doc.specs.Documents.{bookmark_json}
use Rattle.json_doc.proofs.WrittenLemmas.{ArePlaced}
use Rattle.json_doc.proofs.documents.write_bookmarks.Given as goal

abbrev pub invariant-loop-i : goal.invariant-loop-i
invariant-loop-i l = ArePlaced bookmark_json l.bookmarks l.i l.fn.out l.out
