use Rattle.doc_parts.proofs.BookmarkLawLemmas.{bookmarks_back}
use Rattle.doc_parts.proofs.laws.bookmarks_are_read_back.Goals as goal

pub returns : goal.returns
returns c = bookmarks_back
