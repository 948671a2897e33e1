use Rattle.doc_mends.proofs.BookmarkLemmas.{bookmarks_stay}
use Rattle.doc_mends.proofs.laws.mends_keep_bookmarks.Goals as goal

pub returns : goal.returns
returns c = bookmarks_stay
