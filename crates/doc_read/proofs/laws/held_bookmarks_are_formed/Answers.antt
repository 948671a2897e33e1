use Rattle.doc_read.proofs.FormedBookmarks.{held_formed}
use Rattle.doc_read.proofs.laws.held_bookmarks_are_formed.Goals as goal

pub returns : goal.returns
returns c = held_formed
