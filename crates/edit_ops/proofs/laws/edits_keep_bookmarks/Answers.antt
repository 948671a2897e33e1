use Rattle.edit_ops.proofs.KeepLemmas.{keeps_bookmarks}
use Rattle.edit_ops.proofs.laws.edits_keep_bookmarks.Goals as goal

pub returns : goal.returns
returns c = keeps_bookmarks
