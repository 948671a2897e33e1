use Rattle.std.proofs.Common.{arith}
use Rattle.std.proofs.lemmas.Grind.{common_steps}
use Rattle.document_bookmarks.proofs.NameLemmas.{list_copied}
use Rattle.document_bookmarks.proofs.bookmark_list.Bookmarks.copy.Goals as goal

pub invariant_of-result : goal.invariant_of-result
invariant_of-result c =
    list_copied c.args.self.now c.loop-bookmark.items.items c.args.from c.args.to c.self.inside.apart
    (grind (arith, common_steps)) (rw c.self.view_is at c.self.invariant)
