use Rattle.std.proofs.Common.{rules}
use Rattle.document_bookmarks.proofs.NameLemmas.{list_moved}
use Rattle.document_bookmarks.proofs.bookmark_list.Bookmarks.follow.Goals as goal

pub invariant_of-self : goal.invariant_of-self
invariant_of-self c =
    rw c.move_all.ensures (list_moved c.args.from c.args.to c.args.count c.args.len c.self.inside.items.items
    c.self.inside.apart c.requires.ordered c.requires.within c.requires.few (search rules) (search rules)
    c.self.invariant)
