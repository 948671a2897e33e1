use Rattle.document_bookmarks.proofs.NameLemmas.{list_spliced}
use Rattle.document_bookmarks.proofs.bookmark_list.Bookmarks.splice.Goals as goal

pub invariant_of-self-2 : goal.invariant_of-self-2
invariant_of-self-2 c =
    rw c.in_ok-splice_list.ensures.ok (list_spliced c.self.inside.items.items c.fresh.inside.items.items c.args.from
    c.args.to c.self.inside.apart c.fresh.inside.apart c.self.invariant c.fresh.invariant)
