use Rattle.document_bookmarks.proofs.NameLemmas.{apart_nowhere}
use Rattle.document_bookmarks.proofs.bookmark_list.Bookmarks.find_same_name.Goals as goal

pub returns-then-self : goal.returns-then-self
returns-then-self c =
    rw (← c.self.view_is) (apart_nowhere c.self.inside.items.items (c.self.invariant.differ c.if-self.true))

pub returns : goal.returns
returns c = rw (← c.self.view_is) (rw c.deref.ensures.value at c.find_repeated_name.ensures)
