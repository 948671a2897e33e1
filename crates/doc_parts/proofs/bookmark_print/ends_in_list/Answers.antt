use Rattle.document_bookmarks.specs.declared.bookmark_order.Bookmark.{Bookmark}
use Rattle.doc_parts.proofs.BookmarkBackLemmas.{map_next}
use Rattle.doc_parts.proofs.bookmark_print.ends_in_list.Goals as goal

pub loop-i-preserved : goal.loop-i-preserved
loop-i-preserved c =
    let next = map_next (λ (bookmark : Bookmark). bookmark.to) c.args.list.now c.loop-i.i c.get.result.now
    c.get.ensures in
    cc (next, c.in_ok-push.ensures.items)
