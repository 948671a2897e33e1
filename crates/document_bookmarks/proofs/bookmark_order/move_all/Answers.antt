use Rattle.std.proofs.Common.{rules, ◌∙◌, ap, sym}
use Rattle.std.proofs.lemmas.List.Edits.{map_over_more}
use Rattle.document_bookmarks.specs.Bookmarks.{moved_bookmark}
use Rattle.document_bookmarks.proofs.bookmark_order.move_all.Goals as goal

-- src/bookmarks.rt:85:5
pub loop-bookmark-preserved : goal.loop-bookmark-preserved
loop-bookmark-preserved c =
    let move = moved_bookmark c.args.from c.args.to c.args.count in
    let step = map_over_more move c.args.list.now.items
    c.loop-bookmark.bookmark-items c.loop-bookmark.bookmark-index c.bookmark-item.result (search rules)
    c.loop-bookmark.invariant
    c.bookmark-item.is in
    rw (c.move_bookmark.ensures ∙ ap move (sym c.bookmark-item.is)) step
