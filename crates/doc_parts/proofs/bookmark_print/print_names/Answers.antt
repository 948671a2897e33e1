use Rattle.std.proofs.Common.{length}
use Rattle.doc_parts.specs.PrintedBookmarks.{names_front}
use Rattle.doc_parts.proofs.BookmarkBackLemmas.{names_next}
use Rattle.doc_parts.proofs.bookmark_print.print_names.Goals as goal

pub loop-i-preserved : goal.loop-i-preserved
loop-i-preserved c =
    let next = names_next (names_front (length c.args.list.now)) c.args.list.now c.loop-i.i c.get.result.now
    c.get.ensures in
    cc (next, c.in_ok-print_name.ensures.ok, c.as_slice.ensures)
