use Rattle.std.proofs.Common.{arith}
use Rattle.doc_show.specs.Listing.{bookmark_line}
use Rattle.doc_show.proofs.NumberedLemmas.{listed_on}
use Rattle.doc_show.proofs.bookmark_lines.push_bookmarks.Goals as goal

pub loop-k-preserved : goal.loop-k-preserved
loop-k-preserved c =
    listed_on bookmark_line c.args.list.now c.loop-k.k c.get.result.now c.args.text.now c.loop-k.text
    c.push_bookmark.new.text (omega arith) c.get.ensures c.loop-k.invariant c.in_ok-push_bookmark.ensures
