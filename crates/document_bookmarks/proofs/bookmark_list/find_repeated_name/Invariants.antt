use Rattle.std.proofs.Common.{take}
use Rattle.document_bookmarks.proofs.NameLemmas.{HasNames}
use Rattle.document_bookmarks.proofs.bookmark_list.find_repeated_name.Given as goal

-- the set has the names so far, which differ
abbrev pub invariant-loop-bookmark : goal.invariant-loop-bookmark
invariant-loop-bookmark l = HasNames l.names (take l.bookmark-index l.list)
