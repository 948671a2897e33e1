use Rattle.std.proofs.Common.{arith}
use Rattle.document_bookmarks.proofs.ApartLemmas.{apart_sorted}
use Rattle.document_bookmarks.proofs.bookmark_list.neighbours_differ.Goals as goal

pub returns : goal.returns
returns c = λ known. apart_sorted c.args.list.now c.requires (λ k d low. c.loop-i.invariant k d (omega (arith, low)))
