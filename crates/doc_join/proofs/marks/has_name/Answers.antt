use Rattle.std.proofs.Common.{rules, of_calls}
use Rattle.std.specs.Cmp.Lexicographic.{slice_cmp}
use Rattle.std.specs.Ordering.{nat_cmp}
use Rattle.std.proofs.lemmas.Fn.{always_returns_same}
use Rattle.document_bookmarks.specs.declared.bookmark_order.Bookmark.{Bookmark}
use Rattle.doc_join.proofs.BookmarkLemmas.{found_named}
use Rattle.doc_join.proofs.marks.has_name.Goals as goal

pub returns : goal.returns
returns c =
    let ord = λ (b : Bookmark). slice_cmp nat_cmp b.name c.args.name.now in
    found_named c.args.named.now c.args.name.now c.binary_search_by-found.result c.is_ok.result c.requires
    c.binary_search_by-found.ensures.bound
    (c.binary_search_by-found.ensures.position ord (always_returns_same _ _ _ (λ a r f k. search (rules, of_calls))))
    c.is_ok.ensures.value
