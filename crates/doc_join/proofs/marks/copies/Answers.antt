use Rattle.std.proofs.Common.{◌∙◌, ◌++◌, ◌∷◌, [], List, sym, ap, arith, take}
use Rattle.std.proofs.lemmas.List.{take_all, take_more}
use Rattle.std.proofs.lemmas.Option.{get_or_from_slice_get}
use Rattle.document_bookmarks.specs.declared.bookmark_order.Bookmark.{Bookmark}
use Rattle.doc_join.proofs.marks.copies.Goals as goal

pub loop-i-preserved : goal.loop-i-preserved
loop-i-preserved c =
    let list = c.args.list.now in
    let bookmark = c.get.result.now in
    let front = take c.loop-i.i list in
    c.in_ok-push.ensures.items
    ∙ (ap (λ (xs : List Bookmark). xs ++ c.in_ok-copy.field-0 ∷ []) c.loop-i.invariant
    ∙ (ap (λ (b : Bookmark). front ++ b ∷ [])
    (c.in_ok-copy.ensures ∙ sym (get_or_from_slice_get list c.loop-i.i bookmark bookmark c.get.ensures))
    ∙ sym (take_more list c.loop-i.i bookmark (omega arith))))

pub returns : goal.returns
returns c = c.loop-i.invariant ∙ take_all c.loop-i.i c.args.list.now (omega (arith, c.len-i-end.ensures.len))
