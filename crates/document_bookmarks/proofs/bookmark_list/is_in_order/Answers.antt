use Rattle.std.proofs.Common.{rules, arith, ◌≡◌, ◌∙◌, ◌-◌, sym, ap, false}
use Rattle.std.specs.Ordering.{is_lt}
use Rattle.std.proofs.lemmas.List.Elements.{pair_read}
use Rattle.std.proofs.lemmas.List.Sorted.{all_adjacent_more}
use Rattle.document_bookmarks.specs.declared.bookmark_order.Bookmark.{Bookmark}
use Rattle.document_bookmarks.specs.Bookmarks.{bookmark_cmp}
use Rattle.document_bookmarks.proofs.bookmark_list.is_in_order.Goals as goal

pub loop-i-preserved : goal.loop-i-preserved
loop-i-preserved c = λ k d low high.
    all_adjacent_more c.args.list.now (λ (x y : Bookmark). is_lt (bookmark_cmp y x) ≡ false) c.loop-i.i
    (omega (arith, c.loop-i.auto.i))
    (λ j e under. c.loop-i.invariant j e (omega arith) under)
    (pair_read c.args.list.now (λ (x y : Bookmark). is_lt (bookmark_cmp y x) ≡ false) (c.loop-i.i - 1) c.loop-i.i
    c.index-list-i-in-loop-i.result c.index-list-i.result (search rules) (search rules) c.index-list-i-in-loop-i.is
    c.index-list-i.is (sym (c.is_lt.ensures ∙ ap is_lt c.compare.ensures) ∙ c.if-is_lt.false))
    k d high
