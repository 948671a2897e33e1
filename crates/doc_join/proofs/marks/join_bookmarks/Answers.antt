use Rattle.std.proofs.Common.{◌∙◌, ◌++◌, ◌∷◌, ◌+◌, ◌-◌, ◌^◌, ◌<◌, [], List, length, take, sym, ap, subst, arith}
use Rattle.std.proofs.Common.{length-append, length-take}
use Rattle.std.proofs.lemmas.List.{take_all, append-nil}
use Rattle.std.proofs.lemmas.List.Sorted.{list_any-IsPermutation}
use Rattle.std.proofs.lemmas.Option.{get_or_from_slice_get, slice_get_within}
use Rattle.document_bookmarks.specs.declared.bookmark_order.Bookmark.{Bookmark}
use Rattle.document_bookmarks.specs.Order.{in_order}
use Rattle.document_bookmarks.specs.Bookmarks.{bookmark_cmp}
use Rattle.document_bookmarks.specs.Names.{is_named}
use Rattle.doc_join.specs.Bookmarks.{bookmarks_from_second, has_name}
use Rattle.doc_join.proofs.BookmarkLemmas.{length-second, second_more, second_same}
use Rattle.doc_join.proofs.marks.join_bookmarks.Goals as goal
use Rattle.doc_join.proofs.marks.join_bookmarks.Goals.{then-not-has_name+in_ok-move_by+in_ok-add, else-not-has_name}

pub loop-i-init : goal.loop-i-init
loop-i-init c =
    let first = c.args.first.now in
    c.in_ok-splice.ensures.ok
    ∙ (ap (λ (fresh : List Bookmark). fresh ++ c.in_ok-made.made) c.new.ensures
    ∙ (c.in_ok-made.ensures
    ∙ (take_all (c.len.result - 0) first (omega (arith, c.len.ensures.len)) ∙ sym (append-nil first))))

pub add-requires : goal.add-requires
add-requires c =
    let first = c.args.first.now in
    let front = take c.loop-i.i c.args.second.now in
    let so_far = ap (λ (list : List Bookmark). length list) c.loop-i.invariant in
    let both = length-append first (bookmarks_from_second c.args.before first front) in
    let few = length-second c.args.before first front in
    let short = length-take c.loop-i.i c.args.second.now in
    omega (arith, so_far, both, few, short, c.requires.few, c.loop-i-test.true, c.len-i-end.ensures.len)

pub loop-i-preserved : goal.loop-i-preserved
loop-i-preserved c =
    let first = c.args.first.now in
    let second = c.args.second.now in
    let bookmark = c.get-bookmark.result.now in
    let name = c.as_slice.result.now in
    let named = sym (c.has_name.ensures
    ∙ (ap (λ (list : List Bookmark). has_name list name) c.deref.ensures.value
    ∙ (sym (list_any-IsPermutation (is_named name) first c.in_ok-names.names.items c.in_ok-names.ensures.move_by)
    ∙ ap (has_name first) c.as_slice.ensures))) in
    elim c.if-not-has_name.branch [
      | then-not-has_name+in_ok-move_by+in_ok-add w ↦
          w.made-is
          ∙ (w.in_ok-add.ensures.ok
          ∙ (ap (λ (list : List Bookmark). list ++ w.in_ok-move_by.field-0 ∷ []) c.loop-i.invariant
          ∙ (ap (λ (b : Bookmark).
          (first ++ bookmarks_from_second c.args.before first (take c.loop-i.i second)) ++ b ∷ [])
          w.in_ok-move_by.ensures
          ∙ second_more c.args.before first second c.loop-i.i bookmark (named ∙ w.if-not-has_name.true)
          c.get-bookmark.ensures
          (omega arith))))
      | else-not-has_name w ↦
          w.made-is
          ∙ (c.loop-i.invariant
          ∙ ap (λ list. first ++ list)
          (second_same c.args.before first second c.loop-i.i bookmark (named ∙ w.if-not-has_name.false)
          c.get-bookmark.ensures
          (omega arith)))
    ]

pub move_by-requires-clause-from : goal.move_by-requires-clause-from
move_by-requires-clause-from c =
    let second = c.args.second.now in
    let bookmark = c.get-bookmark.result.now in
    let here = get_or_from_slice_get second c.loop-i.i bookmark bookmark c.get-bookmark.ensures in
    subst (λ (b : Bookmark). b.from + c.args.before < 2 ^ 32) here
    (c.requires.starts c.loop-i.i bookmark (slice_get_within second c.loop-i.i bookmark c.get-bookmark.ensures))

pub move_by-requires-clause-to : goal.move_by-requires-clause-to
move_by-requires-clause-to c =
    let second = c.args.second.now in
    let bookmark = c.get-bookmark.result.now in
    let here = get_or_from_slice_get second c.loop-i.i bookmark bookmark c.get-bookmark.ensures in
    subst (λ (b : Bookmark). b.to + c.args.before < 2 ^ 32) here
    (c.requires.ends c.loop-i.i bookmark (slice_get_within second c.loop-i.i bookmark c.get-bookmark.ensures))

pub returns : goal.returns
returns c =
    c.arrange.ensures
    ∙ ap (in_order bookmark_cmp) (c.loop-i.invariant
    ∙ ap (λ list. c.args.first.now ++ bookmarks_from_second c.args.before c.args.first.now list)
    (take_all c.loop-i.i c.args.second.now (omega (arith, c.len-i-end.ensures.len))))
