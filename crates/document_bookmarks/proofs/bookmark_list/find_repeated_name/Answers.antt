use Rattle.std.proofs.Common.{◌≡◌, length, Some, refl, subst}
use Rattle.std.specs.Prelude.{slice_get}
use Rattle.std.proofs.lemmas.List.{take_all}
use Rattle.std.proofs.lemmas.Option.{slice_get_read}
use Rattle.document_bookmarks.specs.declared.bookmark_order.Bookmark.{Bookmark}
use Rattle.document_bookmarks.specs.Names.{AreApart}
use Rattle.document_bookmarks.proofs.NameLemmas.{no_names, name_twice, name_more, apart_nowhere}
use Rattle.document_bookmarks.proofs.bookmark_list.find_repeated_name.Goals as goal

pub loop-bookmark-init : goal.loop-bookmark-init
loop-bookmark-init c = no_names c.new-names.result c.args.list.now c.new-names.ensures.empty

pub returns-then-not-branch : goal.returns-then-not-branch
returns-then-not-branch c =
    let xs = c.args.list.now in
    let i = c.loop-bookmark.bookmark-index in
    let x : Bookmark = c.bookmark-item.result in
    let here : slice_get xs i ≡ Some x =
    slice_get_read xs (length xs) i x refl c.loop-bookmark-test.true c.bookmark-item.is in
    name_twice c.loop-bookmark.names xs i x c.as_slice.result c.in_ok-insert.field-0 here c.as_slice.ensures
    c.loop-bookmark.invariant c.in_ok-insert.ensures.added c.if-not-branch.true

pub loop-bookmark-preserved : goal.loop-bookmark-preserved
loop-bookmark-preserved c =
    let xs = c.args.list.now in
    let i = c.loop-bookmark.bookmark-index in
    let x : Bookmark = c.bookmark-item.result in
    let here : slice_get xs i ≡ Some x =
    slice_get_read xs (length xs) i x refl c.loop-bookmark-test.true c.bookmark-item.is in
    name_more c.loop-bookmark.names c.insert.new.self xs i x c.as_slice.result c.in_ok-insert.field-0 here
    c.as_slice.ensures c.loop-bookmark.invariant c.in_ok-insert.ensures.added c.if-not-branch.false
    c.in_ok-insert.ensures.updates

pub returns : goal.returns
returns c =
    let xs = c.args.list.now in
    apart_nowhere xs
    (subst AreApart (take_all c.loop-bookmark.bookmark-index xs c.loop-bookmark-test.false)
    c.loop-bookmark.invariant.apart)
