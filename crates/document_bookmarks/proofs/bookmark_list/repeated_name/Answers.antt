use Rattle.std.proofs.Common.{rules, refl, arith, ◌≡◌, ◌<◌, length, Some, subst}
use Rattle.std.specs.Prelude.{slice_get}
use Rattle.std.proofs.lemmas.List.{take_all}
use Rattle.std.proofs.lemmas.Option.{slice_get_read}
use Rattle.document_bookmarks.specs.declared.bookmark_order.Bookmark.{Bookmark}
use Rattle.document_bookmarks.specs.Names.{AreApart}
use Rattle.document_bookmarks.proofs.NameLemmas.{first_same, apart_next, apart_nowhere}
use Rattle.document_bookmarks.proofs.bookmark_list.repeated_name.Goals as goal

pub loop-i-init : goal.loop-i-init
loop-i-init c = λ name. omega arith

pub returns-then-has_name : goal.returns-then-has_name
returns-then-has_name c =
    let x : Bookmark = c.index-list-i.result in
    let below : c.loop-i.i < length c.args.list.now = search rules in
    let here : slice_get c.args.list.now c.loop-i.i ≡ Some x =
    slice_get_read c.args.list.now (length c.args.list.now) c.loop-i.i x refl below c.index-list-i.is in
    first_same c.args.list.now c.loop-i.i x here c.loop-i.invariant
    (rw c.as_slice.ensures at (c.has_name.ensures.there c.if-has_name.true))

pub loop-i-preserved : goal.loop-i-preserved
loop-i-preserved c =
    let x : Bookmark = c.index-list-i.result in
    let below : c.loop-i.i < length c.args.list.now = search rules in
    let here : slice_get c.args.list.now c.loop-i.i ≡ Some x =
    slice_get_read c.args.list.now (length c.args.list.now) c.loop-i.i x refl below c.index-list-i.is in
    apart_next c.args.list.now c.loop-i.i x here c.loop-i.invariant
    (rw c.as_slice.ensures at (c.has_name.ensures.none c.if-has_name.false))

pub returns : goal.returns
returns c =
    let xs = c.args.list.now in
    apart_nowhere xs (subst AreApart (take_all c.loop-i.i xs c.loop-i-test.false) c.loop-i.invariant)
