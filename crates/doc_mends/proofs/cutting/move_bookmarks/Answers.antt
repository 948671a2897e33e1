use Rattle.std.proofs.Common.{◌≡◌, ◌∙◌, ap, arith, length, Bool, List}
use Rattle.document_bookmarks.specs.declared.bookmark_order.Bookmark.{Bookmark}
use Rattle.document_bookmarks.specs.Order.{in_order}
use Rattle.document_bookmarks.specs.Bookmarks.{bookmark_cmp}
use Rattle.doc_bits.proofs.Public.{there_is}
use Rattle.doc_mends.specs.Cuts.{bookmark_left}
use Rattle.doc_mends.proofs.TextLemmas.{put_mapped, all_mapped, mapped_len}
use Rattle.doc_patch.specs.Changes.{changed_at}
use Rattle.doc_mends.proofs.HeadLemmas.{changed_to}
use Rattle.doc_mends.proofs.cutting.move_bookmarks.Goals as goal

pub get-requires : goal.get-requires
get-requires c =
    let list : List Bookmark = c.args.list.now in
    let len = ap length c.loop-i.invariant ∙ mapped_len (bookmark_left c.args.flags.now) list c.loop-i.i in
    omega (arith, len, c.len-i-end.ensures.len, c.loop-i-test.true)

pub replace-requires : goal.replace-requires
replace-requires c =
    let list : List Bookmark = c.args.list.now in
    let len = ap length c.loop-i.invariant ∙ mapped_len (bookmark_left c.args.flags.now) list c.loop-i.i in
    omega (arith, len, c.len-i-end.ensures.len, c.loop-i-test.true)

pub loop-i-preserved : goal.loop-i-preserved
loop-i-preserved c =
    let list : List Bookmark = c.args.list.now in
    let flags : List Bool = c.args.flags.now in
    let i = c.loop-i.i in
    let move : Bookmark → Bookmark = bookmark_left flags in
    let bookmark : Bookmark = c.get.result.now in
    let it = there_is list i (omega (arith, c.len-i-end.ensures.len, c.loop-i-test.true)) in
    let moved : c.in_ok-moved.moved ≡ move bookmark =
    c.in_ok-moved.ensures ∙ ap (λ (l : List Bool). bookmark_left l bookmark) c.in_ok-ends.ensures in
    c.replace.ensures.new
    ∙ (changed_to move c.loop-i.list i bookmark c.in_ok-moved.moved c.get.ensures moved
    ∙ (ap (λ (l : List Bookmark). changed_at l i move) c.loop-i.invariant ∙ put_mapped move list i it.0 it.1))

pub returns : goal.returns
returns c =
    c.arrange.ensures
    ∙ ap (in_order bookmark_cmp) (c.loop-i.invariant
    ∙ all_mapped (bookmark_left c.args.flags.now) c.args.list.now c.loop-i.i
    (omega (arith, c.len-i-end.ensures.len, c.loop-i-test.false)))
