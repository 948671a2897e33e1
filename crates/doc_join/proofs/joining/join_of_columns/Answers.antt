use Rattle.std.proofs.Common.{length, sym, ap, subst, arith}
use Rattle.doc_model.specs.declared.document.Document.{Document}
use Rattle.doc_model.specs.Marks.{HasFormedBookmarks}
use Rattle.doc_join.proofs.SoundLemmas.{joined_bookmarks_formed, outcome}
use Rattle.doc_join.proofs.joining.join_of_columns.Goals as goal

pub check_joined-verdict-requires : goal.check_joined-verdict-requires
check_joined-verdict-requires c =
    subst HasFormedBookmarks (sym c.in_ok-made.ensures)
    (joined_bookmarks_formed c.args.a.now c.args.b.now c.requires.first c.requires.second)

pub returns : goal.returns
returns c =
    let slots = c.slots.ensures.count in
    let next = c.slots-2.ensures.count in
    let first = ap (λ (d : Document). length d.sheet.styles) c.a.view_is in
    let second = ap (λ (d : Document). length d.sheet.styles) c.b.view_is in
    outcome c.args.a.now c.args.b.now c.in_ok-made.made c.check_joined-verdict.result c.keep_if_ok.result
    c.in_ok-made.ensures (omega (arith, slots, next, first, second, c.if-slots-gt-MAX_SLOTS.false))
    c.check_joined-verdict.ensures
    c.keep_if_ok.ensures
