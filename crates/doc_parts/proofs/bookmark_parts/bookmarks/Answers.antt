use Rattle.std.proofs.Common.{arith, ◌≡◌, ◌∙◌, refl, ap, sym, subst, ◌<◌, [], length}
use Rattle.std.specs.Prelude.{All}
use Rattle.doc_bits.specs.Rules.{LeastOrNone, lesser_of}
use Rattle.document_bookmarks.specs.Order.{in_order}
use Rattle.document_bookmarks.specs.Bookmarks.{bookmark_cmp, HasFileNumbers}
use Rattle.doc_parts.specs.BookmarkParts.{BookmarkParts, parts_at, HasNames, BreaksParts}
use Rattle.doc_parts.proofs.BookmarkPartLemmas.{parts_judged, right_from_none, right_elsewhere, kept_numbers, read_some}
use Rattle.doc_parts.proofs.bookmark_parts.bookmarks.Goals as goal

pub returns-in-Some : goal.returns-in-Some
returns-in-Some c =
    let parts : BookmarkParts = parts_at c.args.names.now c.args.starts.now c.args.ends.now c.args.at in
    let some : 6 < length c.args.names.now = omega (arith, c.if-names-le-STTBF_HEAD_LEN.false) in
    let judged = parts_judged parts c.get16-count.result c.names_fault.result c.starts_fault.result c.ends_fault.result
    some c.get16-count.ensures c.names_fault.ensures c.starts_fault.ensures c.ends_fault.ensures in
    let fault : c.lesser-fault.result
    ≡ lesser_of c.names_fault.result (lesser_of c.starts_fault.result c.ends_fault.result) =
    c.lesser-fault.ensures ∙ ap (lesser_of c.names_fault.result) c.lesser-places.ensures in (
      refl,
      subst (LeastOrNone (λ place. HasNames parts.names × BreaksParts parts place)) (sym fault ∙ c.in-Some.is)
          judged,
    )

pub keep_bookmarks-requires-clause-right : goal.keep_bookmarks-requires-clause-right
keep_bookmarks-requires-clause-right c =
    let parts : BookmarkParts = parts_at c.args.names.now c.args.starts.now c.args.ends.now c.args.at in
    let some : 6 < length c.args.names.now = omega (arith, c.if-names-le-STTBF_HEAD_LEN.false) in
    let judged = parts_judged parts c.get16-count.result c.names_fault.result c.starts_fault.result c.ends_fault.result
    some c.get16-count.ensures c.names_fault.ensures c.starts_fault.ensures c.ends_fault.ensures in
    let fault : c.lesser-fault.result
    ≡ lesser_of c.names_fault.result (lesser_of c.starts_fault.result c.ends_fault.result) =
    c.lesser-fault.ensures ∙ ap (lesser_of c.names_fault.result) c.lesser-places.ensures in
    let none = subst (LeastOrNone (λ place. HasNames parts.names × BreaksParts parts place)) (sym fault ∙
    c.in_default.is)
    judged in
    right_elsewhere c.args.names.now c.args.starts.now c.args.ends.now c.args.at [] (right_from_none parts some none)

pub of-requires : goal.of-requires
of-requires c =
    let parts : BookmarkParts = parts_at c.args.names.now c.args.starts.now c.args.ends.now [] in
    subst (All HasFileNumbers) (sym c.in_ok-kept.ensures) (kept_numbers parts c.args.main_len
    (λ i. omega (arith, c.type_inv.names i)) (λ i. omega (arith, c.type_inv.starts i))
    (λ i. omega (arith, c.type_inv.ends i)))

pub returns : goal.returns
returns c =
    let parts : BookmarkParts = parts_at c.args.names.now c.args.starts.now c.args.ends.now c.args.at in
    let some : 6 < length c.args.names.now = omega (arith, c.if-names-le-STTBF_HEAD_LEN.false) in
    let judged = parts_judged parts c.get16-count.result c.names_fault.result c.starts_fault.result c.ends_fault.result
    some c.get16-count.ensures c.names_fault.ensures c.starts_fault.ensures c.ends_fault.ensures in
    let fault : c.lesser-fault.result
    ≡ lesser_of c.names_fault.result (lesser_of c.starts_fault.result c.ends_fault.result) =
    c.lesser-fault.ensures ∙ ap (lesser_of c.names_fault.result) c.lesser-places.ensures in
    let none = subst (LeastOrNone (λ place. HasNames parts.names × BreaksParts parts place)) (sym fault ∙
    c.in_default.is)
    judged in (
      none,
      c.of.ensures ∙ (ap (in_order bookmark_cmp) c.in_ok-kept.ensures ∙ sym (read_some parts
          c.args.main_len some)),
    )
