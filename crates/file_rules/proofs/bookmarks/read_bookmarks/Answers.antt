use Rattle.std.proofs.Common.{◌<◌, ℕ, subst}
use Rattle.doc_bits.specs.Rules.{Nowhere}
use Rattle.file_rules.specs.BookmarkRules.{HasNamePair, HasLeavingPair}
use Rattle.file_rules.proofs.BookmarkLemmas.{bookmarks-hold, bookmarks-leave, bookmarks-refused}
use Rattle.file_rules.proofs.bookmarks.read_bookmarks.Goals as goal

pub returns-in-Some : goal.returns-in-Some
returns-in-Some c =
    let source = c.args.source.now in
    let named : HasNamePair source = subst (λ (p : ℕ × ℕ). 6 < p.1) c.pair.ensures.pair c.if-pair-le-NO_NAMES.false in
    bookmarks-leave source c.in-Some.offset named c.in-Some.ensures

pub returns-in-Ok : goal.returns-in-Ok
returns-in-Ok c =
    let source = c.args.source.now in
    let inside : Nowhere (HasLeavingPair source) = rw c.in_default.is at c.leaving_pair.ensures in
    let read = rw (
      c.part-names.ensures.bytes,
      c.part-starts.ensures.bytes,
      c.part-ends.ensures.bytes,
      c.place.ensures.place,
      c.place-2.ensures.place,
      c.place-3.ensures.place,
      c.story_len.ensures.count,
    ) at c.in-Ok.ensures in
    (bookmarks-hold source inside read.0, read.1)

pub returns-in-Err : goal.returns-in-Err
returns-in-Err c =
    let source = c.args.source.now in
    let named : HasNamePair source = subst (λ (p : ℕ × ℕ). 6 < p.1) c.pair.ensures.pair c.if-pair-le-NO_NAMES.false in
    let inside : Nowhere (HasLeavingPair source) = rw c.in_default.is at c.leaving_pair.ensures in
    let first = rw (
      c.part-names.ensures.bytes,
      c.part-starts.ensures.bytes,
      c.part-ends.ensures.bytes,
      c.place.ensures.place,
      c.place-2.ensures.place,
      c.place-3.ensures.place,
    ) at c.in-Err.ensures in
    rw c.refused_part.ensures (bookmarks-refused source c.in-Err.fault named inside first)
