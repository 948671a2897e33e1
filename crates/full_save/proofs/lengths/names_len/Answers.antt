use Rattle.std.proofs.Common.{◌∙◌, ◌+◌, ◌≤◌, length, ap, arith}
use Rattle.std.specs.Prelude.{sum_by}
use Rattle.std.proofs.lemmas.List.{take_all}
use Rattle.doc_bits.proofs.Public.{All_at}
use Rattle.document_bookmarks.specs.declared.bookmark_order.Bookmark.{Bookmark}
use Rattle.full_save.specs.Lengths.{bookmark_name_length}
use Rattle.full_save.proofs.MeasureLemmas.{names_few, names_next, names_short, some_names}
use Rattle.full_save.proofs.lengths.names_len.Goals as goal

pub name_len-len-requires : goal.name_len-len-requires
name_len-len-requires c =
    All_at (λ (b : Bookmark). length b.name ≤ 255) c.args.bookmarks.now c.loop-i.i c.get.result.now c.requires.short
    c.get.ensures

pub overflow_add-len : goal.overflow_add-len
overflow_add-len c =
    let so = c.loop-i.invariant in
    let more = c.name_len-len.ensures in
    omega (arith, so, more, names_short c.args.bookmarks.now c.loop-i.i c.get.result.now c.get.ensures c.requires)

pub loop-i-preserved : goal.loop-i-preserved
loop-i-preserved c =
    let so = c.loop-i.invariant in
    let more = c.name_len-len.ensures in
    omega (arith, so, more, names_next c.args.bookmarks.now c.loop-i.i c.get.result.now c.get.ensures)

pub returns-clause-is : goal.returns-clause-is
returns-clause-is c =
    let list = c.args.bookmarks.now in
    let end = c.len-i-end.ensures.len in
    let test = c.loop-i-test.false in
    let none = c.if-len-eq0.false in
    let count = c.len.ensures.len in
    c.loop-i.invariant
    ∙ ap (λ bookmarks. 6 + sum_by bookmark_name_length bookmarks) (take_all c.loop-i.i list (omega (arith, end, test)))
    ∙ some_names list (λ zero. none (count ∙ zero))

pub returns-clause-bound : goal.returns-clause-bound
returns-clause-bound c =
    let list = c.args.bookmarks.now in
    let end = c.len-i-end.ensures.len in
    let test = c.loop-i-test.false in
    let so = c.loop-i.invariant in
    let all = ap (sum_by bookmark_name_length) (take_all c.loop-i.i list (omega (arith, end, test))) in
    let few = c.requires.few in
    omega (arith, so, all, few, names_few list c.requires)
