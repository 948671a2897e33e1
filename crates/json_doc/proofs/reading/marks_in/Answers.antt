use Rattle.std.proofs.Common.{◌≡◌, ◌∙◌, List, sym, subst, rules}
use Rattle.std.specs.Prelude.{Ok}
use Rattle.std.proofs.lemmas.List.Sorted.{IsPermutation-refl}
use Rattle.std.proofs.lemmas.Result.{err_from_is_err_and}
use Rattle.serde_json.specs.View.{view}
use Rattle.document_bookmarks.specs.declared.bookmark_order.Bookmark.{Bookmark}
use Rattle.document_bookmarks.specs.Bookmarks.{bookmark_cmp}
use Rattle.document_bookmarks.proofs.Public.{bookmark_total, bookmark_alone, sorted_is_in_order}
use Rattle.json_doc.specs.DocumentReading.{AreMarks}
use Rattle.json_doc.specs.Documents.{bookmarks_json}
use Rattle.json_doc.specs.ReadValues.{ReadsValue}
use Rattle.json_doc.proofs.MarkLemmas.{bookmarks_one}
use Rattle.json_doc.proofs.ReadLemmas.{misfit, refused, accepted}
use Rattle.json_doc.proofs.reading.marks_in.Goals as goal

pub returns-in_err-bookmarks : goal.returns-in_err-bookmarks
returns-in_err-bookmarks c =
    let p = err_from_is_err_and c.from_residual.result c.from_residual.ensures.1 in
    rw (p.1, p.2) (misfit bookmarks_one (AreMarks c.args.len) (λ x marks. marks.numbers) (view c.args.value.now)
    c.in_err-bookmarks.field-0.0 c.in_err-bookmarks.ensures)

pub returns-then-not-are_formed : goal.returns-then-not-are_formed
returns-then-not-are_formed c =
    refused bookmarks_one (AreMarks c.args.len) (λ x marks. marks.numbers) (view c.args.value.now)
    c.in_ok-bookmarks.bookmarks c.in_ok-bookmarks.ensures
    (λ marks. absurd (search (rules, c.are_formed.ensures.1 marks.formed)))

pub returns : goal.returns
returns c =
    let value = view c.args.value.now in
    let old = c.in_ok-bookmarks.bookmarks in
    let formed = c.are_formed.ensures.0 (search rules) in
    let same : c.arrange.new.self ≡ old =
    c.arrange.ensures
    ∙ sym (sorted_is_in_order bookmark_cmp bookmark_total bookmark_alone old old (IsPermutation-refl old)
    formed.in_order) in
    subst (λ (list : List Bookmark). ReadsValue bookmarks_json (AreMarks c.args.len) value (Ok list)) (sym same)
    (accepted bookmarks_one (AreMarks c.args.len) (λ x marks. marks.numbers) value old c.in_ok-bookmarks.ensures
    (record { formed = formed; numbers = c.len.ensures.numbers }))
