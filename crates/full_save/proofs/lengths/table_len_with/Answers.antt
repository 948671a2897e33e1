use Rattle.std.proofs.Common.{◌∙◌, ◌+◌, length, ap, sym, arith}
use Rattle.fkp_pages.specs.declared.kind.PageKind.TheVariants.{Chpx, Papx}
use Rattle.doc_model.specs.declared.document.Document.{Document}
use Rattle.doc_model.specs.Collected.{joined_texts}
use Rattle.doc_columns.proofs.Public.{seen_document}
use Rattle.full_save.specs.declared.lengths.PageCounts.{PageCounts}
use Rattle.full_save.proofs.StreamLengths.{few_pages, short_table}
use Rattle.full_save.proofs.TextLaidOut.{few_items}
use Rattle.full_save.proofs.LengthLemmas.{seen_long}
use Rattle.full_save.proofs.lengths.table_len_with.Goals as goal

pub texts_len-notes-requires : goal.texts_len-notes-requires
texts_len-notes-requires c =
    let few = (few_items c.args.document.now c.requires.right).notes in
    omega (arith, few, ap (λ (x : Document). length (joined_texts x.notes)) c.document.view_is)

pub texts_len-heads-requires : goal.texts_len-heads-requires
texts_len-heads-requires c =
    let few = (few_items c.args.document.now c.requires.right).heads in
    omega (arith, few, ap (λ (x : Document). length (joined_texts x.heads)) c.document.view_is)

pub bins_len-requires : goal.bins_len-requires
bins_len-requires c =
    let d = c.args.document.now in
    let all = (few_items d c.requires.right).all in
    let characters = ap (λ (p : PageCounts). p.characters) c.requires.pages in
    let paragraphs = ap (λ (p : PageCounts). p.paragraphs) c.requires.pages in
    omega (
      arith,
      all,
      characters,
      paragraphs,
      few_pages Chpx d c.requires.formed c.requires.right,
      few_pages Papx d c.requires.formed c.requires.right,
    )

pub overflow_add-result : goal.overflow_add-result
overflow_add-result c =
    let d = c.args.document.now in
    let short = short_table d c.requires.formed c.requires.right in
    let long = seen_long d (seen_document c.document.inside) c.args.pages c.document.view_is c.requires.pages in
    omega (
      arith,
      short,
      long,
      c.in_ok-sheet.ensures,
      c.main_len-main.ensures,
    )

pub overflow_add-result-2 : goal.overflow_add-result-2
overflow_add-result-2 c =
    let d = c.args.document.now in
    let short = short_table d c.requires.formed c.requires.right in
    let long = seen_long d (seen_document c.document.inside) c.args.pages c.document.view_is c.requires.pages in
    omega (
      arith,
      short,
      long,
      c.in_ok-sheet.ensures,
      c.main_len-main.ensures,
      c.texts_len-notes.ensures,
    )

pub overflow_add-result-3 : goal.overflow_add-result-3
overflow_add-result-3 c =
    let d = c.args.document.now in
    let short = short_table d c.requires.formed c.requires.right in
    let long = seen_long d (seen_document c.document.inside) c.args.pages c.document.view_is c.requires.pages in
    omega (
      arith,
      short,
      long,
      c.in_ok-sheet.ensures,
      c.main_len-main.ensures,
      c.texts_len-notes.ensures,
      c.texts_len-heads.ensures,
    )

pub overflow_add-result-4 : goal.overflow_add-result-4
overflow_add-result-4 c =
    let d = c.args.document.now in
    let short = short_table d c.requires.formed c.requires.right in
    let long = seen_long d (seen_document c.document.inside) c.args.pages c.document.view_is c.requires.pages in
    omega (
      arith,
      short,
      long,
      c.in_ok-sheet.ensures,
      c.main_len-main.ensures,
      c.texts_len-notes.ensures,
      c.texts_len-heads.ensures,
      c.bins_len.ensures,
    )

pub overflow_add-result-5 : goal.overflow_add-result-5
overflow_add-result-5 c =
    let d = c.args.document.now in
    let short = short_table d c.requires.formed c.requires.right in
    let long = seen_long d (seen_document c.document.inside) c.args.pages c.document.view_is c.requires.pages in
    omega (
      arith,
      short,
      long,
      c.in_ok-sheet.ensures,
      c.main_len-main.ensures,
      c.texts_len-notes.ensures,
      c.texts_len-heads.ensures,
      c.bins_len.ensures,
      c.bookmarks_len-bookmarks.ensures,
    )

pub overflow_add-result-6 : goal.overflow_add-result-6
overflow_add-result-6 c =
    let d = c.args.document.now in
    let short = short_table d c.requires.formed c.requires.right in
    let long = seen_long d (seen_document c.document.inside) c.args.pages c.document.view_is c.requires.pages in
    omega (
      arith,
      short,
      long,
      c.in_ok-sheet.ensures,
      c.main_len-main.ensures,
      c.texts_len-notes.ensures,
      c.texts_len-heads.ensures,
      c.bins_len.ensures,
      c.bookmarks_len-bookmarks.ensures,
    )

pub overflow_add-result-7 : goal.overflow_add-result-7
overflow_add-result-7 c =
    let d = c.args.document.now in
    let short = short_table d c.requires.formed c.requires.right in
    let long = seen_long d (seen_document c.document.inside) c.args.pages c.document.view_is c.requires.pages in
    omega (
      arith,
      short,
      long,
      c.in_ok-sheet.ensures,
      c.main_len-main.ensures,
      c.texts_len-notes.ensures,
      c.texts_len-heads.ensures,
      c.bins_len.ensures,
      c.bookmarks_len-bookmarks.ensures,
      c.carried_len-carried.ensures,
    )

pub returns : goal.returns
returns c =
    let d = c.args.document.now in
    let long = seen_long d (seen_document c.document.inside) c.args.pages c.document.view_is c.requires.pages in
    (λ i. c.in_ok-sheet.ensures i
    + c.main_len-main.ensures i
    + c.texts_len-notes.ensures i
    + c.texts_len-heads.ensures i
    + c.bins_len.ensures i
    + c.bookmarks_len-bookmarks.ensures i
    + 21
    + c.carried_len-carried.ensures i)
    ∙ sym long
