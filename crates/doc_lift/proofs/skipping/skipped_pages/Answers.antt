use Rattle.std.proofs.Common.{◌≡◌, ◌∙◌, ◌++◌, sym, subst, take, drop, length, arith}
use Rattle.fib_form.proofs.Public.{take_front}
use Rattle.page_copies.specs.Pages.{SkipsPages}
use Rattle.doc_meaning.specs.Skipped.{bin_tables_of}
use Rattle.doc_lift.proofs.SkipLemmas.{pages_skipped}
use Rattle.doc_lift.proofs.skipping.skipped_pages.Goals as goal

pub returns : goal.returns
returns c =
    let wd = c.args.wd.now in
    let table = c.args.table.now in
    let items = c.in_ok-pages.pages.items in
    let new = c.skip_pages.new.wd in
    let skips = c.in_ok-skip_pages.ensures in
    let all : take c.in_ok-pages.pages.len (new ++ drop (length new) items) ≡ new =
    take_front new (drop (length new) items) c.in_ok-pages.pages.len
    (omega (arith, skips.len, c.deref_mut.ensures.len)) in
    subst (SkipsPages (bin_tables_of wd table) wd) (sym all)
    (pages_skipped wd table c.args.fib.now c.deref_mut.result.now new c.part-characters.result.now
    c.part-paragraphs.result.now c.requires.same c.part-characters.ensures c.part-paragraphs.ensures
    (c.deref_mut.ensures.value ∙ c.in_ok-pages.ensures) skips)
