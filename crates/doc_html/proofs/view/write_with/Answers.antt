use Rattle.std.proofs.Common.{◌≡◌, [], List, ℕ, false, sym, ap, subst, ◌∙◌}
use Rattle.page_out.specs.Printed.{Prints}
use Rattle.form_page.specs.declared.page.PageForm.{PageForm}
use Rattle.form_page.specs.Forms.{IsFresh, form_text, page_in}
use Rattle.form_page.proofs.Public.{fresh_block, fresh_right}
use Rattle.doc_view.specs.Page.{AreFormats}
use Rattle.doc_view.specs.Seen.{Formats}
use Rattle.doc_places.specs.Places.{document_places}
use Rattle.doc_html.specs.Head.{page_head}
use Rattle.html_page.specs.Sources.{page_source_of}
use Rattle.doc_html.proofs.PageLemmas.{form_ok, form_prefix, form_rose}
use Rattle.doc_html.proofs.view.write_with.Goals as goal

pub write-written-requires-clause-fresh : goal.write-written-requires-clause-fresh
write-written-requires-clause-fresh g c =
    subst (λ (block : List ℕ). IsFresh c.new-page.result block (page_source_of c.args.source.now)) c.requires.block
    c.new-page.ensures.fresh

pub returns-clause-ok : goal.returns-clause-ok
returns-clause-ok g c =
    let page = c.new-page.result in
    let written = c.write-written in
    let fresh : IsFresh page [] (page_source_of c.args.source.now) =
    subst (λ (block : List ℕ). IsFresh page block (page_source_of c.args.source.now)) c.requires.block
    c.new-page.ensures.fresh in
    form_ok g.K.Sink c.args.out.now written.new.out c.finish.new.out (page_in page) (page_in written.result)
    c.args.form (page_source_of c.args.source.now) c.args.needs.values c.args.options c.finish.result c.requires.values
    c.requires.sound (fresh_block page [] (page_source_of c.args.source.now) fresh) (fresh_right page [] (page_source_of
    c.args.source.now) fresh)
    (λ (formats : Formats) (are : AreFormats c.args.source.now.document.now.sheet formats).
    subst (λ (form : PageForm). Prints g.K.Sink c.args.out.now (page_in page) written.new.out (page_in written.result)
    (form_text form (page_source_of c.args.source.now) (page_head formats c.args.options c.args.source.now.document.now)
    (document_places formats c.args.needs.values c.args.options c.args.source.now.document.now)))
    c.new-page.ensures.form
    (written.ensures formats are)) c.finish.ensures.right c.finish.ensures.ok

pub returns-clause-prefix : goal.returns-clause-prefix
returns-clause-prefix g c =
    let page = c.new-page.result in
    let written = c.write-written in
    let fresh : IsFresh page [] (page_source_of c.args.source.now) =
    subst (λ (block : List ℕ). IsFresh page block (page_source_of c.args.source.now)) c.requires.block
    c.new-page.ensures.fresh in
    form_prefix g.K.Sink c.args.out.now written.new.out c.finish.new.out (page_in page) (page_in written.result)
    c.args.form (page_source_of c.args.source.now) c.args.needs.values c.args.options c.finish.result c.requires.values
    c.requires.sound (fresh_block page [] (page_source_of c.args.source.now) fresh) (fresh_right page [] (page_source_of
    c.args.source.now) fresh)
    (λ (formats : Formats) (are : AreFormats c.args.source.now.document.now.sheet formats).
    subst (λ (form : PageForm). Prints g.K.Sink c.args.out.now (page_in page) written.new.out (page_in written.result)
    (form_text form (page_source_of c.args.source.now) (page_head formats c.args.options c.args.source.now.document.now)
    (document_places formats c.args.needs.values c.args.options c.args.source.now.document.now)))
    c.new-page.ensures.form
    (written.ensures formats are)) c.finish.ensures.fails c.finish.ensures.stays c.finish.ensures.faults

pub returns-clause-failed : goal.returns-clause-failed
returns-clause-failed g c =
    let page = c.new-page.result in
    let written = c.write-written in
    let fresh : IsFresh page [] (page_source_of c.args.source.now) =
    subst (λ (block : List ℕ). IsFresh page block (page_source_of c.args.source.now)) c.requires.block
    c.new-page.ensures.fresh in
    form_rose g.K.Sink c.args.out.now written.new.out c.finish.new.out (page_in page) (page_in written.result)
    c.args.form (page_source_of c.args.source.now) c.args.needs.values c.args.options c.finish.result c.requires.values
    c.requires.sound (fresh_right page [] (page_source_of c.args.source.now) fresh)
    (λ (formats : Formats) (are : AreFormats c.args.source.now.document.now.sheet formats).
    subst (λ (form : PageForm). Prints g.K.Sink c.args.out.now (page_in page) written.new.out (page_in written.result)
    (form_text form (page_source_of c.args.source.now) (page_head formats c.args.options c.args.source.now.document.now)
    (document_places formats c.args.needs.values c.args.options c.args.source.now.document.now)))
    c.new-page.ensures.form
    (written.ensures formats are)) c.finish.ensures.fails c.finish.ensures.stays c.finish.ensures.faults
