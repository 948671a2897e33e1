use Rattle.std.proofs.Common.{ap, ◌∙◌}
use Rattle.page_out.specs.declared.page.Page.{Page}
use Rattle.doc_view.proofs.PageLemmas.{page_ok, page_prefix, page_rose}
use Rattle.doc_view.proofs.view.write_with.Goals as goal

pub returns-clause-ok : goal.returns-clause-ok
returns-clause-ok g c =
    let page = c.new-page.result in
    page_ok g.K.Sink c.args.out.now c.push.new.out c.finish.new.out page c.push.new.page c.args.document.now
    c.args.needs.values c.args.options c.finish.result c.requires.values c.requires.sound (ap (λ (p : Page). p.block) c.new-page.ensures ∙ c.requires.block)
    (ap (λ (p : Page). p.failed) c.new-page.ensures) c.push.ensures c.finish.ensures.right c.finish.ensures.ok

pub returns-clause-prefix : goal.returns-clause-prefix
returns-clause-prefix g c =
    let page = c.new-page.result in
    page_prefix g.K.Sink c.args.out.now c.push.new.out c.finish.new.out page c.push.new.page c.args.document.now
    c.args.needs.values c.args.options c.finish.result c.requires.values c.requires.sound
    (ap (λ (p : Page). p.block) c.new-page.ensures ∙ c.requires.block)
    (ap (λ (p : Page). p.failed) c.new-page.ensures) c.push.ensures c.finish.ensures.fails c.finish.ensures.stays
    c.finish.ensures.faults

pub returns-clause-failed : goal.returns-clause-failed
returns-clause-failed g c =
    let page = c.new-page.result in
    page_rose g.K.Sink c.args.out.now c.push.new.out c.finish.new.out page c.push.new.page c.args.document.now
    c.args.needs.values c.args.options c.finish.result c.requires.values c.requires.sound (ap (λ (p : Page). p.failed) c.new-page.ensures) c.push.ensures
    c.finish.ensures.fails c.finish.ensures.stays c.finish.ensures.faults
