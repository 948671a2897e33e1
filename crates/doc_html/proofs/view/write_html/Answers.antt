use Rattle.html_page.specs.Sources.{page_source_of}
use Rattle.doc_html.proofs.PageLemmas.{html_safe}
use Rattle.doc_html.proofs.view.write_html.Goals as goal

pub returns-clause-safe : goal.returns-clause-safe
returns-clause-safe g c =
    html_safe g.K.Sink c.args.out.now c.write_form.new.out (page_source_of c.args.source.now) c.args.options
    c.write_form.result
    c.write_form.ensures.ok
