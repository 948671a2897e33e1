use Rattle.std.proofs.Common.{Err, ap, refl}
use Rattle.html_page.specs.Sources.{page_source_of}
use Rattle.docview_run.specs.Endings.{PrintsPage}
use Rattle.docview_run.proofs.EndLemmas.{cut_ends, text_ends}
use Rattle.docview_run.proofs.run.show_source.Goals as goal

pub returns-in-Ok-clause-ends : goal.returns-in-Ok-clause-ends
returns-in-Ok-clause-ends g c =
    let shown = c.in-Ok.ensures.ok in
    text_ends (PrintsPage c.args.view (page_source_of c.args.source.now)) g.K.Sink c.args.out.now c.write_view.new.out
    shown.0
    (shown.0, (shown.1.0, refl)) shown.1.1

pub returns-in-Err-Sink-clause-ends : goal.returns-in-Err-Sink-clause-ends
returns-in-Err-Sink-clause-ends g c =
    let shown = c.in-Err-Sink.ensures.prefix (ap Err c.in-Err-Sink.field-0-is) in
    cut_ends (PrintsPage c.args.view (page_source_of c.args.source.now)) g.K.Sink c.args.out.now c.write_view.new.out
    shown.0
    (shown.0, (shown.1.0, refl)) shown.1.1 (c.in-Err-Sink.ensures.failed (ap Err c.in-Err-Sink.field-0-is))
