use Rattle.std.proofs.Common.{List, [], subst}
use Rattle.doc_pictures.specs.declared.pictures.Picture.{Picture}
use Rattle.docview_run.specs.Endings.{PrintsPage, RunEnds, pictured_source}
use Rattle.docview_run.proofs.run.show_document.Goals as goal

pub returns-clause-ends : goal.returns-clause-ends
returns-clause-ends g c =
    subst (λ (pictures : List Picture). RunEnds (PrintsPage c.args.view (pictured_source c.args.document.now [] pictures))
    g.K.Sink c.args.out.now c.show_source.new.out c.show_source.result) c.none-pictures.ensures c.show_source.ensures.ends
