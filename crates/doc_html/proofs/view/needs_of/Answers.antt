use Rattle.doc_html.proofs.view.needs_of.Goals as goal

pub returns-clause-title : goal.returns-clause-title
returns-clause-title c = λ formats are. c.in_ok-title.ensures formats are
