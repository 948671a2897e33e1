use Rattle.doc_html.proofs.PageLemmas.{form_pages_one}
use Rattle.doc_html.proofs.laws.form_pages_are_one.Goals as goal

pub returns : goal.returns
returns c = form_pages_one
