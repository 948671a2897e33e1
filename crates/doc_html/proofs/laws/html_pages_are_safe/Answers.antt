use Rattle.doc_html.proofs.PageLemmas.{html_pages_safe}
use Rattle.doc_html.proofs.laws.html_pages_are_safe.Goals as goal

pub returns : goal.returns
returns c = html_pages_safe
