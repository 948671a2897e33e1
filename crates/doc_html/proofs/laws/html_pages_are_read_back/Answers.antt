use Rattle.doc_html.proofs.PageLemmas.{html_pages_read}
use Rattle.doc_html.proofs.laws.html_pages_are_read_back.Goals as goal

pub returns : goal.returns
returns c = html_pages_read
