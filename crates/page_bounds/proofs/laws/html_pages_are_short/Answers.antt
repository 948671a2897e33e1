use Rattle.page_bounds.proofs.HtmlLemmas.{html_short}
use Rattle.page_bounds.proofs.laws.html_pages_are_short.Goals as goal

pub returns : goal.returns
returns c = html_short
