use Rattle.html_page.proofs.BracketLemmas.{page_nests}
use Rattle.html_page.proofs.laws.pages_nest.Goals as goal

pub returns : goal.returns
returns c = page_nests
