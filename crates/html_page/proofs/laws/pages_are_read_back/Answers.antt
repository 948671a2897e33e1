use Rattle.html_page.proofs.CloseLemmas.{page_read}
use Rattle.html_page.proofs.laws.pages_are_read_back.Goals as goal

pub returns : goal.returns
returns c = page_read
