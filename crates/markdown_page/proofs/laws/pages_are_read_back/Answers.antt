use Rattle.markdown_page.proofs.RightLemmas.{page_read}
use Rattle.markdown_page.proofs.laws.pages_are_read_back.Goals as goal

pub returns : goal.returns
returns c = page_read
