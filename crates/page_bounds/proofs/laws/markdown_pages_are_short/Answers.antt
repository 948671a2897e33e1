use Rattle.page_bounds.proofs.MarkdownLemmas.{markdown_short}
use Rattle.page_bounds.proofs.laws.markdown_pages_are_short.Goals as goal

pub returns : goal.returns
returns c = markdown_short
