use Rattle.doc_markdown.proofs.ReadLemmas.{pages_read}
use Rattle.doc_markdown.proofs.laws.markdown_pages_are_read_back.Goals as goal

pub returns : goal.returns
returns c = pages_read
