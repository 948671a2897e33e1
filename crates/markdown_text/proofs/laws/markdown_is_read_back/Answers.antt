use Rattle.markdown_text.proofs.ReadLemmas.{read_back}
use Rattle.markdown_text.proofs.laws.markdown_is_read_back.Goals as goal

pub returns : goal.returns
returns c = read_back
