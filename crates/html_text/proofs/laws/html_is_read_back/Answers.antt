use Rattle.html_text.proofs.ReadLemmas.{read_back}
use Rattle.html_text.proofs.laws.html_is_read_back.Goals as goal

pub returns : goal.returns
returns c = read_back
