use Rattle.html_text.proofs.ReadLemmas.{text_back}
use Rattle.html_text.proofs.laws.texts_are_read_back.Goals as goal

pub returns : goal.returns
returns c = text_back
