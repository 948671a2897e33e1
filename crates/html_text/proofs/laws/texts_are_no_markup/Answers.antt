use Rattle.html_text.proofs.ReadLemmas.{no_markup}
use Rattle.html_text.proofs.laws.texts_are_no_markup.Goals as goal

pub returns : goal.returns
returns c = no_markup
