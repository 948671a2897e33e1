use Rattle.save_laws.proofs.ByRunsLemmas.{bounded_texts_have_their_paragraphs}
use Rattle.save_laws.proofs.laws.bounded_texts_have_their_paragraphs.Goals as goal

pub returns : goal.returns
returns c = bounded_texts_have_their_paragraphs
