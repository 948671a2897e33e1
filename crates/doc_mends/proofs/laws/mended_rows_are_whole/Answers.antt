use Rattle.doc_mends.proofs.LaterRowLemmas.{mended_whole}
use Rattle.doc_mends.proofs.laws.mended_rows_are_whole.Goals as goal

pub returns : goal.returns
returns c = mended_whole
