use Rattle.further_notes.proofs.SpliceLemmas.{splice_is_one}
use Rattle.further_notes.proofs.laws.splice_is_one.Goals as goal

pub returns : goal.returns
returns c = splice_is_one
