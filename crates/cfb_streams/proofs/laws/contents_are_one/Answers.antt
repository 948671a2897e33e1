use Rattle.cfb_streams.proofs.UniqueLemmas.{contents_unique}
use Rattle.cfb_streams.proofs.laws.contents_are_one.Goals as goal

pub returns : goal.returns
returns c = contents_unique
