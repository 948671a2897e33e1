use Rattle.cfb_streams.proofs.UniqueLemmas.{storages_unique}
use Rattle.cfb_streams.proofs.laws.storages_are_one.Goals as goal

pub returns : goal.returns
returns c = storages_unique
