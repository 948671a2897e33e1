use Rattle.cfb_streams.proofs.OuterLemmas.{accepted_outer}
use Rattle.cfb_streams.proofs.laws.accepted_is_outer.Goals as goal

pub returns : goal.returns
returns c = accepted_outer
