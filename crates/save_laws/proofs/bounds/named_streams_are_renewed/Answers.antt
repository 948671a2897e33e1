use Rattle.save_laws.proofs.RenewedLemmas.{named_streams_are_renewed}
use Rattle.save_laws.proofs.bounds.named_streams_are_renewed.Goals as goal

pub returns : goal.returns
returns c = named_streams_are_renewed
