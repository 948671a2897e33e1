use Rattle.doc_read.proofs.ShortStreams.{streams_short}
use Rattle.doc_read.proofs.laws.carried_streams_are_short.Goals as goal

pub returns : goal.returns
returns c = streams_short
