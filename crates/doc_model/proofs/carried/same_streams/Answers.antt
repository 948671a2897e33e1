-- The streams so far and the next one.
use Rattle.std.proofs.Common.{rules}
use Rattle.doc_model.proofs.StreamLemmas.{take_next_same}
use Rattle.doc_model.proofs.carried.same_streams.Goals as goal

pub loop-i-preserved : goal.loop-i-preserved
loop-i-preserved c =
    take_next_same _ _ _ (search rules) (search rules)
    (c.if-not-same_stream.ensures.0 (search rules)) c.loop-i.invariant
