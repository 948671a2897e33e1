use Rattle.full_save.proofs.MeasureLemmas.{one_text_measured, plain_measurable}
use Rattle.full_save.proofs.measures.measure_of_texts.Goals as goal

pub measure_of-fields-requires : goal.measure_of-fields-requires
measure_of-fields-requires c = plain_measurable _ c.get-text.result.now (λ is. absurd (cc))

pub loop-k-preserved : goal.loop-k-preserved
loop-k-preserved c =
    one_text_measured c.args.texts.now c.loop-k.k c.loop-k.units c.loop-k.fields c.measure_of-fields.result
    c.len.result c.get-text.result.now c.get-text.ensures c.len.ensures.len c.measure_of-fields.ensures.is
    c.measure_of-fields.ensures.bound c.loop-k.invariant
