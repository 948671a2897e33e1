use Rattle.effective_props.specs.StopSteps.{kinds_in}
use Rattle.effective_props.proofs.StopStepLemmas.{adds_by_update, added_more}
use Rattle.effective_props.proofs.stops.add.Goals as goal

pub loop-i-preserved : goal.loop-i-preserved
loop-i-preserved c =
    added_more c.args.change.now c.loop-i.i c.added_tab.result (kinds_in c.args.stops.now) (kinds_in c.loop-i.stops)
    (kinds_in c.put.new.stops) c.loop-i.invariant
    (adds_by_update c.added_tab.result c.loop-i.stops c.put.new.stops c.in_ok-put.ensures) c.added_tab.ensures.at
    c.added_tab.ensures.kind
