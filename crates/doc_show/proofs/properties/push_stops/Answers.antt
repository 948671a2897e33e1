use Rattle.std.proofs.Common.{arith}
use Rattle.doc_show.specs.Properties.{tab_text}
use Rattle.doc_show.proofs.NumberedLemmas.{listed_on}
use Rattle.doc_show.proofs.properties.push_stops.Goals as goal

pub loop-k-preserved : goal.loop-k-preserved
loop-k-preserved c =
    listed_on tab_text c.args.tabs.now c.loop-k.k c.get.result.now c.args.text.now c.loop-k.text c.push_stop.new.text
    (omega arith) c.get.ensures c.loop-k.invariant c.in_ok-push_stop.ensures
