use Rattle.script_run.proofs.SaveLemmas.{counted_on}
use Rattle.script_run.proofs.saves.count_mode.Goals as goal

pub loop-i-preserved : goal.loop-i-preserved
loop-i-preserved c =
    counted_on c.args.full c.args.script.now c.loop-i.i c.get.result.now c.loop-i.count c.saves_in.result
    c.get.ensures c.saves_in.ensures c.loop-i.invariant
