use Rattle.edit_guards.proofs.PolicyLemmas.{next_grants, one_more_told}
use Rattle.edit_guards.proofs.guards.note_all.Goals as goal

pub tell-requires : goal.tell-requires
tell-requires g c = record {
  granted = next_grants _ c.args.guards.now c.loop-guard.guards c.args.facts c.loop-guard.guard-index
      c.guard-item.result
      c.loop-guard-test.true c.loop-guard.auto.guards c.loop-guard.invariant c.requires.granted;
}

pub loop-guard-preserved : goal.loop-guard-preserved
loop-guard-preserved g c =
    one_more_told _ c.args.guards.now c.loop-guard.guards c.args.facts c.loop-guard.guard-index c.guard-item.result
    c.tell.new.guard c.loop-guard-test.true c.loop-guard.auto.guards c.loop-guard.invariant c.tell.ensures.after
