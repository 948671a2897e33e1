use Rattle.cfb_in_place.proofs.RoleLemmas.{given_step}
use Rattle.cfb_in_place.proofs.roles.give.Goals as goal

pub loop-index-preserved : goal.loop-index-preserved
loop-index-preserved c = given_step c.args.roles.now c.loop-index.roles c.args.sectors.now c.args.part
    c.loop-index.index c.loop-index.invariant c.loop-index-test.true (c.requires.inside c.loop-index.index
    c.loop-index-test.true) c.requires.distinct
