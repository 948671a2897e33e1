use Rattle.cfb_in_place.proofs.FreeLemmas.{freed_none, freed_step}
use Rattle.cfb_in_place.proofs.tables.free_entries.Goals as goal

pub loop-sector-init : goal.loop-sector-init
loop-sector-init c = freed_none c.args.entries.now c.args.freed.now

pub loop-sector-preserved : goal.loop-sector-preserved
loop-sector-preserved c = freed_step c.args.entries.now c.loop-sector.entries c.args.freed.now
    c.loop-sector.sector-index c.loop-sector.invariant c.loop-sector-test.true (c.requires c.loop-sector.sector-index
    c.loop-sector-test.true)
