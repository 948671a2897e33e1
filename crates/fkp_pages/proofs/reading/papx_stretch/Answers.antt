use Rattle.fkp_pages.proofs.reading.papx_stretch.Goals as goal

pub next_stretch-requires-clause-cursor : goal.next_stretch-requires-clause-cursor
next_stretch-requires-clause-cursor c = c.start.ensures.cursor c.args.page.now
