use Rattle.fkp_pages.proofs.reading.papx_at.Goals as goal

pub returns : goal.returns
returns c = c.papx_stretch.ensures.answers c.args.fc c.papx_stretch.ensures.around.from c.papx_stretch.ensures.around.to
