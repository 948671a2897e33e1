use Rattle.fkp_pages.proofs.reading.chpx_at.Goals as goal

pub returns : goal.returns
returns c = c.chpx_stretch.ensures.answers c.args.fc c.chpx_stretch.ensures.around.from c.chpx_stretch.ensures.around.to
