use Rattle.part_skips.proofs.OneLemmas.{prcs_put}
use Rattle.part_skips.proofs.prcs.skip_prcs_in.Goals as goal

pub returns : goal.returns
returns c =
    prcs_put c.args.stream.now c.skip_prcs.new.clx c.args.from c.args.to c.requires.ordered c.requires.within
    c.skip_prcs.ensures
