use Rattle.prl_skips.proofs.PutLemmas.{range_put}
use Rattle.prl_skips.proofs.skips.skip_range.Goals as goal

pub returns : goal.returns
returns c =
    range_put c.args.bytes.now c.skip_list.new.list c.args.from c.args.to c.requires.ordered c.requires.within
    c.skip_list.ensures c.skip_list.auto.list
