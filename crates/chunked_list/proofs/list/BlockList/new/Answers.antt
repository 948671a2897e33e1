-- No blocks.
use Rattle.std.proofs.Common.{◌∙◌, ap}
use Rattle.chunked_list.specs.Blocks.{joined}
use Rattle.chunked_list.proofs.JoinLemmas.{joined-nil}
use Rattle.chunked_list.proofs.PutLemmas.{no_blocks}
use Rattle.chunked_list.proofs.list.BlockList.new.Goals as goal

pub invariant_of-result : goal.invariant_of-result
invariant_of-result g c =
    no_blocks g.T.Measured.units c.new.result c.new-2.result.items c.new.ensures.blocks c.new-2.ensures.items

pub returns-clause-items : goal.returns-clause-items
returns-clause-items g c = ap joined c.new.ensures.blocks ∙ joined-nil
