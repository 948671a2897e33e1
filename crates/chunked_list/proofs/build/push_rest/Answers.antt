-- The last block.
use Rattle.std.proofs.Common.{◌∙◌, ap}
use Rattle.chunked_list.specs.Blocks.{joined}
use Rattle.chunked_list.proofs.BuildLemmas.{joined_push}
use Rattle.chunked_list.proofs.build.push_rest.Goals as goal

pub returns-clause-items : goal.returns-clause-items
returns-clause-items g c = ap joined c.in_ok-push.ensures.blocks ∙ joined_push c.args.row.now.blocks c.args.items.now
