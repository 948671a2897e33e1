-- As many items, and as many units.
use Rattle.std.proofs.Common.{◌∙◌, length, ap}
use Rattle.chunked_list.specs.Blocks.{joined}
use Rattle.chunked_list.proofs.RangeLemmas.{length-map_range}
use Rattle.chunked_list.proofs.RemoveLemmas.{like_in_blocks}
use Rattle.chunked_list.proofs.list.BlockList.change.Goals as goal

pub invariant_of-self : goal.invariant_of-self
invariant_of-self g c =
    let row = c.self.inside.row in
    let gives = c.change_range.ensures in
    like_in_blocks g.T.Measured.units row c.change_range.new.row c.self.inside.ready.items c.self.inside.count
    c.self.inside.full c.self.invariant (gives.sized c.self.inside.full c.self.invariant.sized)
    (ap length gives.items
    ∙ length-map_range (g.C.Mapping.image c.args.by.now) (joined row.blocks) c.args.first c.args.last c.requires.order)
    gives.units gives.spare
