-- Each item keeps its length.
use Rattle.std.proofs.Common.{◌∙◌, ap}
use Rattle.chunked_list.specs.Blocks.{total_units}
use Rattle.chunked_list.proofs.BuildLemmas.{units_same}
use Rattle.chunked_list.proofs.block.Block.change.Goals as goal

pub returns-clause-units : goal.returns-clause-units
returns-clause-units g c =
    units_same g.T.Measured.units c.change_all.new.items.items c.self.inside.items.items c.change_all.ensures.units
    ∙ ap (total_units g.T.Measured.units) c.self.view_is
