-- An item more is exchanged.
use Rattle.std.proofs.Common.{◌∙◌, set, ap, arith}
use Rattle.chunked_list.proofs.RangeLemmas.{map_range_more, map_kept}
use Rattle.chunked_list.proofs.block.change_all.Goals as goal

pub loop-i-preserved : goal.loop-i-preserved
loop-i-preserved g c =
    let items = c.loop-i.items.items in
    let one = c.index.result.now in
    record {
      items = ap (λ (y : g.row.T.Denot). set items c.loop-i.i y) c.apply.ensures.value
          ∙ map_range_more (g.C.Mapping.image c.args.by.now) c.args.items.now.items items c.args.first c.loop-i.i one
          (omega arith) (omega (arith, c.requires.within)) c.loop-i.invariant.items c.index.ensures;
      units = map_kept g.T.Measured.units items c.loop-i.i one c.apply.result c.index.ensures c.apply.ensures.units
          ∙ c.loop-i.invariant.units;
      room = c.loop-i.invariant.room;
    }
