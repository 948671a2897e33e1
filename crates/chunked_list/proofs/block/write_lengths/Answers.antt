-- A length more is told.
use Rattle.std.proofs.Common.{◌∙◌, ap, arith, length, length-set}
use Rattle.chunked_list.proofs.UnitLemmas.{told_more}
use Rattle.chunked_list.proofs.block.write_lengths.Goals as goal

pub loop-i-preserved : goal.loop-i-preserved
loop-i-preserved g c =
    let units = g.T.Measured.units in
    let items = c.args.items.now.items in
    let lens = c.loop-i.lens.sums in
    let one = c.index.result.now in
    record {
      before = told_more units items lens c.set.new.self.sums c.loop-i.i c.units.result one (omega arith)
          (omega (arith, c.loop-i.invariant.long, c.requires.long)) c.loop-i.invariant.before
          (c.units.ensures ∙ ap units c.index.ensures) c.set.ensures.sums;
      long = ap length c.set.ensures.sums ∙ length-set lens c.loop-i.i c.units.result ∙ c.loop-i.invariant.long;
    }
