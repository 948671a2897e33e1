use Rattle.std.proofs.Common.{refl}
use Rattle.run_lists.specs.Spread.{expanded}
use Rattle.doc_columns.proofs.RightLemmas.{chps_formed, ends_of_units}
use Rattle.doc_columns.proofs.judge.right_counts.Goals as goal

pub are_short-requires : goal.are_short-requires
are_short-requires c =
    chps_formed c.args.text.now (expanded c.chps.result.now) c.chps.ensures c.len-len.ensures.formed.each

pub judged_counts-requires : goal.judged_counts-requires
judged_counts-requires c = record {
  formed = c.len-len.ensures.formed;
  units = c.units.ensures;
  chps = c.chps.ensures;
  short = c.if-not-are_short.ensures refl;
  ends = ends_of_units c.args.part c.args.text.now c.units.result.now c.units.ensures (c.if-not-ends_right.ensures
      refl);
}
