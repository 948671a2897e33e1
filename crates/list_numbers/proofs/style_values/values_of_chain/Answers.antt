use Rattle.list_numbers.proofs.ChainValueLemmas.{upto_more, next_values, values_upto}
use Rattle.list_numbers.proofs.style_values.values_of_chain.Goals as goal

pub values_over-values-requires-clause-below : goal.values_over-values-requires-clause-below
values_over-values-requires-clause-below c =
    let at = c.loop-i in
    next_values c.args.sheet.now _ c.args.chain.now at.i c.get.result _ c.requires.chain c.get.ensures
    (upto_more c.args.sheet.now c.args.chain.now at.i c.get.result at.values c.get.ensures at.invariant.values)

pub loop-i-preserved : goal.loop-i-preserved
loop-i-preserved c = record {
  values =
      values_upto c.args.sheet.now _ c.args.chain.now c.loop-i.i c.get.result c.values_over-values.result
      c.requires.chain c.get.ensures c.values_over-values.ensures.values;
  known = c.values_over-values.ensures.known;
}
