use Rattle.std.proofs.Common.{◌≡◌, ◌∙◌, ◌<◌, false, arith}
use Rattle.std.proofs.lemmas.Bool.{ne_eqb}
use Rattle.property_sets.specs.Sets.{pair_count}
use Rattle.property_sets.proofs.WalkLemmas.{dictionary_later, names_dictionary}
use Rattle.property_sets.proofs.dictionary.dictionary_pair.Goals as goal

pub loop-i-preserved : goal.loop-i-preserved
loop-i-preserved c =
    let set = c.args.set.now in
    let pair = c.pair_at-pair.result in
    let below : c.loop-i.i < pair_count set = omega (arith, c.loop-i-test.true, c.pair_count-i-end.ensures) in
    c.loop-i.invariant
    ∙ dictionary_later set c.loop-i.i pair below c.pair_at-pair.ensures (ne_eqb pair.id 0 c.if-pair-eq-DICTIONARY.false)
