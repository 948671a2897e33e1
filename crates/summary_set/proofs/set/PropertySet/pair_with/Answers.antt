use Rattle.std.proofs.Common.{◌≡◌, ◌<◌, ◌+◌, suc, rules, None, take, length, vec_len, sym, subst, arith}
use Rattle.std.specs.Prelude.{◌==◌, find}
use Rattle.std.proofs.lemmas.Bool.{eq-eqb, ne_eqb}
use Rattle.summary_set.specs.declared.set.PropertyPair.{PropertyPair}
use Rattle.summary_set.proofs.FindLemmas.{find_here, find_none_more}
use Rattle.summary_set.proofs.set.PropertySet.pair_with.Goals as goal

pub returns-then-pair-id : goal.returns-then-pair-id
returns-then-pair-id c =
    let pairs = c.args.self.now.pairs in
    let len : vec_len pairs ≡ length pairs.items = search rules in
    let below : c.loop-i.i < length pairs.items = omega (arith, c.loop-i-test.true, c.len-i-end.ensures) in
    sym (find_here (λ (pair : PropertyPair). pair.id == c.args.id) pairs.items c.loop-i.i c.index-pair.result.now below
    c.index-pair.ensures c.loop-i.invariant (eq-eqb c.index-pair.result.now.id c.args.id c.if-pair-id.true))

pub loop-i-preserved : goal.loop-i-preserved
loop-i-preserved c =
    let pairs = c.args.self.now.pairs in
    let len : vec_len pairs ≡ length pairs.items = search rules in
    let below : c.loop-i.i < length pairs.items = omega (arith, c.loop-i-test.true, c.len-i-end.ensures) in
    let next : suc c.loop-i.i ≡ c.loop-i.i + 1 = omega arith in
    subst (λ n. find (λ (pair : PropertyPair). pair.id == c.args.id) (take n pairs.items) ≡ None) next
    (find_none_more (λ (pair : PropertyPair). pair.id == c.args.id) pairs.items c.loop-i.i c.index-pair.result.now below
    c.index-pair.ensures c.loop-i.invariant (ne_eqb c.index-pair.result.now.id c.args.id c.if-pair-id.false))
