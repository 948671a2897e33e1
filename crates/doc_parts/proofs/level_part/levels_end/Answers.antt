use Rattle.doc_parts.proofs.LevelLemmas.{levels-none, levels-more, levels-stop}
use Rattle.doc_parts.proofs.level_part.levels_end.Goals as goal

pub loop-k-init : goal.loop-k-init
loop-k-init c = levels-none c.args.table.now c.args.from c.requires.within

pub returns-in-None : goal.returns-in-None
returns-in-None c =
    levels-stop c.args.table.now c.args.from c.args.count c.loop-k._k c.loop-k.start c.loop-k-test.true
    c.loop-k.invariant c.in-None.ensures

pub loop-k-preserved : goal.loop-k-preserved
loop-k-preserved c =
    levels-more c.args.table.now c.args.from c.loop-k._k c.loop-k.start c.in-Some.end c.loop-k.invariant
    c.in-Some.ensures.0 c.in-Some.ensures.1
