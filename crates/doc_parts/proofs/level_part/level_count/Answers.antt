use Rattle.std.proofs.Common.{sym, length, arith}
use Rattle.std.proofs.lemmas.Bool.{eqb-true}
use Rattle.doc_parts.proofs.LevelLemmas.{levels_before-zero, levels_before-simple, levels_before-nine}
use Rattle.doc_parts.proofs.LevelLemmas.{level_count-empty}
use Rattle.doc_parts.proofs.level_part.level_count.Goals as goal
use Rattle.doc_parts.proofs.level_part.level_count.Goals.{then-flags-eq1, else-flags-eq1}

pub loop-k-init : goal.loop-k-init
loop-k-init c = record {
  count = sym (levels_before-zero c.args.part.now);
  few = omega arith;
  lists = c.get16-k-end.ensures;
}

pub loop-k-preserved : goal.loop-k-preserved
loop-k-preserved c = elim c.if-flags-eq1.branch [
  | then-flags-eq1 w ↦ record {
    count = omega (arith, levels_before-simple c.args.part.now c.loop-k.k w.if-flags-eq1.true);
    few = omega arith;
    lists = c.get16-k-end.ensures;
  }
  | else-flags-eq1 w ↦ record {
    count = omega (arith, levels_before-nine c.args.part.now c.loop-k.k w.if-flags-eq1.false);
    few = omega arith;
    lists = c.get16-k-end.ensures;
  }
]

pub returns-then-is_empty : goal.returns-then-is_empty
returns-then-is_empty c = sym (level_count-empty c.args.part.now (eqb-true (length c.args.part.now) 0
    (sym c.if-is_empty.ensures)))
