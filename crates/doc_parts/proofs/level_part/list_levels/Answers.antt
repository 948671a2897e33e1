use Rattle.std.proofs.Common.{refl, subst, ◌+◌}
use Rattle.std.proofs.lemmas.Bool.{false≢true}
use Rattle.doc_parts.specs.Levels.{StopsAtLevel}
use Rattle.doc_parts.proofs.LevelLemmas.{lists_missing, level_leaves}
use Rattle.doc_parts.proofs.level_part.list_levels.Goals as goal

pub returns-then-not-has_lists : goal.returns-then-not-has_lists
returns-then-not-has_lists c =
    lists_missing c.args.table.now c.args.at c.args.lcb (λ h. false≢true (c.if-not-has_lists.ensures.1 h))

pub returns-in-Err : goal.returns-in-Err
returns-in-Err c =
    let stops = subst (λ count. StopsAtLevel c.args.table.now (c.args.at + c.args.lcb) count c.in-Err.start)
    c.level_count.ensures c.in-Err.ensures in
    level_leaves c.args.table.now c.args.at c.args.lcb c.in-Err.start (c.if-not-has_lists.ensures.0 refl) stops
