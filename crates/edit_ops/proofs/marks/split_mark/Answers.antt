use Rattle.std.proofs.Common.{sym, subst}
use Rattle.prop_map.specs.Formed.{IsPropertyMap, paragraph_groups}
use Rattle.prop_map.proofs.Public.{IsPropertyMap-empty}
use Rattle.edit_ops.proofs.FreshLemmas.{mark_formed}
use Rattle.edit_ops.proofs.marks.split_mark.Goals as goal

pub returns-in-None-clause-formed : goal.returns-in-None-clause-formed
returns-in-None-clause-formed c =
    subst (IsPropertyMap paragraph_groups) (sym c.new.ensures) (IsPropertyMap-empty paragraph_groups)

pub returns-in_ok-outside_tables-in-Some-clause-formed : goal.returns-in_ok-outside_tables-in-Some-clause-formed
returns-in_ok-outside_tables-in-Some-clause-formed c =
    c.in_ok-outside_tables-in-Some.ensures.formed
    (mark_formed c.args.text.now c.args.at c.in-Some.mark.now c.len-len.ensures.formed c.in-Some.ensures)
