use Rattle.std.proofs.Common.{sym, subst}
use Rattle.prop_map.specs.Formed.{IsPropertyMap, section_groups}
use Rattle.prop_map.proofs.Public.{overlay_formed}
use Rattle.edit_ops.proofs.FreshLemmas.{section_formed}
use Rattle.edit_ops.proofs.marks.new_section.Goals as goal

pub returns-in_ok-made-in-None-clause-formed : goal.returns-in_ok-made-in-None-clause-formed
returns-in_ok-made-in-None-clause-formed c =
    subst (IsPropertyMap section_groups) (sym c.in_ok-made-in-None.ensures) c.requires.set

pub returns-in_ok-made-in-Some-clause-formed : goal.returns-in_ok-made-in-Some-clause-formed
returns-in_ok-made-in-Some-clause-formed c =
    subst (IsPropertyMap section_groups) (sym c.in_ok-made-in-Some.ensures)
    (overlay_formed section_groups c.args.set.now c.in-Some.base.now c.requires.set
    (section_formed c.args.main.now c.args.at c.in-Some.base.now c.len-len.ensures.formed c.in-Some.ensures))
