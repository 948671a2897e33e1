use Rattle.std.proofs.Common.{◌∙◌, ap, sym, subst}
use Rattle.std.specs.FinMap.{empty}
use Rattle.prop_map.specs.Settings.{Properties}
use Rattle.prop_map.specs.Formed.{IsPropertyMap, paragraph_groups}
use Rattle.edit_ops.specs.Fresh.{mark_item, mark_with}
use Rattle.edit_ops.proofs.rows.mark_of_cell.Goals as goal

pub table_mark-requires : goal.table_mark-requires
table_mark-requires c = subst (IsPropertyMap paragraph_groups) (sym c.in_ok-pap.ensures) c.requires

pub returns-clause-item : goal.returns-clause-item
returns-clause-item c =
    c.in_ok-mark.ensures.item ∙ ap (λ (p : Properties). mark_item empty 0x07 (mark_with p)) c.in_ok-pap.ensures
