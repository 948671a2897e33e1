-- The runs represent the columns.
use Rattle.std.proofs.Common.{◌∙◌, sym, subst, List}
use Rattle.run_lists.specs.Spread.{expanded}
use Rattle.prop_map.specs.Settings.{Properties}
use Rattle.doc_columns.specs.declared.attached.Attached.{Attached}
use Rattle.doc_columns.specs.Columns.{items_of, AreColumns}
use Rattle.doc_columns.proofs.shared_text.whole_of.Goals as goal

pub returns-clause-whole : goal.returns-clause-whole
returns-clause-whole c =
    let own = c.own.inside in
    subst (λ (bs : List Attached). AreColumns own.units.items (expanded c.in_ok-chps.chps.items) bs)
    (sym c.in_ok-attachments.ensures)
    (subst (λ (cs : List Properties). AreColumns own.units.items cs own.attachments) (sym c.in_ok-chps.ensures)
    c.own.invariant)

pub returns-clause-items : goal.returns-clause-items
returns-clause-items c =
    (λ i. items_of c.own.inside.units.items (c.in_ok-chps.ensures i) (c.in_ok-attachments.ensures i)) ∙ c.own.view_is
