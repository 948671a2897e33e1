use Rattle.std.proofs.Common.{◌≡◌, ◌∙◌, ◌∷◌, [], ℕ, List, sym, subst}
use Rattle.std.proofs.lemmas.Result.{IfOk-weaker}
use Rattle.std.specs.Prelude.{IfOk}
use Rattle.std.specs.FinMap.{insert}
use Rattle.prop_map.specs.Settings.{Properties}
use Rattle.prop_map.specs.Formed.{IsPropertyMap, paragraph_groups}
use Rattle.edit_ops.specs.Fresh.{cell_properties, row_definition, row_properties}
use Rattle.edit_ops.proofs.RowLemmas.{row_formed}
use Rattle.edit_ops.proofs.rows.row_properties.Goals as goal

pub returns-clause-map : goal.returns-clause-map
returns-clause-map c =
    let is : c.as_slice.result.now ≡ row_definition c.args.cells c.args.width =
    c.as_slice.ensures ∙ c.in_ok-definition.ensures in
    subst (λ (d : List ℕ). IfOk c.mark_properties-made.result (λ made. made
    ≡ insert (insert cell_properties 0x2417 (1 ∷ [])) 0xD608 d)) is c.mark_properties-made.ensures

pub returns-clause-formed : goal.returns-clause-formed
returns-clause-formed c =
    let is : c.as_slice.result.now ≡ row_definition c.args.cells c.args.width =
    c.as_slice.ensures ∙ c.in_ok-definition.ensures in
    let map =
    subst (λ (d : List ℕ). IfOk c.mark_properties-made.result (λ made. made
    ≡ insert (insert cell_properties 0x2417 (1 ∷ [])) 0xD608 d)) is c.mark_properties-made.ensures in
    IfOk-weaker c.mark_properties-made.result (λ made. made ≡ row_properties c.args.cells c.args.width)
    (IsPropertyMap paragraph_groups)
    (λ (made : Properties) (same : made ≡ row_properties c.args.cells c.args.width).
    subst (IsPropertyMap paragraph_groups) (sym same) (row_formed c.args.cells c.args.width c.requires.cells)) map
