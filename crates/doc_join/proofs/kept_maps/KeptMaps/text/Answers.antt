use Rattle.std.proofs.Common.{◌∙◌, List, map, length, sym, ap, subst, arith}
use Rattle.std.specs.Prelude.{All}
use Rattle.std.proofs.lemmas.List.{length-map}
use Rattle.run_lists.specs.Spread.{expanded}
use Rattle.doc_model.specs.declared.item.Item.{Item}
use Rattle.doc_model.specs.Document.{HasPropertyMaps}
use Rattle.doc_columns.specs.declared.attached.Attached.{Attached}
use Rattle.doc_columns.specs.Attached.{attached_of}
use Rattle.doc_join.specs.declared.renumbering.Renumbering.{Renumbering}
use Rattle.doc_join.specs.Settings.{renumbered_chp}
use Rattle.doc_join.specs.JoinedColumns.{renumbered_attached, HasOwnMark}
use Rattle.doc_join.proofs.TextLemmas.{formed_maps}
use Rattle.doc_join.proofs.ColumnLemmas.{own_marks, character_maps, column_few, text_renumbered}
use Rattle.doc_join.proofs.kept_maps.KeptMaps.text.Goals as goal

pub chps-requires-clause-few : goal.chps-requires-clause-few
chps-requires-clause-few c =
    column_few (λ (item : Item). item.chp) c.chps-chp_runs.result.now c.args.text.now c.chps-chp_runs.ensures
    c.len-len.ensures.formed

pub chps-requires-clause-maps : goal.chps-requires-clause-maps
chps-requires-clause-maps c = character_maps c.args.text.now _ c.chps-chp_runs.ensures c.len-len.ensures.formed

pub attachments-requires-clause-few : goal.attachments-requires-clause-few
attachments-requires-clause-few c =
    column_few attached_of c.attachments-attached_runs.result.now c.args.text.now c.attachments-attached_runs.ensures
    c.len-len.ensures.formed

pub attachments-requires-clause-styles : goal.attachments-requires-clause-styles
attachments-requires-clause-styles c =
    let runs : List Attached = expanded c.attachments-attached_runs.result.now in
    subst (λ (n : Renumbering). All (HasOwnMark n) runs) (sym c.in_ok-chps.ensures.numbers)
    (own_marks c.args.self.now.numbers c.args.text.now runs c.attachments-attached_runs.ensures c.requires)

pub from_parts-requires-clause-few : goal.from_parts-requires-clause-few
from_parts-requires-clause-few c =
    let few = c.len-len.ensures.formed.few in
    omega (
      arith,
      few,
      ap length c.in_ok-units.ensures.items,
      ap length c.units.ensures,
      length-map c.args.text.now (λ (item : Item). item.unit),
    )

pub from_parts-requires-clause-chps : goal.from_parts-requires-clause-chps
from_parts-requires-clause-chps c =
    omega (
      arith,
      ap length c.in_ok-units.ensures.items,
      ap length c.units.ensures,
      ap length c.in_ok-chps.ensures.made,
      ap length c.chps-chp_runs.ensures,
      length-map c.args.text.now (λ (item : Item). item.unit),
      length-map c.args.text.now (λ (item : Item). item.chp),
      length-map (expanded c.chps-chp_runs.result.now) (renumbered_chp c.args.self.now.numbers),
    )

pub from_parts-requires-clause-attachments : goal.from_parts-requires-clause-attachments
from_parts-requires-clause-attachments c =
    omega (
      arith,
      ap length c.in_ok-units.ensures.items,
      ap length c.units.ensures,
      ap length c.in_ok-attachments.ensures,
      ap length c.attachments-attached_runs.ensures,
      length-map c.args.text.now (λ (item : Item). item.unit),
      length-map c.args.text.now attached_of,
      length-map (expanded c.attachments-attached_runs.result.now) (renumbered_attached c.chps.new.self.numbers),
    )

pub from_parts-requires-clause-maps : goal.from_parts-requires-clause-maps
from_parts-requires-clause-maps c =
    let numbers = c.args.self.now.numbers in
    let text = c.args.text.now in
    let is = text_renumbered numbers text c.in_ok-units.units.items c.in_ok-chps.chps c.in_ok-attachments.attachments
    (c.in_ok-units.ensures.items ∙ c.units.ensures)
    (c.in_ok-chps.ensures.made ∙ ap (map (renumbered_chp numbers)) c.chps-chp_runs.ensures)
    (c.in_ok-attachments.ensures
    ∙ (ap (map (renumbered_attached c.chps.new.self.numbers)) c.attachments-attached_runs.ensures
    ∙ ap (λ (n : Renumbering). map (renumbered_attached n) (map attached_of text)) c.in_ok-chps.ensures.numbers)) in
    subst (All HasPropertyMaps) (sym is) (formed_maps numbers text c.len-len.ensures.formed)

pub returns-clause-made : goal.returns-clause-made
returns-clause-made c =
    let numbers = c.args.self.now.numbers in
    let text = c.args.text.now in
    c.from_parts.ensures
    ∙ text_renumbered numbers text c.in_ok-units.units.items c.in_ok-chps.chps c.in_ok-attachments.attachments
    (c.in_ok-units.ensures.items ∙ c.units.ensures)
    (c.in_ok-chps.ensures.made ∙ ap (map (renumbered_chp numbers)) c.chps-chp_runs.ensures)
    (c.in_ok-attachments.ensures
    ∙ (ap (map (renumbered_attached c.chps.new.self.numbers)) c.attachments-attached_runs.ensures
    ∙ ap (λ (n : Renumbering). map (renumbered_attached n) (map attached_of text)) c.in_ok-chps.ensures.numbers))
