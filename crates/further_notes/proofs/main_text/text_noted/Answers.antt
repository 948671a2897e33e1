use Rattle.std.proofs.Common.{◌≡◌, ◌∙◌, ◌-◌, ◌≤◌, ◌<◌, ◌^◌, ap, sym, subst, arith, length, map, take, ℕ, List}
use Rattle.std.specs.Prelude.{All}
use Rattle.std.proofs.lemmas.List.{length-map, take_all}
use Rattle.prop_map.specs.Settings.{Properties}
use Rattle.run_lists.specs.Spread.{expanded, total_len}
use Rattle.run_lists.specs.Places.{IsAtRunBegin}
use Rattle.run_lists.proofs.Public.{extent-nil, length-spread}
use Rattle.doc_model.specs.declared.item.Item.{Item}
use Rattle.doc_model.specs.Document.{HasPropertyMaps}
use Rattle.doc_columns.specs.declared.attached.Attached.{Attached}
use Rattle.doc_columns.specs.Attached.{attached_of}
use Rattle.further_notes.specs.Splices.{attached_noted, unit_with, with_kinds}
use Rattle.further_notes.proofs.KindLemmas.{length-with_kinds, text_of_columns, noted_maps, chps_are}
use Rattle.further_notes.proofs.main_text.text_noted.Goals as goal

pub copy_runs-requires-clause-at : goal.copy_runs-requires-clause-at
copy_runs-requires-clause-at c =
    subst (IsAtRunBegin c.chps.result.now) (sym c.new.ensures) (record {
      there = omega arith;
      begins = extent-nil
          Properties;
    })

pub copy_runs-requires-clause-within : goal.copy_runs-requires-clause-within
copy_runs-requires-clause-within c =
    let text = c.args.text.now in
    let all : total_len c.chps.result.now ≡ length text =
    sym (length-spread c.chps.result.now) ∙ (ap length c.chps.ensures ∙ length-map text (λ (item : Item). item.chp)) in
    omega (arith, all, c.len-len.ensures.len)

pub copy_runs-requires-clause-few : goal.copy_runs-requires-clause-few
copy_runs-requires-clause-few c =
    let text = c.args.text.now in
    let few = c.len-len.ensures.formed.few in
    let all : total_len c.chps.result.now ≡ length text =
    sym (length-spread c.chps.result.now) ∙ (ap length c.chps.ensures ∙ length-map text (λ (item : Item). item.chp)) in
    omega (arith, all, few)

pub from_parts-requires-clause-few : goal.from_parts-requires-clause-few
from_parts-requires-clause-few c =
    let text = c.args.text.now in
    let units : List ℕ = map (λ (item : Item). item.unit) text in
    let few = c.len-len.ensures.formed.few in
    let long = ap length (c.in_ok-units.ensures ∙ ap (with_kinds (unit_with c.args.story) c.args.kinds.now) c.units.ensures) in
    let same = length-with_kinds (unit_with c.args.story) c.args.kinds.now units in
    let all = length-map text (λ (item : Item). item.unit) in
    omega (arith, few, long, same, all)

pub from_parts-requires-clause-chps : goal.from_parts-requires-clause-chps
from_parts-requires-clause-chps c =
    let text = c.args.text.now in
    let kinds = c.args.kinds.now in
    let units : List ℕ = map (λ (item : Item). item.unit) text in
    let chps : c.in_ok-chps.chps ≡ map (λ (item : Item). item.chp) text =
    chps_are text c.chps.result.now c.in_ok-chps.chps c.len-len.result c.chps.ensures c.len-len.ensures.len
    c.in_ok-chps.ensures.copy in
    ap length chps
    ∙ (length-map text (λ (item : Item). item.chp)
    ∙ sym (ap length (c.in_ok-units.ensures ∙ ap (with_kinds (unit_with c.args.story) kinds) c.units.ensures)
    ∙ (length-with_kinds (unit_with c.args.story) kinds units ∙ length-map text (λ (item : Item). item.unit))))

pub from_parts-requires-clause-attachments : goal.from_parts-requires-clause-attachments
from_parts-requires-clause-attachments c =
    let text = c.args.text.now in
    let column : List Attached = map attached_of text in
    let units : List ℕ = map (λ (item : Item). item.unit) text in
    ap length c.in_ok-attachments.ensures
    ∙ (length-with_kinds attached_noted c.args.kinds.now column
    ∙ (length-map text attached_of
    ∙ sym (ap length (c.in_ok-units.ensures ∙ ap (with_kinds (unit_with c.args.story) c.args.kinds.now) c.units.ensures)
    ∙ (length-with_kinds (unit_with c.args.story) c.args.kinds.now units
    ∙ length-map text (λ (item : Item). item.unit)))))

pub from_parts-requires-clause-maps : goal.from_parts-requires-clause-maps
from_parts-requires-clause-maps c =
    let text = c.args.text.now in
    let story = c.args.story in
    let kinds = c.args.kinds.now in
    let chps : c.in_ok-chps.chps ≡ map (λ (item : Item). item.chp) text =
    chps_are text c.chps.result.now c.in_ok-chps.chps c.len-len.result c.chps.ensures c.len-len.ensures.len
    c.in_ok-chps.ensures.copy in
    subst (All HasPropertyMaps) (sym (text_of_columns story kinds text c.in_ok-units.units.items c.in_ok-chps.chps
    c.in_ok-attachments.attachments (c.in_ok-units.ensures ∙ ap (with_kinds (unit_with story) kinds) c.units.ensures)
    chps c.in_ok-attachments.ensures))
    (noted_maps story kinds text c.len-len.ensures.formed)

pub returns : goal.returns
returns c =
    let text = c.args.text.now in
    let story = c.args.story in
    let kinds = c.args.kinds.now in
    let chps : c.in_ok-chps.chps ≡ map (λ (item : Item). item.chp) text =
    chps_are text c.chps.result.now c.in_ok-chps.chps c.len-len.result c.chps.ensures c.len-len.ensures.len
    c.in_ok-chps.ensures.copy in
    c.from_parts.ensures
    ∙ text_of_columns story kinds text c.in_ok-units.units.items c.in_ok-chps.chps c.in_ok-attachments.attachments
    (c.in_ok-units.ensures ∙ ap (with_kinds (unit_with story) kinds) c.units.ensures) chps c.in_ok-attachments.ensures
