use Rattle.std.proofs.Common.{◌≡◌, ◌∙◌, ◌++◌, ap, sym, subst, arith, ℕ, List, length}
use Rattle.std.specs.Prelude.{All}
use Rattle.std.proofs.lemmas.List.{length-map}
use Rattle.std.proofs.lemmas.List.Elements.{All-weaker}
use Rattle.prop_map.specs.Settings.{Properties}
use Rattle.run_lists.specs.Places.{IsAtRunBegin}
use Rattle.run_lists.specs.Spread.{expanded}
use Rattle.run_lists.proofs.Public.{extent-nil, length-spread}
use Rattle.doc_model.specs.declared.item.Item.{Item}
use Rattle.doc_model.specs.Document.{HasPropertyMaps, IsFormedItem}
use Rattle.doc_columns.specs.declared.attached.Attached.{Attached}
use Rattle.doc_columns.specs.Attached.{attached_of}
use Rattle.doc_patch.proofs.Public.{whole_range}
use Rattle.doc_mends.specs.declared.mends.DeletedRange.{DeletedRange}
use Rattle.doc_mends.specs.Striking.{chps_struck}
use Rattle.doc_mends.proofs.BatchLemmas.{all_within}
use Rattle.doc_mends.proofs.StruckLemmas.{AreStruckColumns, struck_columns, struck_items, chps_long, attachments_long}
use Rattle.doc_mends.proofs.StruckLemmas.{all_maps}
use Rattle.doc_mends.proofs.struck_runs.strike_text.Goals as goal

pub strike_chps-requires-clause-len : goal.strike_chps-requires-clause-len
strike_chps-requires-clause-len c =
    let text : List Item = c.args.text.now in
    sym (length-spread c.chps.result.now)
    ∙ (ap length c.chps.ensures
    ∙ (length-map text (λ (item : Item). item.chp) ∙ sym c.len-len.ensures.len))

pub strike_chps-requires-clause-few : goal.strike_chps-requires-clause-few
strike_chps-requires-clause-few c =
    let few = c.len-len.ensures.formed.few in
    omega (arith, few, c.len-len.ensures.len)

pub strike_chps-requires-clause-ranges : goal.strike_chps-requires-clause-ranges
strike_chps-requires-clause-ranges c =
    all_within c.args.text.now c.len-len.result c.args.batch.now.ranges.now (sym c.len-len.ensures.len)
    c.requires.ranges

pub copy_runs-requires-clause-at : goal.copy_runs-requires-clause-at
copy_runs-requires-clause-at c =
    subst (IsAtRunBegin c.attachments.result.now) (sym c.new.ensures) (record {
      there = omega arith;
      begins = extent-nil Attached;
    })

pub copy_runs-requires-clause-within : goal.copy_runs-requires-clause-within
copy_runs-requires-clause-within c =
    omega (
      arith,
      length-spread c.attachments.result.now,
      ap length c.attachments.ensures,
      length-map c.args.text.now attached_of,
      c.len-len.ensures.len,
    )

pub copy_runs-requires-clause-few : goal.copy_runs-requires-clause-few
copy_runs-requires-clause-few c =
    let few = c.len-len.ensures.formed.few in
    omega (
      arith,
      few,
      length-spread c.attachments.result.now,
      ap length c.attachments.ensures,
      length-map c.args.text.now attached_of,
    )

pub from_parts-requires : goal.from_parts-requires
from_parts-requires c =
    let text : List Item = c.args.text.now in
    let ranges : List DeletedRange = c.args.batch.now.ranges.now in
    let len : c.len-len.result ≡ length text = c.len-len.ensures.len in
    let units : List ℕ = c.extend_from_slice.new.self.items in
    let chps : List Properties = c.in_ok-chps.chps in
    let attachments : List Attached = c.in_ok-attachments.attachments in
    let are : AreStruckColumns ranges text units chps attachments =
    struck_columns c.len-len.result ranges text units chps attachments
    (all_within text c.len-len.result ranges (sym len) c.requires.ranges)
    (c.in_ok-extend_from_slice.ensures.items
    ∙ (ap (λ (l : List ℕ). l ++ c.units.result.now) c.in_ok-units.ensures.items ∙ c.units.ensures))
    (c.in_ok-chps.ensures ∙ ap (chps_struck ranges) c.chps.ensures)
    (c.in_ok-attachments.ensures.copy
    ∙ (whole_range (expanded c.attachments.result.now) c.len-len.result
    (len ∙ sym (ap length c.attachments.ensures ∙ length-map text attached_of))
    ∙ c.attachments.ensures)) in
    let formed = c.len-len.ensures.formed in
    let few = formed.few in
    record {
      few = omega (arith, few, are.long);
      chps = chps_long ranges text units chps attachments are;
      attachments = attachments_long ranges text units chps attachments are;
      maps = subst (All HasPropertyMaps) (sym (struck_items ranges text units chps attachments are))
          (all_maps ranges text (All-weaker IsFormedItem HasPropertyMaps (λ item is. is.maps) text formed.each));
    }

pub returns : goal.returns
returns c =
    let text : List Item = c.args.text.now in
    let ranges : List DeletedRange = c.args.batch.now.ranges.now in
    let len : c.len-len.result ≡ length text = c.len-len.ensures.len in
    let units : List ℕ = c.extend_from_slice.new.self.items in
    let chps : List Properties = c.in_ok-chps.chps in
    let attachments : List Attached = c.in_ok-attachments.attachments in
    let are : AreStruckColumns ranges text units chps attachments =
    struck_columns c.len-len.result ranges text units chps attachments
    (all_within text c.len-len.result ranges (sym len) c.requires.ranges)
    (c.in_ok-extend_from_slice.ensures.items
    ∙ (ap (λ (l : List ℕ). l ++ c.units.result.now) c.in_ok-units.ensures.items ∙ c.units.ensures))
    (c.in_ok-chps.ensures ∙ ap (chps_struck ranges) c.chps.ensures)
    (c.in_ok-attachments.ensures.copy
    ∙ (whole_range (expanded c.attachments.result.now) c.len-len.result
    (len ∙ sym (ap length c.attachments.ensures ∙ length-map text attached_of))
    ∙ c.attachments.ensures)) in
    c.from_parts.ensures ∙ struck_items ranges text units chps attachments are
