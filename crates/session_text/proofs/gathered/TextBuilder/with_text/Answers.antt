-- Each column has that of the text behind it.
use Rattle.std.proofs.Common.{◌∙◌, ◌++◌, List, ℕ, length, ap, arith}
use Rattle.std.proofs.lemmas.List.{length-map}
use Rattle.run_lists.proofs.Public.{length-spread}
use Rattle.prop_map.specs.Settings.{Properties}
use Rattle.doc_model.specs.declared.item.Item.{Item}
use Rattle.doc_columns.specs.declared.attached.Attached.{Attached}
use Rattle.doc_columns.specs.Attached.{attached_of}
use Rattle.doc_columns.proofs.Public.{text_long}
use Rattle.session_text.proofs.GatherLemmas.{joined_columns, joined_are}
use Rattle.session_text.proofs.gathered.TextBuilder.with_text.Goals as goal

pub put_runs-requires : goal.put_runs-requires
put_runs-requires c =
    let own = c.self.inside in
    let are = c.self.invariant in
    let long = text_long own.units.items own.chps own.attachments c.args.self are c.self.view_is in
    omega (
      arith,
      long,
      are.chps_long,
      length-spread c.chps-more_chps.result.now,
      ap length c.chps-more_chps.ensures,
      length-map c.args.text.now (λ (item : Item). item.chp),
      c.requires,
    )

pub put_runs-requires-2 : goal.put_runs-requires-2
put_runs-requires-2 c =
    let own = c.self.inside in
    let are = c.self.invariant in
    let long = text_long own.units.items own.chps own.attachments c.args.self are c.self.view_is in
    omega (
      arith,
      long,
      are.attachments_long,
      length-spread c.attachments-more_attachments.result.now,
      ap length c.attachments-more_attachments.ensures,
      length-map c.args.text.now attached_of,
      c.requires,
    )

pub invariant_of-result : goal.invariant_of-result
invariant_of-result c =
    let own = c.self.inside in
    let long = text_long own.units.items own.chps own.attachments c.args.self c.self.invariant c.self.view_is in
    joined_are own.units.items own.chps own.attachments c.extend_from_slice.new.self.items c.put_runs.new.out
    c.put_runs-2.new.out c.args.text.now c.self.invariant
    (c.in_ok-extend_from_slice.ensures.items ∙ ap (λ (l : List ℕ). own.units.items ++ l) c.units-more_units.ensures)
    (c.in_ok-put_runs.ensures ∙ ap (λ (l : List Properties). own.chps ++ l) c.chps-more_chps.ensures)
    (c.in_ok-put_runs-2.ensures ∙ ap (λ (l : List Attached). own.attachments ++ l)
    c.attachments-more_attachments.ensures)
    (omega (arith, long, c.requires)) c.len-len.ensures.formed

pub returns : goal.returns
returns c =
    let own = c.self.inside in
    joined_columns own.units.items own.chps own.attachments c.extend_from_slice.new.self.items c.put_runs.new.out
    c.put_runs-2.new.out c.args.self c.args.text.now c.self.invariant c.self.view_is
    (c.in_ok-extend_from_slice.ensures.items ∙ ap (λ (l : List ℕ). own.units.items ++ l) c.units-more_units.ensures)
    (c.in_ok-put_runs.ensures ∙ ap (λ (l : List Properties). own.chps ++ l) c.chps-more_chps.ensures)
    (c.in_ok-put_runs-2.ensures ∙ ap (λ (l : List Attached). own.attachments ++ l)
    c.attachments-more_attachments.ensures)
