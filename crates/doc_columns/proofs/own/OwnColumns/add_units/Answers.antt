-- Each column has so many entries more.
use Rattle.std.proofs.Common.{◌∙◌, ◌++◌, length, ap, arith}
use Rattle.std.specs.Prelude.{replicate}
use Rattle.doc_columns.specs.declared.attached.Attached.{Attached}
use Rattle.doc_columns.proofs.ItemsOfLemmas.{text_long, appended_columns, appended_are}
use Rattle.doc_columns.proofs.own.OwnColumns.add_units.Goals as goal

pub add-requires : goal.add-requires
add-requires c =
    let own = c.self.inside in
    let are = c.self.invariant in
    let long = text_long own.units.items own.chps own.attachments c.args.self are c.self.view_is in
    omega (arith, long, are.chps_long, c.requires.few)

pub add-requires-2 : goal.add-requires-2
add-requires-2 c =
    let own = c.self.inside in
    let are = c.self.invariant in
    let long = text_long own.units.items own.chps own.attachments c.args.self are c.self.view_is in
    omega (arith, long, are.attachments_long, c.requires.few)

pub invariant_of-result : goal.invariant_of-result
invariant_of-result c =
    let own = c.self.inside in
    let long = text_long own.units.items own.chps own.attachments c.args.self c.self.invariant c.self.view_is in
    appended_are own.units.items own.chps own.attachments c.extend_from_slice.new.self.items c.add.new.self
    c.add-2.new.self
    c.args.more.now c.args.chp c.self.invariant c.in_ok-extend_from_slice.ensures.items c.in_ok-add.ensures.ok
    (c.in_ok-add-2.ensures.ok
    ∙ ap (λ (b : Attached). own.attachments ++ replicate (length c.args.more.now) b) c.none.ensures)
    (omega (arith, long, c.requires.few)) c.requires.map c.are_words.ensures

pub returns : goal.returns
returns c =
    let own = c.self.inside in
    appended_columns own.units.items own.chps own.attachments c.extend_from_slice.new.self.items c.add.new.self
    c.add-2.new.self c.args.more.now c.args.chp c.args.self c.self.invariant c.self.view_is
    c.in_ok-extend_from_slice.ensures.items c.in_ok-add.ensures.ok
    (c.in_ok-add-2.ensures.ok
    ∙ ap (λ (b : Attached). own.attachments ++ replicate (length c.args.more.now) b) c.none.ensures)
