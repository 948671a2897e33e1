-- The range of each column.
use Rattle.std.proofs.Common.{◌≡◌, ◌∙◌, ℕ, List, map, sym, ap, arith}
use Rattle.std.specs.Prelude.{slice_range}
use Rattle.doc_model.specs.declared.item.Item.{Item}
use Rattle.doc_columns.proofs.ItemsOfLemmas.{text_long, units-items_of}
use Rattle.doc_columns.proofs.ChangesLemmas.{range_are, range_columns}
use Rattle.doc_columns.proofs.own.OwnColumns.copy.Goals as goal

pub copy-requires-clause-within : goal.copy-requires-clause-within
copy-requires-clause-within c =
    let own = c.self.inside in
    let long = text_long own.units.items own.chps own.attachments c.args.self.now c.self.invariant c.self.view_is in
    omega (arith, long, c.self.invariant.chps_long, c.requires.within)

pub copy-requires-2-clause-within : goal.copy-requires-2-clause-within
copy-requires-2-clause-within c =
    let own = c.self.inside in
    let long = text_long own.units.items own.chps own.attachments c.args.self.now c.self.invariant c.self.view_is in
    omega (arith, long, c.self.invariant.attachments_long, c.requires.within)

pub invariant_of-result : goal.invariant_of-result
invariant_of-result c =
    let own = c.self.inside in
    let are = c.self.invariant in
    let long = text_long own.units.items own.chps own.attachments c.args.self.now are c.self.view_is in
    let all : c.units-all.result.now ≡ own.units.items =
    c.units-all.ensures
    ∙ sym (ap (map (λ (item : Item). item.unit)) c.self.view_is)
    ∙ units-items_of own.units.items own.chps own.attachments are.chps_long are.attachments_long in
    range_are own.units.items own.chps own.attachments c.in_ok-units.units.items c.in_ok-chps.chps
    c.in_ok-attachments.attachments
    c.args.from c.args.to are c.requires.ordered (omega (arith, long, c.requires.within))
    (c.in_ok-units.ensures.items ∙ ap (λ (t : List ℕ). slice_range t c.args.from c.args.to) all) c.in_ok-chps.ensures
    c.in_ok-attachments.ensures

pub returns : goal.returns
returns c =
    let own = c.self.inside in
    let are = c.self.invariant in
    let all : c.units-all.result.now ≡ own.units.items =
    c.units-all.ensures
    ∙ sym (ap (map (λ (item : Item). item.unit)) c.self.view_is)
    ∙ units-items_of own.units.items own.chps own.attachments are.chps_long are.attachments_long in
    range_columns own.units.items own.chps own.attachments c.in_ok-units.units.items c.in_ok-chps.chps
    c.in_ok-attachments.attachments
    c.args.self.now c.args.from c.args.to
    (c.in_ok-units.ensures.items ∙ ap (λ (t : List ℕ). slice_range t c.args.from c.args.to) all) c.in_ok-chps.ensures
    c.in_ok-attachments.ensures c.self.view_is
