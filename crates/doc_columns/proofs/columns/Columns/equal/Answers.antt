-- Texts are the same where their columns are.
use Rattle.std.proofs.Common.{◌≡◌, ◌∙◌, ℕ, List, map, length, refl, sym, ap, arith}
use Rattle.std.specs.Cmp.Lexicographic.{same_text}
use Rattle.std.proofs.lemmas.List.{length-map}
use Rattle.doc_model.specs.declared.item.Item.{Item}
use Rattle.doc_columns.specs.Attached.{attached_of}
use Rattle.doc_columns.proofs.EqualityLemmas.{not_false, column_long, same_columns}
use Rattle.doc_columns.proofs.columns.Columns.equal.Goals as goal

same_units : (one other : List Item) (units more : List ℕ) → units ≡ map (λ item. item.unit) one →
    more ≡ map (λ item. item.unit) other → units ≡ more → map (λ item. item.unit) one ≡ map (λ item. item.unit) other
same_units one other units more first second same = sym first ∙ same ∙ second

same_length : (one other : List Item) (len : ℕ) → len ≡ length one →
    map (λ item. item.unit) one ≡ map (λ item. item.unit) other → len ≡ length other
same_length one other len long same =
    omega (
      arith,
      long,
      ap length same,
      length-map one (λ (item : Item). item.unit),
      length-map other (λ (item : Item). item.unit),
    )

pub same_values-requires-clause-one : goal.same_values-requires-clause-one
same_values-requires-clause-one c =
    column_long c.chps.result.now c.args.self.now (λ (item : Item). item.chp) c.len-len.result c.chps.ensures
    c.len-len.ensures.len

pub same_values-requires-clause-other : goal.same_values-requires-clause-other
same_values-requires-clause-other c =
    let same = same_text c.units.result.now c.units-2.result.now (not_false _ c.if-ne.ensures) in
    let units =
    same_units c.args.self.now c.args.other.now c.units.result.now c.units-2.result.now c.units.ensures
    c.units-2.ensures same in
    column_long c.chps-2.result.now c.args.other.now (λ (item : Item). item.chp) c.len-len.result c.chps-2.ensures
    (same_length c.args.self.now c.args.other.now c.len-len.result c.len-len.ensures.len units)

pub same_values-requires-2-clause-one : goal.same_values-requires-2-clause-one
same_values-requires-2-clause-one c =
    column_long c.attachments.result.now c.args.self.now attached_of c.len-len.result c.attachments.ensures
    c.len-len.ensures.len

pub same_values-requires-2-clause-other : goal.same_values-requires-2-clause-other
same_values-requires-2-clause-other c =
    let same = same_text c.units.result.now c.units-2.result.now (not_false _ c.if-ne.ensures) in
    let units =
    same_units c.args.self.now c.args.other.now c.units.result.now c.units-2.result.now c.units.ensures
    c.units-2.ensures same in
    column_long c.attachments-2.result.now c.args.other.now attached_of c.len-len.result c.attachments-2.ensures
    (same_length c.args.self.now c.args.other.now c.len-len.result c.len-len.ensures.len units)

pub returns : goal.returns
returns c =
    let one = c.args.self.now in
    let other = c.args.other.now in
    let same = same_text c.units.result.now c.units-2.result.now (not_false _ c.if-ne.ensures) in
    let units =
    same_units one other c.units.result.now c.units-2.result.now c.units.ensures c.units-2.ensures same in
    let chps = sym c.chps.ensures ∙ c.if-not-same_values.ensures.0 refl ∙ c.chps-2.ensures in (
      λ yes. same_columns one other units chps
          (sym c.attachments.ensures ∙ c.same_values-2.ensures.0 yes ∙ c.attachments-2.ensures),
      λ e. c.same_values-2.ensures.1 (c.attachments.ensures ∙ ap (map attached_of) e ∙ sym c.attachments-2.ensures),
    )
