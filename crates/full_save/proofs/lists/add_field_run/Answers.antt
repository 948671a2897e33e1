use Rattle.std.specs.Prelude.{option_map}
use Rattle.std.proofs.Common.{◌≡◌, ◌+◌, ◌∙◌, ◌++◌, List, [], ◌∷◌, ℕ, Option, map, get_or, ap, subst}
use Rattle.std.proofs.Common.{arith}
use Rattle.std.proofs.lemmas.List.{get_or-map}
use Rattle.std.proofs.lemmas.Option.{slice_get_within, get_or_from_slice_get}
use Rattle.doc_model.specs.declared.item.Item.{Item}
use Rattle.doc_model.specs.Collected.{field_character}
use Rattle.doc_columns.specs.declared.attached.Attached.{Attached}
use Rattle.doc_columns.specs.Attached.{attached_of}
use Rattle.full_save.specs.Alike.{HaveAlike}
use Rattle.full_save.specs.Lists.{IsListedUpTo, field_entry}
use Rattle.full_save.proofs.AlikeLemmas.{alike_of}
use Rattle.full_save.proofs.ColumnLists.{listed_none, none_listed, one_listed, no_field}
use Rattle.full_save.proofs.lists.add_field_run.Goals as goal

pub returns-in_default : goal.returns-in_default
returns-in_default c = λ text start units are listed.
    let run = c.args.run.now in
    let fld : Item → Option ℕ = λ item. item.fld in
    listed_none field_character field_entry c.args.cp text c.args.place run.count start c.args.fields.now
    (no_field text c.args.place run.count
    (subst (λ (value : Option ℕ). HaveAlike fld value text c.args.place run.count) c.in_default.is
    (alike_of attached_of (λ (b : Attached). b.fld) run.value text c.args.place run.count are))) listed

pub loop-at-init : goal.loop-at-init
loop-at-init c =
    none_listed field_character field_entry c.args.cp (λ text. c.args.units.now ≡ map (λ (item : Item). item.unit) text)
    c.args.run.now.value c.args.place c.args.run.now.count c.args.fields.now

pub loop-at-preserved : goal.loop-at-preserved
loop-at-preserved c =
    let run = c.args.run.now in
    let units = c.args.units.now in
    let at = c.loop-at.at in
    let byte = c.in-Some.byte in
    let unit : Item → ℕ = λ item. item.unit in
    one_listed field_character field_entry c.args.cp (λ text. units ≡ map unit text) run.value c.args.place run.count at
    c.args.fields.now c.loop-at.fields c.add.new.self (λ item. (item.unit, byte)) c.loop-at-test.true
    (λ item is. ap (option_map (λ (b : ℕ). (item.unit, b))) (ap (λ (b : Attached). b.fld) is ∙ c.in-Some.is))
    (λ text item such here.
    let below = slice_get_within text at item here in
    let is : get_or units at 0 ≡ item.unit =
    ap (λ (ns : List ℕ). get_or ns at 0) such
    ∙ (get_or-map unit text at item 0 below ∙ ap unit (get_or_from_slice_get text at item item here)) in
    c.in_ok-add.ensures.ok
    ∙ ap (λ (n : ℕ). c.loop-at.fields ++ field_entry (c.args.cp + at, (n, byte)) ∷ []) is)
    c.loop-at.invariant

pub returns : goal.returns
returns c = λ text start units are listed.
    let run = c.args.run.now in
    let test = c.loop-at-test.false in
    let high = c.loop-at.invariant.high in
    let end : c.loop-at.at ≡ c.args.place + run.count = omega (arith, test, high) in
    subst (λ (n : ℕ). IsListedUpTo field_character field_entry c.args.cp text n start c.loop-at.fields) end
    (c.loop-at.invariant.goes text start units are listed)
