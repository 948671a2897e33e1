-- The texts of a document by columns are gone through run by run.
use Rattle.std.proofs.Common.{◌≡◌, inl, inr, ℕ, zero, suc, ◌+◌, ◌-◌, ◌<◌, ◌≤◌, false, List, length, take, map, get_or}
use Rattle.std.proofs.Common.{Some, refl, sym, ◌∙◌, ap, subst, arith}
use Rattle.std.specs.Prelude.{slice_get, slice_range, option_map}
use Rattle.std.specs.List.{All}
use Rattle.std.proofs.lemmas.List.{length-map}
use Rattle.std.proofs.lemmas.List.Edits.{length-between, get_or-between}
use Rattle.std.proofs.lemmas.List.Elements.{All-get_or}
use Rattle.std.proofs.lemmas.Option.{slice_get_within, get_or_from_slice_get, slice_get_cases, slice_get-map, same_Some}
use Rattle.doc_bits.proofs.Public.{All_at}
use Rattle.doc_bits.specs.declared.places.Where.{Where}
use Rattle.prop_map.specs.Settings.{Properties}
use Rattle.run_lists.specs.declared.runs.Run.{Run}
use Rattle.run_lists.specs.Spread.{expanded, total_len}
use Rattle.run_lists.proofs.Public.{length-spread, extent_all, value_in_run}
use Rattle.text_codes.specs.Paragraph.{paragraph_mark}
use Rattle.doc_model.specs.declared.item.Item.{Item}
use Rattle.plain_doc.specs.declared.text_walk.TextWalk.{TextWalk}
use Rattle.doc_model.specs.Document.{HasPropertyMaps}
use Rattle.plain_doc.specs.RulesOfItems.{IsShortChp}
use Rattle.plain_doc.specs.RulesOfTexts.{EndsRight, last_unit}
use Rattle.plain_doc.proofs.Public.{maps_there, one_passed}
use Rattle.doc_columns.specs.Specials.{IsPlainUnit}
use Rattle.doc_columns.proofs.SpecialLemmas.{bare_passes}
use Rattle.doc_columns.specs.declared.attached.Attached.{Attached}
use Rattle.doc_columns.specs.declared.judge.JudgedText.{JudgedText}
use Rattle.doc_columns.specs.Attached.{has_something, attached_of}
use Rattle.doc_columns.specs.Columns.{item_of}
use Rattle.doc_columns.specs.Judging.{IsJudgedText, IsPassedTo, IsAttachedRun}
use Rattle.doc_columns.proofs.CollectLemmas.{whole_text, run_inside}
use Rattle.doc_columns.proofs.ItemsOfLemmas.{item_at}

-- ---- the runs of a text

-- a run is beside the items of its places
pub run_at : (text : List Item) (runs : List (Run Attached)) (k place : ℕ) (run : Run Attached) →
    expanded runs ≡ map attached_of text → slice_get runs k ≡ Some run → place ≡ total_len (take k runs)
    → IsAttachedRun text place run
run_at text runs k place run bs is begins = record {
  within = run_inside text runs k place run bs is begins;
  values = λ at from until.
      let left : ℕ = at - place in
      let inside : left < run.count = omega (arith, from, until) in
      let here : total_len (take k runs) + left ≡ at = omega (arith, from, begins) in
      subst (λ (list : List Attached). slice_get list at ≡ Some run.value) bs
      (subst (λ (n : ℕ). slice_get (expanded runs) n ≡ Some run.value) here (value_in_run runs k left run is inside));
}

-- all runs make the whole text
pub all_passed_to : (judged : JudgedText) (runs : List (Run Attached)) (k place : ℕ) (walk : TextWalk) →
    expanded runs ≡ map attached_of judged.text.now → length runs ≤ k → place ≡ total_len (take k runs)
    → IsPassedTo judged place walk → IsPassedTo judged (length judged.text.now) walk
all_passed_to judged runs k place walk bs all begins passed =
    let text = judged.text.now in
    let long : length (map attached_of text) ≡ length text = length-map text attached_of in
    let end : place ≡ length text =
    omega (arith, extent_all runs k all, length-spread runs, ap length bs, long, begins) in
    subst (λ (n : ℕ). IsPassedTo judged n walk) end passed

-- ---- an item of a run

pub units_long : (judged : JudgedText) → IsJudgedText judged → length judged.units.now ≡ length judged.text.now
units_long judged right =
    ap length right.units ∙ length-map judged.text.now (λ (item : Item). item.unit)

pub chps_long : (judged : JudgedText) → IsJudgedText judged → total_len judged.chps.now ≡ length judged.text.now
chps_long judged right =
    sym (length-spread judged.chps.now) ∙ ap length right.chps
    ∙ length-map judged.text.now (λ (item : Item). item.chp)

-- the item of the columns is in the text
pub made_there : (judged : JudgedText) (place at : ℕ) (run : Run Attached) (unit : ℕ) (chp : Properties) →
    IsJudgedText judged → IsAttachedRun judged.text.now place run → place ≤ at → at < place + run.count
    → slice_get judged.units.now at ≡ Some unit → slice_get (expanded judged.chps.now) at ≡ Some chp
    → slice_get judged.text.now at ≡ Some (item_of unit chp run.value)
made_there judged place at run unit chp right stands from until unit_there chp_there =
    let text = judged.text.now in
    let attachments : List Attached = map attached_of text in
    let whole = whole_text text judged.units.now (expanded judged.chps.now) attachments right.units right.chps refl in
    subst (λ (items : List Item). slice_get items at ≡ Some (item_of unit chp run.value)) whole
    (item_at judged.units.now (expanded judged.chps.now) attachments at unit chp run.value unit_there chp_there
    (stands.values at from until))

-- its maps are those of their places
pub made_maps : (judged : JudgedText) (at : ℕ) (item made : Item) → IsJudgedText judged →
    slice_get judged.text.now at ≡ Some item → made ≡ item → HasPropertyMaps made
made_maps judged at item made right there is =
    subst HasPropertyMaps (sym is) (maps_there judged.text.now at item right.formed there)

-- ---- a run of bare items

-- the last item of a text that ends right is not a plain one
not_last : (part : Where) (text : List Item) (at : ℕ) (item : Item) → slice_get text at ≡ Some item →
    EndsRight part text → IsPlainUnit item.unit → at + 1 ≡ length text → ⊥
not_last part text at item there ends plain last =
    let place : at ≡ length text - 1 = omega (arith, last) in
    let unit : last_unit text ≡ Some item.unit =
    ap (λ (n : ℕ). option_map (λ (x : Item). x.unit) (slice_get text n)) (sym place)
    ∙ ap (option_map (λ (x : Item). x.unit)) there in
    elim ends [
      | inl mark ↦ plain.paragraph (same_Some item.unit paragraph_mark (sym unit ∙ mark))
      | inr none ↦ (let empty : length text ≡ 0 = ap length none.1 in omega (arith, empty, last))
    ]

-- a bare item is passed
one_bare : (judged : JudgedText) (place at : ℕ) (run : Run Attached) (walk : TextWalk) (item : Item) →
    IsJudgedText judged → IsAttachedRun judged.text.now place run → has_something run.value ≡ false
    → All IsPlainUnit (slice_range judged.units.now place (place + run.count)) → place ≤ at
    → at < place + run.count → slice_get judged.text.now at ≡ Some item → IsPassedTo judged at walk
    → IsPassedTo judged (at + 1) walk
one_bare judged place at run walk item right stands bare plain from until there passed =
    let text = judged.text.now in
    let units = judged.units.now in
    let to = place + run.count in
    let within : at < length text = slice_get_within text at item there in
    let here : get_or text at item ≡ item = get_or_from_slice_get text at item item there in
    let unit_there : slice_get units at ≡ Some item.unit =
    ap (λ (us : List ℕ). slice_get us at) right.units ∙ slice_get-map (λ (x : Item). x.unit) text at
    ∙ ap (option_map (λ (x : Item). x.unit)) there in
    let chp_there : slice_get (expanded judged.chps.now) at ≡ Some item.chp =
    ap (λ (cs : List Properties). slice_get cs at) right.chps ∙ slice_get-map (λ (x : Item). x.chp) text at
    ∙ ap (option_map (λ (x : Item). x.chp)) there in
    let attached_there : Some (attached_of item) ≡ Some run.value =
    sym (ap (option_map attached_of) there) ∙ sym (slice_get-map attached_of text at) ∙ stands.values at from until in
    let attached : attached_of item ≡ run.value = same_Some (attached_of item) run.value attached_there in
    let left : ℕ = at - place in
    let sum : place + left ≡ at = omega (arith, from) in
    let units_long : length units ≡ length text = ap length right.units ∙ length-map text (λ (x : Item). x.unit) in
    let range : length (slice_range units place to) ≡ to - place =
    length-between units place to (omega (arith, stands.within, units_long)) in
    let got : get_or (slice_range units place to) left item.unit ≡ item.unit =
    get_or-between units place to left item.unit (omega (arith, sum, until))
    ∙ ap (λ (n : ℕ). get_or units n item.unit) sum
    ∙ get_or_from_slice_get units at item.unit item.unit unit_there in
    let plain_unit : IsPlainUnit item.unit =
    subst IsPlainUnit got
    (All-get_or IsPlainUnit (slice_range units place to) left item.unit (omega (arith, range, from, until)) plain) in
    one_passed judged.sheet.now judged.part text at item walk walk within (sym here) passed
    (bare_passes judged.sheet.now judged.part (length text) at item walk (ap has_something attached ∙ bare) plain_unit
    (All_at IsShortChp (expanded judged.chps.now) at item.chp right.short chp_there)
    (not_last judged.part text at item there right.ends plain_unit))

bare_on : (judged : JudgedText) (place n : ℕ) (run : Run Attached) (walk : TextWalk) → IsJudgedText judged →
    IsAttachedRun judged.text.now place run → has_something run.value ≡ false
    → All IsPlainUnit (slice_range judged.units.now place (place + run.count)) → n ≤ run.count
    → IsPassedTo judged place walk → IsPassedTo judged (place + n) walk
bare_on judged place zero run walk right stands bare plain few passed =
    let same : place ≡ place + 0 = omega arith in subst (λ (k : ℕ). IsPassedTo judged k walk) same passed
bare_on judged place (suc n) run walk right stands bare plain few passed =
    let text = judged.text.now in
    let at = place + n in
    let next : at + 1 ≡ place + suc n = omega arith in
    let until : at < place + run.count = omega (arith, few) in
    let from : place ≤ at = omega arith in
    let before = bare_on judged place n run walk right stands bare plain (omega (arith, few)) passed in
    elim (slice_get_cases text at).1 [
      | inl w ↦
          subst (λ (k : ℕ). IsPassedTo judged k walk) next
          (one_bare judged place at run walk w.0 right stands bare plain from until w.2 before)
      | inr past ↦ absurd (omega (arith, past.0, stands.within, until))
    ]

-- a run of bare items is passed where their units are plain
pub bare_run : (judged : JudgedText) (place : ℕ) (run : Run Attached) (walk : TextWalk) → IsJudgedText judged →
    IsAttachedRun judged.text.now place run → has_something run.value ≡ false
    → All IsPlainUnit (slice_range judged.units.now place (place + run.count)) → IsPassedTo judged place walk
    → IsPassedTo judged (place + run.count) walk
bare_run judged place run walk right stands bare plain passed =
    bare_on judged place run.count run walk right stands bare plain (omega arith) passed
