-- What is in effect in a joined document: its layers are those of the document before, with the styles renumbered.
use Rattle.std.proofs.Common.{◌≡◌, ◌≢◌, ◌∙◌, inl, inr, refl, sym, ap, subst, ℕ, ◌+◌, ◌<◌, ◌≤◌, ◌==◌, Bool, true, false}
use Rattle.std.proofs.Common.{cond, List, [], ◌∷◌, ◌++◌, length, map, Option, Some, None, option_map, arith}
use Rattle.std.proofs.Common.{suc}
use Rattle.std.proofs.lemmas.Bool.{cases_Bool, cases_lt, eqb-true, eq-eqb, lt-ltb, ltb-true, le-ltb}
use Rattle.std.proofs.lemmas.List.{map-id, map-append, get_or_past, append-nil}
use Rattle.std.specs.Prelude.{slice_index, nat_lt}
use Rattle.std.specs.List.{cons_option, last_or}
use Rattle.std.specs.FinMap.{get}
use Rattle.doc_bits.specs.Number.{u16_at, number_bytes}
use Rattle.doc_bits.proofs.Public.{number_at-number_bytes}
use Rattle.prop_map.specs.Settings.{Properties}
use Rattle.style_sheet.specs.declared.styles.Style.{Style}
use Rattle.style_sheet.specs.Sheet.{Sheet, style_at}
use Rattle.style_sheet.specs.Chain.{style_kind_at, style_kind_in}
use Rattle.effective_props.specs.declared.effective.ParaEffect.{ParaEffect}
use Rattle.effective_props.specs.Values.{tabs_code, values_at, combined_value, effective_value, IsEffectiveMap}
use Rattle.effective_props.specs.Layers.{paragraph_properties, character_properties, properties_of_styles}
use Rattle.effective_props.specs.Layers.{AreChainLayers}
use Rattle.effective_props.specs.Layers.{character_style_code, named_style, AreNamedLayers}
use Rattle.effective_props.specs.Effective.{IsEffectiveCharacter, IsEffectiveParagraph}
use Rattle.doc_join.specs.declared.renumbering.Renumbering.{Renumbering}
use Rattle.doc_join.specs.Numbers.{no_style, renumbered_style}
use Rattle.doc_join.specs.Settings.{renumbered_chp}
use Rattle.doc_join.proofs.SettingLemmas.{renamed, get-renumbered-other, get-renumbered-style}
use Rattle.doc_join.proofs.PartLemmas.{IsSheetPart, chain_there, chain_moved}

-- ---- the layers of a chain

-- properties of styles, each of which another function gives at its new number
properties_moved : (properties : Option Style → Properties) (change : Properties → Properties) (sheet joined : Sheet)
    (move : ℕ → ℕ) (chain : List ℕ) →
    ((i : ℕ) → i < length chain →
    properties (style_at joined (move (slice_index chain i)))
    ≡ change (properties (style_at sheet (slice_index chain i)))) →
    properties_of_styles properties joined (map move chain) ≡ map change (properties_of_styles properties sheet chain)
properties_moved properties change sheet joined move [] each = refl
properties_moved properties change sheet joined move (n ∷ chain) each =
    let first : properties (style_at joined (move n)) ≡ change (properties (style_at sheet n)) = each 0 (omega arith) in
    let rest : properties_of_styles properties joined (map move chain)
    ≡ map change (properties_of_styles properties sheet chain) =
    properties_moved properties change sheet joined move chain (λ i within. each (suc i) (omega (arith, within))) in
    λ i. first i ∷ rest i

chain_layers : (properties : Option Style → Properties) (change : Properties → Properties) (numbers : Renumbering)
    (sheet joined : Sheet) (istd : ℕ) (layers : List Properties) → IsSheetPart numbers sheet joined →
    ((n : ℕ) → n < numbers.slots →
    properties (style_at joined (n + numbers.before)) ≡ change (properties (style_at sheet n))) →
    AreChainLayers properties sheet istd layers →
    AreChainLayers properties joined (istd + numbers.before) (map change layers)
chain_layers properties change numbers sheet joined istd layers part each old = record {
  chain = map (λ n. n + numbers.before) old.chain;
  bases = chain_moved numbers sheet joined istd old.chain part old.bases;
  are =
      ap (map change) old.are
      ∙ sym (properties_moved properties change sheet joined (λ n. n + numbers.before) old.chain
      (λ i within.
      each (slice_index old.chain i) (chain_there numbers sheet joined istd old.chain part old.bases i within)));
}

character_chain : (numbers : Renumbering) (sheet joined : Sheet) (istd : ℕ) (layers : List Properties) →
    IsSheetPart numbers sheet joined → AreChainLayers character_properties sheet istd layers →
    AreChainLayers character_properties joined (istd + numbers.before) (map (renumbered_chp numbers) layers)
character_chain numbers sheet joined istd layers part old =
    chain_layers character_properties (renumbered_chp numbers) numbers sheet joined istd layers part part.characters old

paragraph_chain : (numbers : Renumbering) (sheet joined : Sheet) (istd : ℕ) (layers : List Properties) →
    IsSheetPart numbers sheet joined → AreChainLayers paragraph_properties sheet istd layers →
    AreChainLayers paragraph_properties joined (istd + numbers.before) layers
paragraph_chain numbers sheet joined istd layers part old =
    subst (AreChainLayers paragraph_properties joined (istd + numbers.before)) (map-id layers)
    (chain_layers paragraph_properties (λ map. map) numbers sheet joined istd layers part part.paragraphs old)

-- ---- the named style

-- the style that renumbered properties name
number_small : (numbers : Renumbering) (istd : ℕ) (test : Bool) → nat_lt istd numbers.slots ≡ test →
    numbers.before + numbers.slots ≤ 4094 → cond test (istd + numbers.before) no_style < 65536
number_small numbers istd true is few = let low = ltb-true istd numbers.slots is in omega (arith, low, few)
number_small numbers istd false is few = omega arith

pub read_back : (numbers : Renumbering) (value : List ℕ) → numbers.before + numbers.slots ≤ 4094 →
    u16_at (renamed numbers value) 0 ≡ renumbered_style numbers (u16_at value 0)
read_back numbers value few =
    let number = renumbered_style numbers (u16_at value 0) in
    let small : number < 65536 =
    number_small numbers (u16_at value 0) (nat_lt (u16_at value 0) numbers.slots) refl few in
    ap (λ (bytes : List ℕ). u16_at bytes 0) (sym (append-nil (number_bytes 2 number)))
    ∙ number_at-number_bytes 2 number [] small

named_one : (numbers : Renumbering) (sheet joined : Sheet) (istd : ℕ) (layers : List Properties) →
    IsSheetPart numbers sheet joined → AreNamedLayers sheet (Some istd) layers →
    AreNamedLayers joined (Some (renumbered_style numbers istd)) (map (renumbered_chp numbers) layers)
named_one numbers sheet joined istd layers part old = elim (cases_lt istd numbers.slots) [
  | inl within ↦
      let here : renumbered_style numbers istd ≡ istd + numbers.before =
      ap (λ b. cond b (istd + numbers.before) no_style) (lt-ltb istd numbers.slots within) in
      subst (λ n. AreNamedLayers joined (Some n) (map (renumbered_chp numbers) layers)) (sym here) (
        (λ kind.
            character_chain numbers sheet joined istd layers part (old.0 (sym (part.kinds istd within) ∙ kind))),
        (λ kind. ap (map (renumbered_chp numbers)) (old.1 (λ same. kind (part.kinds istd within ∙ same)))),
      )
  | inr beyond ↦
      let here : renumbered_style numbers istd ≡ no_style =
      ap (λ b. cond b (istd + numbers.before) no_style) (le-ltb istd numbers.slots beyond) in
      let few = part.few in
      let none : style_kind_at joined no_style ≡ 0 =
      ap style_kind_in (get_or_past joined.styles no_style None (omega (arith, few))) in
      let none_before : style_kind_at sheet istd ≡ 0 =
      ap style_kind_in (get_or_past sheet.styles istd None (omega (arith, beyond, part.slots))) in
      subst (λ n. AreNamedLayers joined (Some n) (map (renumbered_chp numbers) layers)) (sym here) (
        (λ kind. absurd (omega (arith, kind, none))),
        (λ kind.
            ap (map (renumbered_chp numbers)) (old.1 (λ same. absurd (omega (arith, same, none_before))))),
      )
]

named_in : (numbers : Renumbering) (sheet joined : Sheet) (named : Option (List ℕ)) (layers : List Properties) →
    IsSheetPart numbers sheet joined → numbers.before + numbers.slots ≤ 4094 →
    AreNamedLayers sheet (option_map (λ value. u16_at value 0) named) layers →
    AreNamedLayers joined (option_map (λ value. u16_at value 0) (option_map (renamed numbers) named))
    (map (renumbered_chp numbers) layers)
named_in numbers sheet joined None layers part few old = ap (map (renumbered_chp numbers)) old
named_in numbers sheet joined (Some value) layers part few old =
    subst (λ n. AreNamedLayers joined (Some n) (map (renumbered_chp numbers) layers)) (sym (read_back numbers value
    few))
    (named_one numbers sheet joined (u16_at value 0) layers part old)

named_layers : (numbers : Renumbering) (sheet joined : Sheet) (direct : Properties) (layers : List Properties) →
    IsSheetPart numbers sheet joined → numbers.before + numbers.slots ≤ 4094 →
    AreNamedLayers sheet (named_style direct) layers →
    AreNamedLayers joined (named_style (renumbered_chp numbers direct)) (map (renumbered_chp numbers) layers)
named_layers numbers sheet joined direct layers part few old =
    subst (λ (o : Option (List ℕ)).
    AreNamedLayers joined (option_map (λ value. u16_at value 0) o) (map (renumbered_chp numbers) layers))
    (sym (get-renumbered-style numbers direct))
    (named_in numbers sheet joined (get direct character_style_code) layers part few old)

-- ---- values

-- at other codes the layers have the same values
values_other : (numbers : Renumbering) (layers : List Properties) (code : ℕ) → code ≢ character_style_code →
    values_at (map (renumbered_chp numbers) layers) code ≡ values_at layers code
values_other numbers [] code apart = refl
values_other numbers (layer ∷ layers) code apart =
    ap (λ o. cons_option o (values_at (map (renumbered_chp numbers) layers) code))
    (get-renumbered-other numbers layer code apart)
    ∙ ap (cons_option (get layer code)) (values_other numbers layers code apart)

cons_named : (change : List ℕ → List ℕ) (o : Option (List ℕ)) (values : List (List ℕ)) →
    cons_option (option_map change o) (map change values) ≡ map change (cons_option o values)
cons_named change None values = refl
cons_named change (Some value) values = refl

values_named : (numbers : Renumbering) (layers : List Properties) →
    values_at (map (renumbered_chp numbers) layers) character_style_code
    ≡ map (renamed numbers) (values_at layers character_style_code)
values_named numbers [] = refl
values_named numbers (layer ∷ layers) =
    ap (λ o. cons_option o (values_at (map (renumbered_chp numbers) layers) character_style_code))
    (get-renumbered-style numbers layer)
    ∙ (ap (cons_option (option_map (renamed numbers) (get layer character_style_code))) (values_named numbers layers)
    ∙ cons_named (renamed numbers) (get layer character_style_code) (values_at layers character_style_code))

last_named : (change : List ℕ → List ℕ) (before : Option (List ℕ)) (values : List (List ℕ)) →
    last_or (option_map change before) (map change values) ≡ option_map change (last_or before values)
last_named change before [] = refl
last_named change before (value ∷ values) = last_named change (Some value) values

pub map_renumbered : (numbers : Renumbering) (layers : List Properties) (made : Properties) → IsEffectiveMap layers made
    →
    IsEffectiveMap (map (renumbered_chp numbers) layers) (renumbered_chp numbers made)
map_renumbered numbers layers made effective code = elim (cases_Bool (code == character_style_code)) [
  | inl same ↦
      subst (λ n. get (renumbered_chp numbers made) n ≡ effective_value (map (renumbered_chp numbers) layers) n)
      (sym (eqb-true code character_style_code same))
      (get-renumbered-style numbers made
      ∙ (ap (option_map (renamed numbers)) (effective character_style_code)
      ∙ sym (ap (last_or None) (values_named numbers layers)
      ∙ last_named (renamed numbers) None (values_at layers character_style_code))))
  | inr other ↦
      let apart : code ≢ character_style_code = λ same. absurd (cc (other, eq-eqb code character_style_code same)) in
      get-renumbered-other numbers made code apart
      ∙ (effective code
      ∙ ap (λ values. cond (code == tabs_code) None (combined_value code values))
      (sym (values_other numbers layers code apart)))
]

-- ---- what is in effect

pub character_moved : (numbers : Renumbering) (sheet joined : Sheet) (istd : ℕ) (direct made : Properties) →
    IsSheetPart numbers sheet joined → numbers.before + numbers.slots ≤ 4094 →
    IsEffectiveCharacter sheet istd direct made →
    IsEffectiveCharacter joined (istd + numbers.before) (renumbered_chp numbers direct) (renumbered_chp numbers made)
character_moved numbers sheet joined istd direct made part few old =
    let change = renumbered_chp numbers in
    let are = old.are in
    record {
      layers = map change old.layers;
      are = record {
        of_style = map change are.of_style;
        style = character_chain numbers sheet joined istd are.of_style part are.style;
        of_named = map change are.of_named;
        named = named_layers numbers sheet joined direct are.of_named part few are.named;
        are =
            ap (map change) are.are
            ∙ (map-append change are.of_style (are.of_named ++ direct ∷ [])
            ∙ ap (λ rest. map change are.of_style ++ rest) (map-append change are.of_named (direct ∷ [])));
      };
      values = map_renumbered numbers old.layers made old.values;
    }

pub paragraph_moved : (numbers : Renumbering) (sheet joined : Sheet) (istd : ℕ) (direct : Properties)
    (effect : ParaEffect) → IsSheetPart numbers sheet joined → IsEffectiveParagraph sheet istd direct effect →
    IsEffectiveParagraph joined (istd + numbers.before) direct effect
paragraph_moved numbers sheet joined istd direct effect part old =
    let are = old.are in
    record {
      layers = old.layers;
      are = record {
        of_style = are.of_style;
        style = paragraph_chain numbers sheet joined istd are.of_style part are.style;
        are = are.are;
      };
      values = old.values;
      stops = old.stops;
    }
