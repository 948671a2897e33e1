-- The format of a character, by the changes of its layers.
use Rattle.std.proofs.Common.{◌≡◌, ◌≢◌, ℕ, ◌==◌, ◌<◌, true, false, List, [], ◌∷◌, ◌++◌, Option, None, Some, refl}
use Rattle.std.proofs.Common.{sym, ap, ◌∙◌, arith}
use Rattle.std.proofs.lemmas.Bool.{eqb-true, eq-eqb}
use Rattle.std.specs.FinMap.{get}
use Rattle.prop_map.specs.Settings.{Properties}
use Rattle.style_sheet.specs.Sheet.{Sheet}
use Rattle.style_sheet.specs.Chain.{style_kind_at, HasSoundBases}
use Rattle.style_sheet.proofs.Public.{base_chains_agree}
use Rattle.effective_props.specs.Values.{effective_value}
use Rattle.effective_props.specs.ValueSteps.{layer_over}
use Rattle.effective_props.specs.Layers.{character_properties, properties_of_styles, named_style, AreChainLayers}
use Rattle.effective_props.specs.Layers.{AreNamedLayers}
use Rattle.char_formats.specs.declared.change.Change.{Change}
use Rattle.char_formats.specs.declared.format.CharFormat.{CharFormat}
use Rattle.char_formats.specs.Formats.{format_in, IsCharFormat}
use Rattle.char_formats.specs.Locations.{location_in}
use Rattle.char_formats.specs.Changes.{Act, with_layer, over_all, IsChangeOf}
use Rattle.char_formats.specs.Styles.{IsStyleChange, IsNamedChange, IsUnderChange}
use Rattle.char_formats.specs.Laws.{CharFormatIsOne, CharFormatIsThere}
use Rattle.char_formats.proofs.ChangeLemmas.{format_in-same}
use Rattle.char_formats.proofs.EffectLemmas.{over_all-append, over_all-effective}
use Rattle.effective_props.proofs.Public.{named_layers_one}

-- it is one
pub named-style : (sheet : Sheet) (istd : ℕ) (change : Change) → style_kind_at sheet istd ≡ 2 →
    IsStyleChange sheet istd change → IsNamedChange sheet (Some istd) change
named-style sheet istd change is own =
    record { layers = own.layers; are = ((λ _. own.are), (λ other. absurd (other is))); said = own.said }

-- nothing is laid over the style
pub under-style : (sheet : Sheet) (istd : ℕ) (named : Option ℕ) (style : Change) → IsStyleChange sheet istd style →
    AreNamedLayers sheet named [] → IsUnderChange sheet istd named style
under-style sheet istd named style h none =
    record { of_style = h.layers; are_style = h.are; of_named = []; are_named = none; said = h.said }

-- the named style is
pub under-both : (sheet : Sheet) (istd : ℕ) (named : Option ℕ) (style other then : Change) →
    IsStyleChange sheet istd style → IsNamedChange sheet named other →
    ((one two : Act) → IsChangeOf one style → IsChangeOf two other → IsChangeOf
    (λ code before. two code (one code before)) then) → IsUnderChange sheet istd named then
under-both sheet istd named style other then h k both = record {
  of_style = h.layers;
  are_style = h.are;
  of_named = k.layers;
  are_named = k.are;
  said = both (over_all h.layers) (over_all k.layers) h.said k.said;
}

-- the layers of a character
abbrev layers_of : List Properties → List Properties → Properties → List Properties
layers_of style named direct = style ++ (named ++ direct ∷ [])

value_through : (style named : List Properties) (direct : Properties) (code : ℕ) → layer_over code (over_all named code
    (over_all style code None)) (get direct code) ≡ effective_value (layers_of style named direct) code
value_through style named direct code =
    sym (over_all-append named (direct ∷ []) code (over_all style code None))
    ∙ (sym (over_all-append style (named ++ direct ∷ []) code None)
    ∙ over_all-effective (layers_of style named direct) code)

-- the format is that of the change under the direct properties, and then of these
pub format_said : (sheet : Sheet) (istd : ℕ) (direct : Properties) (under change : Change) (format : CharFormat) →
    IsUnderChange sheet istd (named_style direct) under → ((act : Act) → IsChangeOf act under → IsChangeOf
    (with_layer direct act) change) → ((act : Act) → IsChangeOf act change → format ≡ format_in
    (location_in direct) (λ code. act code None)) → IsCharFormat sheet istd direct format
format_said sheet istd direct under change format h laid said =
    let act : Act = λ code before. over_all h.of_named code (over_all h.of_style code before) in
    record {
      layers = layers_of h.of_style h.of_named direct;
      are = record {
        of_style = h.of_style;
        style = h.are_style;
        of_named = h.of_named;
        named = h.are_named;
        are = refl;
      };
      said = said (with_layer direct act) (laid act h.said)
          ∙ format_in-same (location_in direct) (λ code. with_layer direct act code None) (effective_value (layers_of h.of_style h.of_named
          direct)) (value_through h.of_style h.of_named direct);
    }

-- ---- a character has one format

chain_layers_one : (sheet : Sheet) (istd : ℕ) (a b : List Properties) → AreChainLayers character_properties sheet istd a
    →
    AreChainLayers character_properties sheet istd b → a ≡ b
chain_layers_one sheet istd a b h k =
    h.are ∙ (ap (properties_of_styles character_properties sheet) (base_chains_agree sheet istd h.chain k.chain h.bases
    k.bases) ∙ sym k.are)

is_of_kind : (kind : ℕ) → (kind == 2) ≡ false → kind ≢ 2
is_of_kind kind e is = absurd (cc (eq-eqb kind 2 is, e))

pub format_one : CharFormatIsOne
format_one sheet istd direct one other h k =
    let style = chain_layers_one sheet istd h.are.of_style k.are.of_style h.are.style k.are.style in
    let named = named_layers_one sheet (named_style direct) h.are.of_named k.are.of_named h.are.named k.are.named in
    let layers : h.layers ≡ k.layers = h.are.are ∙ (ap (λ l. layers_of l h.are.of_named direct) style ∙ (ap (λ l.
    layers_of k.are.of_style l direct) named ∙ sym k.are.are)) in
    h.said ∙ (ap (λ l. format_in (location_in direct) (effective_value l)) layers ∙ sym k.said)

-- ---- and it has one

named_there : (sheet : Sheet) (named : Option ℕ) → HasSoundBases sheet → (layers : List Properties) × AreNamedLayers
    sheet
    named layers
named_there sheet None sound = ([], refl)
named_there sheet (Some istd) sound =
    elim (style_kind_at sheet istd == 2) as (λ t. (style_kind_at sheet istd == 2) ≡ t → (layers : List Properties) ×
    AreNamedLayers
    sheet (Some istd) layers) [
      | true ↦ λ e.
          let is : style_kind_at sheet istd ≡ 2 = eqb-true (style_kind_at sheet istd) 2 e in
          let some : 0 < style_kind_at sheet istd = omega arith in
          let chain = sound.chains istd some in (
            properties_of_styles character_properties sheet chain.0,
            (
              (λ _. record {
                chain = chain.0;
                bases = chain.1;
                are =
                    refl;
              }),
              (λ other. absurd (other is)),
            ),
          )
      | false ↦ λ e. ([], ((λ is. absurd (is_of_kind (style_kind_at sheet istd) e is)), (λ _. refl)))
    ] refl

pub format_there : CharFormatIsThere
format_there sheet istd direct sound kind =
    let some : 0 < style_kind_at sheet istd = omega arith in
    let chain = sound.chains istd some in
    let style : List Properties = properties_of_styles character_properties sheet chain.0 in
    let named = named_there sheet (named_style direct) sound in (
      format_in (location_in direct) (effective_value (layers_of style named.0 direct)),
      record {
        layers = layers_of style named.0 direct;
        are = record {
          of_style = style;
          style = record { chain = chain.0; bases = chain.1; are = refl };
          of_named = named.0;
          named = named.1;
          are = refl;
        };
        said = refl;
      },
    )
