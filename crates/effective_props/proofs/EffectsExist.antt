-- What is in effect is there.
use Rattle.std.proofs.Common.{◌≡◌, ◌≢◌, inl, inr, ℕ, List, [], ◌∷◌, ◌++◌, Option, Some, None, refl, arith}
use Rattle.std.proofs.lemmas.Bool.{cases_eq}
use Rattle.prop_map.specs.Settings.{Properties}
use Rattle.style_sheet.specs.Sheet.{Sheet}
use Rattle.style_sheet.specs.declared.styles.Style.{Style}
use Rattle.style_sheet.specs.Chain.{style_kind_at, HasSoundBases}
use Rattle.effective_props.specs.declared.effective.ParaEffect.{ParaEffect}
use Rattle.effective_props.specs.Layers.{character_properties, paragraph_properties, properties_of_styles}
use Rattle.effective_props.specs.Layers.{named_style, AreChainLayers, AreNamedLayers, AreCharacterLayers}
use Rattle.effective_props.specs.Layers.{AreParagraphLayers}
use Rattle.effective_props.specs.Effective.{IsEffectiveCharacter, IsEffectiveParagraph}
use Rattle.effective_props.specs.Laws.{EffectiveCharactersExist, EffectiveParagraphsExist}
use Rattle.effective_props.proofs.MapsExist.{effective_there}
use Rattle.effective_props.proofs.StopsExist.{stops_there}

chain_layers : (properties : Option Style → Properties) (sheet : Sheet) (istd kind : ℕ) → HasSoundBases sheet →
    style_kind_at sheet istd ≡ kind → 0 ≢ kind → (layers : List Properties) × AreChainLayers properties sheet istd layers
chain_layers properties sheet istd kind sound is some =
    let chain = sound.chains istd (omega (arith, is, some)) in (
      properties_of_styles properties sheet chain.0,
      record { chain = chain.0; bases = chain.1; are = refl },
    )

named_layers : (sheet : Sheet) (named : Option ℕ) → HasSoundBases sheet →
    (layers : List Properties) × AreNamedLayers sheet named layers
named_layers sheet None sound = ([], refl)
named_layers sheet (Some istd) sound =
    elim (cases_eq (style_kind_at sheet istd) 2) [
      | inl is ↦
          let layers = chain_layers character_properties sheet istd 2 sound is (omega arith) in
          (layers.0, (λ kind. layers.1, λ other. absurd (other is)))
      | inr other ↦ ([], (λ kind. absurd (other kind), λ none. refl))
    ]

character_layers : (sheet : Sheet) (istd : ℕ) (direct : Properties) → HasSoundBases sheet → style_kind_at sheet istd ≡ 1 →
    (layers : List Properties) × AreCharacterLayers sheet istd direct layers
character_layers sheet istd direct sound kind =
    let of_style = chain_layers character_properties sheet istd 1 sound kind (omega arith) in
    let of_named = named_layers sheet (named_style direct) sound in (
      of_style.0 ++ (of_named.0 ++ direct ∷ []),
      record {
        of_style = of_style.0;
        style = of_style.1;
        of_named = of_named.0;
        named = of_named.1;
        are = refl;
      },
    )

pub characters_there : EffectiveCharactersExist
characters_there sheet istd direct sound kind =
    let layers = character_layers sheet istd direct sound kind in
    let map = effective_there layers.0 in
    (map.0, record { layers = layers.0; are = layers.1; values = map.1 })

pub paragraphs_there : EffectiveParagraphsExist
paragraphs_there sheet istd direct sound kind =
    let of_style = chain_layers paragraph_properties sheet istd 1 sound kind (omega arith) in
    let layers = of_style.0 ++ direct ∷ [] in
    let map = effective_there layers in
    let stops = stops_there layers in
    let effect : ParaEffect = record { map = map.0; tabs = stops.0 } in (
      effect,
      record {
        layers = layers;
        are = record { of_style = of_style.0; style = of_style.1; are = refl };
        values = map.1;
        stops = stops.1;
      },
    )
