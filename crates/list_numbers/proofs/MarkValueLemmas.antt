-- The values of a mark, layer by layer.
use Rattle.std.proofs.Common.{◌≡◌, ℕ, List, [], ◌∷◌, ◌++◌, Option, Some, None}
use Rattle.std.proofs.Common.{refl, ap, ◌∙◌, ◌+◌, ◌*◌, Bor, arith}
use Rattle.std.specs.Prelude.{slice_index, option_map, MatchOption}
use Rattle.std.specs.Option.{option_or}
use Rattle.std.specs.FinMap.{get, empty}
use Rattle.prop_map.specs.Settings.{Properties}
use Rattle.effective_props.specs.Values.{effective_value}
use Rattle.effective_props.specs.ValueSteps.{layer_over}
use Rattle.effective_props.proofs.Public.{effective_more, none_put, match_now}
use Rattle.doc_bits.specs.Number.{number_at, u16_at}
use Rattle.style_sheet.specs.declared.styles.Style.{Style}
use Rattle.style_sheet.specs.Sheet.{Sheet, style_at}
use Rattle.effective_props.specs.Layers.{paragraph_properties}
use Rattle.list_numbers.specs.declared.mark_values.MarkValues.{MarkValues}
use Rattle.list_numbers.specs.MarkValues.{mark_values_in, own_values, over, no_values, word_in, byte_in}

-- a plain code goes by the last layer
word_over : (above below : Option (List ℕ)) → word_in (layer_over 0x460B below above) ≡ option_or (word_in above)
    (word_in below)
word_over None below = refl
word_over (Some value) below = refl

level_over : (above below : Option (List ℕ)) → byte_in (layer_over 0x260A below above) ≡ option_or (byte_in above)
    (byte_in below)
level_over None below = refl
level_over (Some value) below = refl

outline_over : (above below : Option (List ℕ)) → byte_in (layer_over 0x2640 below above) ≡ option_or (byte_in above)
    (byte_in below)
outline_over None below = refl
outline_over (Some value) below = refl

breaks_over : (above below : Option (List ℕ)) → byte_in (layer_over 0x2407 below above) ≡ option_or (byte_in above)
    (byte_in below)
breaks_over None below = refl
breaks_over (Some value) below = refl

direction_over : (above below : Option (List ℕ)) → byte_in (layer_over 0x2441 below above) ≡ option_or (byte_in above)
    (byte_in below)
direction_over None below = refl
direction_over (Some value) below = refl

-- one more layer
pub values_more : (layers : List Properties) (layer : Properties) → mark_values_in (layers ++ layer ∷ []) ≡ over
    (own_values
    layer) (mark_values_in layers)
values_more layers layer =
    let a = ap word_in (effective_more layers layer 0x460B) ∙ word_over (get layer 0x460B) (effective_value layers
    0x460B) in
    let b = ap byte_in (effective_more layers layer 0x260A) ∙ level_over (get layer 0x260A) (effective_value layers
    0x260A) in
    let c = ap byte_in (effective_more layers layer 0x2640) ∙ outline_over (get layer 0x2640) (effective_value layers
    0x2640) in
    let d = ap byte_in (effective_more layers layer 0x2407) ∙ breaks_over (get layer 0x2407) (effective_value layers
    0x2407) in
    let e = ap byte_in (effective_more layers layer 0x2441) ∙ direction_over (get layer 0x2441) (effective_value layers
    0x2441) in
    rw (a, b, c, d, e) refl

pub values_of_none : mark_values_in [] ≡ no_values
values_of_none = refl

-- an empty map says nothing
pub own_of_empty : own_values empty ≡ no_values
own_of_empty = rw (
  none_put empty 0x460B refl,
  none_put empty 0x260A refl,
  none_put empty 0x2640 refl,
  none_put empty 0x2407 refl,
  none_put empty 0x2441 refl,
) refl

-- what a slot says by itself
pub slot_said : (sheet : Sheet) (number : ℕ) (style : Option (Bor Style)) (own : MarkValues) →
    MatchOption style (style_at sheet number ≡ None) (λ s. style_at sheet number ≡ Some s.now) →
    own ≡ own_values (paragraph_properties (option_map (λ s. s.now) style)) →
    own ≡ own_values (paragraph_properties (style_at sheet number))
slot_said sheet number style own found is =
    is ∙ ap (λ o. own_values (paragraph_properties o)) (match_now (λ s. s.now) style (style_at sheet number) found)

-- the number of two bytes
pub word_of_bytes : (value : List ℕ) → slice_index value 0 + 256 * slice_index value 1 ≡ u16_at value 0
unfolding number_at
word_of_bytes value = omega arith
