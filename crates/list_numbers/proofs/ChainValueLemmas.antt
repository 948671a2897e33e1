-- The values of the styles of a chain, one after the other.
use Rattle.std.proofs.Common.{◌≡◌, ℕ, ◌+◌, ◌-◌, List, [], ◌∷◌, ◌++◌, take, Some, refl, sym, ap, ◌∙◌, subst}
use Rattle.std.specs.Prelude.{slice_get, slice_index}
use Rattle.std.proofs.lemmas.Option.{get_or_from_slice_get, slice_get_within}
use Rattle.prop_map.specs.Settings.{Properties}
use Rattle.style_sheet.specs.Sheet.{Sheet, style_at}
use Rattle.style_sheet.specs.Chain.{IsBaseChain}
use Rattle.style_sheet.proofs.Public.{base_chains_agree, chain_front}
use Rattle.effective_props.specs.Layers.{paragraph_properties, properties_of_styles}
use Rattle.effective_props.proofs.Public.{styles_more}
use Rattle.list_numbers.specs.declared.mark_values.MarkValues.{MarkValues}
use Rattle.list_numbers.specs.MarkValues.{AreStyleValues, own_values, over, mark_values_in}
use Rattle.list_numbers.proofs.MarkValueLemmas.{values_more}

-- the properties of the styles up to a place of a chain
abbrev properties_upto : Sheet → List ℕ → ℕ → List Properties
properties_upto sheet chain i = properties_of_styles paragraph_properties sheet (take i chain)

-- what the next style says over the values so far
pub upto_more : (sheet : Sheet) (chain : List ℕ) (i number : ℕ) (values : MarkValues) → slice_get chain i ≡ Some number →
    values ≡ mark_values_in (properties_upto sheet chain i) →
    over (own_values (paragraph_properties (style_at sheet number))) values
    ≡ mark_values_in (properties_upto sheet chain (i + 1))
upto_more sheet chain i number values there so_far =
    let layer : Properties = paragraph_properties (style_at sheet number) in
    let layers : List Properties = properties_upto sheet chain i in
    let longer : layers ++ layer ∷ [] ≡ properties_upto sheet chain (i + 1) =
    styles_more paragraph_properties sheet chain i number [] layers (layers ++ layer ∷ []) layer refl there refl refl in
    ap (over (own_values layer)) so_far ∙ (sym (values_more layers layer) ∙ ap mark_values_in longer)

-- are those of the style
pub next_values : (sheet : Sheet) (istd : ℕ) (chain : List ℕ) (i number : ℕ) (values : MarkValues) →
    IsBaseChain sheet istd chain → slice_get chain i ≡ Some number →
    values ≡ mark_values_in (properties_upto sheet chain (i + 1)) → AreStyleValues sheet number values
next_values sheet istd chain i number values is there are =
    let at : slice_index chain i ≡ number = get_or_from_slice_get chain i number 0 there in
    record {
      layers = properties_upto sheet chain (i + 1);
      are = record {
        chain = take (i + 1) chain;
        bases = subst (λ n. IsBaseChain sheet n (take (i + 1) chain)) at
            (chain_front sheet istd chain i is (slice_get_within chain i number there));
        are = refl;
      };
      said = are;
    }

-- and the style has no others
pub values_upto : (sheet : Sheet) (istd : ℕ) (chain : List ℕ) (i number : ℕ) (values : MarkValues) →
    IsBaseChain sheet istd chain → slice_get chain i ≡ Some number → AreStyleValues sheet number values →
    values ≡ mark_values_in (properties_upto sheet chain (i + 1))
values_upto sheet istd chain i number values is there own =
    let at : slice_index chain i ≡ number = get_or_from_slice_get chain i number 0 there in
    let front : IsBaseChain sheet number (take (i + 1) chain) =
    subst (λ n. IsBaseChain sheet n (take (i + 1) chain)) at
    (chain_front sheet istd chain i is (slice_get_within chain i number there)) in
    let same : own.are.chain ≡ take (i + 1) chain =
    base_chains_agree sheet number own.are.chain (take (i + 1) chain) own.are.bases front in
    own.said
    ∙ ap mark_values_in (own.are.are ∙ ap (properties_of_styles paragraph_properties sheet) same)
