-- The layers of a character and of a paragraph mark.
use Rattle.std.proofs.Common.{◌≡◌, ◌≢◌, ℕ, ◌+◌, List, [], ◌∷◌, ◌++◌, length, take, get_or, map, Option, Some, None}
use Rattle.std.proofs.Common.{option_map, refl, sym, ap, ◌∙◌, subst, append_assoc}
use Rattle.std.proofs.lemmas.List.{append-nil, take_more, map-append}
use Rattle.std.proofs.lemmas.Option.{get_or_from_slice_get, slice_get_within}
use Rattle.std.specs.Option.{MatchOption}
use Rattle.std.specs.List.{slice_get}
use Rattle.std.specs.FinMap.{get}
use Rattle.doc_bits.specs.Number.{u16_at}
use Rattle.prop_map.specs.Settings.{Properties}
use Rattle.prop_map.specs.Formed.{IsPropertyMap, character_groups}
use Rattle.style_sheet.specs.declared.styles.Style.{Style}
use Rattle.style_sheet.specs.Sheet.{Sheet, style_at}
use Rattle.style_sheet.specs.Chain.{style_kind_at}
use Rattle.effective_props.specs.Layers.{properties_of_styles, AreNamedLayers, named_style, character_style_code}
use Rattle.effective_props.specs.LayerParts.{AddsNamed}

-- what a call of `get` answers, as an option of the style
pub match_now : {A B : Type 0} → (f : A → B) (o : Option A) (x : Option B) → MatchOption o (x ≡ None) (λ a. x ≡ Some
    (f a)) → option_map f o ≡ x
match_now f None x e = sym e
match_now f (Some a) x e = sym e

-- ---- the layers of a chain

pub styles_more : (properties : Option Style → Properties) (sheet : Sheet) (chain : List ℕ) (i number : ℕ) (old now new
    :
    List Properties) (layer : Properties) → new ≡ now ++ layer ∷ [] → slice_get chain i ≡ Some number → layer ≡
    properties
    (style_at sheet number) → now ≡ old ++ properties_of_styles properties sheet (take i chain) →
    new ≡ old ++ properties_of_styles properties sheet (take (i + 1) chain)
styles_more properties sheet chain i number old now new layer pushed there is so_far =
    let within = slice_get_within chain i number there in
    let f : ℕ → Properties = λ n. properties (style_at sheet n) in
    let one : get_or chain i number ≡ number = get_or_from_slice_get chain i number number there in
    let more : map f (take (i + 1) chain) ≡ map f (take i chain) ++ layer ∷ [] =
    ap (map f) (take_more chain i number within) ∙ (map-append f (take i chain) (get_or chain i number ∷ []) ∙ ap
    (λ m. map f (take i chain) ++ m ∷ []) (ap f one ∙ sym is)) in
    pushed ∙ (ap (λ l. l ++ layer ∷ []) so_far ∙ rw append_assoc (ap (λ l. old ++ l) (sym more)))

-- ---- the layers of a named character style

-- a style number that direct properties name has two bytes
pub named_bytes : (direct : Properties) (value : List ℕ) → IsPropertyMap character_groups direct →
    get direct character_style_code ≡ Some value → length value ≡ 2
named_bytes direct value formed e = (formed character_style_code value e).property.entry.size

nothing_added : (sheet : Sheet) (named : Option ℕ) (old : List Properties) → AreNamedLayers sheet named [] →
    AddsNamed sheet named old old
nothing_added sheet named old h = record { added = []; layers = h; joined = sym (append-nil old) }

pub foreign_named : (sheet : Sheet) (direct : Properties) (value : List ℕ) (istd : ℕ) (old : List Properties) →
    get direct character_style_code ≡ Some value → istd ≡ u16_at value 0 → style_kind_at sheet istd ≢ 2 → AddsNamed
    sheet
    (named_style direct) old old
foreign_named sheet direct value istd old e number kind =
    let here : AreNamedLayers sheet (Some (u16_at value 0)) [] = subst (λ i. AreNamedLayers sheet (Some i) []) number
    ((λ is. absurd (kind is)), (λ is. refl)) in
    nothing_added sheet (named_style direct) old (subst (λ (o : Option (List ℕ)). AreNamedLayers sheet
    (option_map (λ v. u16_at v 0) o) []) (sym e) here)

-- ---- all layers

pub three_parts : (none first next all style named : List Properties) (direct : Properties) → none ≡ [] → first ≡ none
    ++
    style → next ≡ first ++ named → all ≡ next ++ direct ∷ [] → all ≡ style ++ (named ++ direct ∷ [])
three_parts none first next all style named direct e f n a = rw (a, n, f, e) (append_assoc style named (direct ∷ []))
