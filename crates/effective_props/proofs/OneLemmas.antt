-- That there is one answer.
use Rattle.std.proofs.Common.{◌≡◌, ◌≢◌, ℕ, ℤ, ◌==◌, true, false, cond, ◌&&◌, List, [], ◌∷◌, ◌++◌, map, Option, Some}
use Rattle.std.proofs.Common.{None, refl, sym, ap, ◌∙◌, subst}
use Rattle.std.proofs.lemmas.Bool.{eqb-true, eq-eqb}
use Rattle.std.proofs.lemmas.Cmp.{int_cmp_total, int_eq_equiv}
use Rattle.std.proofs.lemmas.Map.Keys.{sorted_head, sorted_tail, IsDistinct-from_sorted}
use Rattle.std.proofs.lemmas.Map.Entries.{place_from_lookup, lookup_from_place}
use Rattle.std.specs.declared.cmp.Ordering.TheVariants.{Less}
use Rattle.std.specs.Ordering.{int_cmp, int_eq, is_lt}
use Rattle.std.specs.Cmp.{nat_cmp_total, signed_Decides}
use Rattle.std.specs.List.{slice_get, Contains, AllByRecursion}
use Rattle.std.specs.List.Sorted.{IsStrictlySortedBy}
use Rattle.std.specs.Map.{keys_of, lookup}
use Rattle.std.specs.FinMap.{find, is_sorted, entries, from_sorted, get-from_sorted, entries-from_sorted, same_map}
use Rattle.std.specs.FinMap.{nat_cmp-IsAntisymmetric, int_cmp-IsAntisymmetric}
use Rattle.std.specs.FinMap.Entries.{below_all}
use Rattle.prop_map.specs.Settings.{Properties}
use Rattle.prop_map.proofs.Public.{of_true}
use Rattle.style_sheet.specs.declared.styles.Style.{Style}
use Rattle.style_sheet.specs.Sheet.{Sheet}
use Rattle.style_sheet.specs.Chain.{style_kind_at}
use Rattle.style_sheet.proofs.Public.{base_chains_agree}
use Rattle.effective_props.specs.declared.tabs.Tab.{Tab}
use Rattle.effective_props.specs.Values.{IsEffectiveMap}
use Rattle.effective_props.specs.Layers.{paragraph_properties, character_properties, properties_of_styles}
use Rattle.effective_props.specs.Layers.{AreChainLayers}
use Rattle.effective_props.specs.Layers.{AreNamedLayers, named_style}
use Rattle.effective_props.specs.Stops.{AreStops}
use Rattle.effective_props.specs.StopSteps.{tab_of}
use Rattle.effective_props.specs.Laws.{EffectiveMapIsOne, StopsAreOne, EffectiveCharacterIsOne, EffectiveParagraphIsOne}
use Rattle.effective_props.proofs.StopListLemmas.{get-tab_of, get-tabs, contains_at, at_contains}

pub map_one : EffectiveMapIsOne
map_one layers one other h k = same_map nat_cmp_total nat_cmp-IsAntisymmetric one other (λ code. h code ∙ sym (k code))

-- ---- stops in order, as entries of a map

pair : Tab → ℤ × ℕ
pair tab = (tab.at, tab.kind)

tabs_back : (tabs : List Tab) → map tab_of (map pair tabs) ≡ tabs
unfolding pair
tabs_back [] = refl
tabs_back (tab ∷ tabs) = ap (λ ts. tab ∷ ts) (tabs_back tabs)

keys_pairs : (tabs : List Tab) → keys_of (map pair tabs) ≡ map (λ tab. tab.at) tabs
unfolding pair
keys_pairs [] = refl
keys_pairs (tab ∷ tabs) = ap (λ ps. tab.at ∷ ps) (keys_pairs tabs)

below_pairs : (p : ℤ) (es : List (ℤ × ℕ)) → AllByRecursion (λ q. int_cmp p q ≡ Less) (keys_of es) → below_all int_cmp
    p es ≡ true
below_pairs p [] h = refl
below_pairs p (e ∷ es) h = ap (λ o. is_lt o && below_all int_cmp p es) h.0 ∙ below_pairs p es h.1

sorted_pairs : (es : List (ℤ × ℕ)) → IsStrictlySortedBy int_cmp (keys_of es) → is_sorted int_cmp es ≡ true
sorted_pairs [] h = refl
sorted_pairs (e ∷ es) h =
    ap (λ b. b && is_sorted int_cmp es) (below_pairs e.0 es (sorted_head int_cmp e.0 (keys_of es) h))
    ∙ sorted_pairs es (sorted_tail int_cmp e.0 (keys_of es) h)

find_tab : (p : ℤ) (es : List (ℤ × ℕ)) → find int_cmp p es ≡ lookup (int_eq p) es
find_tab p [] = refl
find_tab p (e ∷ es) = ap (cond (int_eq p e.0) (Some e.1)) (find_tab p es)

same_option : {X : Type 0} → (a b : Option X) → ((x : X) → a ≡ Some x → b ≡ Some x) → ((x : X) → b ≡ Some x →
    a ≡ Some x) → a ≡ b
same_option None None f g = refl
same_option None (Some x) f g = g x refl
same_option (Some x) b f g = sym (f x refl)

-- what a look-up finds in one list, one finds in another that has its stops
found_too : (one other : List Tab) (p : ℤ) (kind : ℕ) → IsStrictlySortedBy int_cmp (keys_of (map pair other)) →
    ((tab : Tab) → Contains one tab → Contains other tab) → lookup (int_eq p) (map pair one) ≡ Some kind →
    lookup (int_eq p) (map pair other) ≡ Some kind
unfolding pair
found_too one other p kind ascending among e =
    let place = place_from_lookup (int_eq p) (map pair one) kind e in
    let same = (signed_Decides p place.1).0 place.3 in
    let here = get-tabs (map pair one) place.0 p kind (place.2 ∙ ap (λ q. Some (q, kind)) (sym same)) in
    let there = among (record { at = p; kind = kind }) (contains_at one place.0 (record { at = p; kind = kind })
    (ap (λ l. slice_get l place.0) (sym (tabs_back one)) ∙ here)) in
    let entry = get-tab_of (map pair other) there.0 (record { at = p; kind = kind }) (ap (λ l. slice_get l there.0)
    (tabs_back other) ∙ at_contains other (record { at = p; kind = kind }) there) in
    lookup_from_place int_eq_equiv (map pair other) there.0 p kind (IsDistinct-from_sorted int_cmp
    (keys_of (map pair other)) ascending) entry

ascending_pairs : (layers : List Properties) (tabs : List Tab) → AreStops layers tabs → IsStrictlySortedBy int_cmp
    (keys_of (map pair tabs))
ascending_pairs layers tabs h = subst (λ ps. IsStrictlySortedBy int_cmp ps) (sym (keys_pairs tabs)) h.ascending

pub stops_one : StopsAreOne
stops_one layers one other h k =
    let a = ascending_pairs layers one h in
    let b = ascending_pairs layers other k in
    let first = of_true (is_sorted int_cmp (map pair one)) (sorted_pairs (map pair one) a) in
    let second = of_true (is_sorted int_cmp (map pair other)) (sorted_pairs (map pair other) b) in
    let there = λ (p : ℤ). same_option (lookup (int_eq p) (map pair one)) (lookup (int_eq p) (map pair other))
    (λ kind. found_too one other p kind b (λ tab c. (k.stops tab).1 ((h.stops tab).0 c)))
    (λ kind. found_too other one p kind a (λ tab c. (h.stops tab).1 ((k.stops tab).0 c))) in
    let maps : from_sorted {R = int_cmp} (map pair one) ≡ from_sorted (map pair other) = same_map int_cmp_total
    int_cmp-IsAntisymmetric _ _ (λ p.
    get-from_sorted int_cmp (map pair one) p first ∙ (find_tab p (map pair one) ∙
    (there p ∙ (sym (find_tab p (map pair other)) ∙ sym (get-from_sorted int_cmp (map pair other) p second))))) in
    let pairs : map pair one ≡ map pair other = sym (entries-from_sorted int_cmp (map pair one) first) ∙
    (ap (λ m. entries m) maps ∙ entries-from_sorted int_cmp (map pair other) second) in
    sym (tabs_back one) ∙ (ap (map tab_of) pairs ∙ tabs_back other)

-- ---- one list of layers

chain_layers_one : (properties : Option Style → Properties) (sheet : Sheet) (istd : ℕ) (a b : List Properties) →
    AreChainLayers properties sheet istd a → AreChainLayers properties sheet istd b → a ≡ b
chain_layers_one properties sheet istd a b h k =
    h.are ∙ (ap (properties_of_styles properties sheet) (base_chains_agree sheet istd h.chain k.chain h.bases k.bases) ∙
    sym k.are)

pub named_layers_one : (sheet : Sheet) (named : Option ℕ) (a b : List Properties) → AreNamedLayers sheet named a →
    AreNamedLayers sheet named b → a ≡ b
named_layers_one sheet None a b h k = h ∙ sym k
named_layers_one sheet (Some istd) a b h k =
    elim (style_kind_at sheet istd == 2) as (λ t. (style_kind_at sheet istd == 2) ≡ t → a ≡ b) [
      | true ↦ λ e. let is = eqb-true (style_kind_at sheet istd) 2 e in chain_layers_one character_properties sheet istd
          a b
          (h.0 is) (k.0 is)
      | false ↦ λ e. let not_so : style_kind_at sheet istd ≢ 2 = (λ is. absurd (cc (
        eq-eqb (style_kind_at sheet istd) 2
            is,
        e,
      )))
          in h.1 not_so ∙ sym (k.1 not_so)
    ] refl

pub character_one : EffectiveCharacterIsOne
character_one sheet istd direct one other h k =
    let style = chain_layers_one character_properties sheet istd h.are.of_style k.are.of_style h.are.style k.are.style
    in
    let named = named_layers_one sheet (named_style direct) h.are.of_named k.are.of_named h.are.named k.are.named in
    let layers : h.layers ≡ k.layers = h.are.are ∙ (ap (λ l. l ++ (h.are.of_named ++ direct ∷ [])) style ∙
    (ap (λ l. k.are.of_style ++ (l ++ direct ∷ [])) named ∙ sym k.are.are)) in
    map_one k.layers one other (subst (λ l. IsEffectiveMap l one) layers h.values) k.values

pub paragraph_one : EffectiveParagraphIsOne
paragraph_one sheet istd direct one other h k =
    let style = chain_layers_one paragraph_properties sheet istd h.are.of_style k.are.of_style h.are.style k.are.style
    in
    let layers : h.layers ≡ k.layers = h.are.are ∙ (ap (λ l. l ++ direct ∷ []) style ∙ sym k.are.are) in
    let map_is = map_one k.layers one.map other.map (subst (λ l. IsEffectiveMap l one.map) layers h.values) k.values in
    let tabs_are = stops_one k.layers one.tabs other.tabs (subst (λ l. AreStops l one.tabs) layers h.stops) k.stops in
    λ i. record { map = map_is i; tabs = tabs_are i }
