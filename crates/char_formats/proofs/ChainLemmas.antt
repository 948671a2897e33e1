-- The changes of the styles of a chain, one after the other.
use Rattle.std.proofs.Common.{◌≡◌, ◌≢◌, ℕ, ◌+◌, ◌-◌, ◌<◌, List, [], ◌∷◌, ◌++◌, length, take, Option, Some, None, refl}
use Rattle.std.proofs.Common.{sym, ap, ◌∙◌, subst, arith, inl, inr, get_or, set, length-set, get_or-set_same}
use Rattle.std.proofs.Common.{get_or-set_other, ◌≤◌, length-append}
use Rattle.std.specs.Prelude.{slice_get, option_map, MatchOption}
use Rattle.std.proofs.lemmas.Bool.{cases_lt}
use Rattle.std.proofs.lemmas.List.{get_or-replicate, length-replicate}
use Rattle.std.specs.Ordering.{nat_cmp}
use Rattle.std.proofs.Math.Seq.{take-length}
use Rattle.std.proofs.Math.ListN.{get_or-eq_default}
use Rattle.std.proofs.lemmas.Option.{same_Some, get_or_from_slice_get, slice_get_within, slice_get-get_or}
use Rattle.std.specs.FinMap.{get, empty, get-empty}
use Rattle.std.proofs.Common.{Bor, replicate}
use Rattle.prop_map.specs.Settings.{Properties}
use Rattle.style_sheet.specs.Sheet.{Sheet, style_at}
use Rattle.style_sheet.specs.Chain.{style_kind_in, style_kind_at, IsBaseChain}
use Rattle.style_sheet.proofs.Public.{base_chains_agree, chain_front}
use Rattle.effective_props.specs.Layers.{character_properties, properties_of_styles}
use Rattle.effective_props.specs.ValueSteps.{layer_over}
use Rattle.effective_props.proofs.Public.{styles_more, match_now}
use Rattle.style_sheet.specs.declared.styles.Style.{Style}
use Rattle.char_formats.specs.declared.change.Change.{Change}
use Rattle.char_formats.specs.Changes.{Act, with_layer, over_all, IsChangeOf}
use Rattle.char_formats.specs.Styles.{IsStyleChange, IsSlotChange, IsBelowStyle, AreKnownChanges, AreStyleChanges}
use Rattle.doc_bits.proofs.Public.{slice_get_push, slice_get_before}
use Rattle.char_formats.proofs.ChangeLemmas.{same_act}
use Rattle.char_formats.proofs.EffectLemmas.{over_all-append}

-- the properties of the styles up to a place of a chain
abbrev pub properties_upto : Sheet → List ℕ → ℕ → List Properties
properties_upto sheet chain i = properties_of_styles character_properties sheet (take i chain)

front_of : (sheet : Sheet) (istd : ℕ) (chain : List ℕ) (i number : ℕ) → IsBaseChain sheet istd chain → slice_get chain i
    ≡ Some number → IsBaseChain sheet number (take (i + 1) chain)
front_of sheet istd chain i number is there =
    subst (λ n. IsBaseChain sheet n (take (i + 1) chain)) (get_or_from_slice_get chain i number 0 there)
    (chain_front sheet istd chain i is (slice_get_within chain i number there))

-- the change so far is that below the next style of the chain
pub below_next : (sheet : Sheet) (istd : ℕ) (chain : List ℕ) (i number : ℕ) (change : Change) → IsBaseChain sheet istd
    chain → slice_get chain i ≡ Some number → IsChangeOf (over_all (properties_upto sheet chain i)) change →
    IsBelowStyle
    sheet number change
below_next sheet istd chain i number change is there said =
    let layer : Properties = character_properties (style_at sheet number) in
    let layers : List Properties = properties_upto sheet chain i in
    record {
      layers = layers;
      are = record {
        chain = take (i + 1) chain;
        bases = front_of sheet istd chain i number is there;
        are = styles_more character_properties sheet chain i number [] layers (layers ++ layer ∷ []) layer refl there
            refl
            refl;
      };
      said = said;
    }

-- the change of the style is that of the chain up to it
pub change_upto : (sheet : Sheet) (istd : ℕ) (chain : List ℕ) (i number : ℕ) (change : Change) → IsBaseChain sheet istd
    chain → slice_get chain i ≡ Some number → IsStyleChange sheet number change → IsChangeOf (over_all (properties_upto
    sheet chain (i + 1))) change
change_upto sheet istd chain i number change is there own =
    let same : own.are.chain ≡ take (i + 1) chain =
    base_chains_agree sheet number own.are.chain (take (i + 1) chain) own.are.bases
    (front_of sheet istd chain i number is there) in
    subst (λ layers. IsChangeOf (over_all layers) change) (own.are.are ∙ ap (properties_of_styles character_properties
    sheet) same) own.said

-- at the end of the chain it is that of its style
pub change_whole : (sheet : Sheet) (istd : ℕ) (chain : List ℕ) (i : ℕ) (change : Change) →
    IsBaseChain sheet istd chain → i ≡ length chain →
    IsChangeOf (over_all (properties_upto sheet chain i)) change → IsStyleChange sheet istd change
change_whole sheet istd chain i change is end said = record {
  layers = properties_upto sheet chain i;
  are = record {
    chain = chain;
    bases = is;
    are = ap (properties_of_styles character_properties sheet) (ap (λ n. take n chain) end ∙ take-length chain);
  };
  said = said;
}

-- what a style says after what is below it
pub change_with_own : (sheet : Sheet) (istd : ℕ) (below change : Change) → IsBelowStyle sheet istd below →
    ((act : Act) → IsChangeOf act below →
    IsChangeOf (with_layer (character_properties (style_at sheet istd)) act) change) →
    IsStyleChange sheet istd change
change_with_own sheet istd below change h step =
    let layer : Properties = character_properties (style_at sheet istd) in
    record {
      layers = h.layers ++ layer ∷ [];
      are = h.are;
      said = same_act (with_layer layer (over_all h.layers)) (over_all (h.layers ++ layer ∷ [])) change (λ code before.
          sym (over_all-append h.layers (layer ∷ []) code before)) (step (over_all h.layers) h.said);
    }

-- a style that is not there, or has no properties of characters, says nothing
pub nothing_said : (layer : Properties) (act : Act) (change : Change) → layer ≡ empty → IsChangeOf act change →
    IsChangeOf
    (with_layer layer act) change
nothing_said layer act change none h =
    same_act act (with_layer layer act) change (λ code before. ap (layer_over code (act code before)) (sym (ap (λ m. get
    m code) none ∙ get-empty nat_cmp code))) h

-- what is asked of a slot is what its style says
pub said_by_slot : (sheet : Sheet) (istd : ℕ) (below change : Change) (style : Option (Bor Style)) → MatchOption style
    (style_at sheet istd ≡ None) (λ s. style_at sheet istd ≡ Some s.now) → IsBelowStyle sheet istd below → ((act : Act)
    → IsChangeOf act below → IsChangeOf (with_layer (character_properties (option_map (λ s. s.now) style)) act) change)
    →
    IsStyleChange sheet istd change
said_by_slot sheet istd below change style found h step =
    let own : option_map (λ s. s.now) style ≡ style_at sheet istd = match_now (λ s. s.now) style (style_at sheet istd)
    found in
    change_with_own sheet istd below change h (λ act k. subst (λ o. IsChangeOf (with_layer (character_properties o) act)
    change) own (step act k))

-- no style is known
pub known_none : (sheet : Sheet) (count : ℕ) (known : List (Option Change)) → known ≡ replicate count None →
    AreKnownChanges sheet known
known_none sheet count known none istd change there =
    let within : istd < length known = slice_get_within known istd (Some change) there in
    let found : get_or known istd None ≡ Some change = get_or_from_slice_get known istd (Some change) None there in
    let low : istd < count = omega (arith, within, ap length none, length-replicate {A = Option Change} count None) in
    let nothing : get_or known istd None ≡ None = ap (λ l. get_or l istd None) none ∙ get_or-replicate count istd None
    None low in
    absurd (cc (found, nothing))

-- one style more is known
pub known_more : (sheet : Sheet) (known : List (Option Change)) (istd : ℕ) (change : Change) → AreKnownChanges sheet
    known → IsStyleChange sheet istd change → istd < length known → AreKnownChanges sheet (set known istd (Some change))
known_more sheet known istd change h own low i v there =
    let new : List (Option Change) = set known istd (Some change) in
    let inside : i < length new = slice_get_within new i (Some v) there in
    let within : i < length known = subst (λ n. i < n) (length-set known istd (Some change)) inside in
    let found : get_or new i None ≡ Some v = get_or_from_slice_get new i (Some v) None there in
    let apart : i ≢ istd → IsStyleChange sheet i v = (λ ne. h i v (slice_get-get_or known i None within ∙ ap Some
    (sym (get_or-set_other known istd i (Some change) None ne) ∙ found))) in
    elim (cases_lt i istd) [
      | inl less ↦ apart (λ e. omega arith)
      | inr up ↦ elim (cases_lt istd i) [
        | inl more ↦ apart (λ e. omega arith)
        | inr near ↦
            let e : istd ≡ i = omega arith in
            let same : change ≡ v = same_Some change v (sym (get_or-set_same known istd (Some change) None low) ∙ (ap
            (λ k. get_or new k None) e ∙ found)) in
            subst (λ k. IsStyleChange sheet k v) e (subst (IsStyleChange sheet istd) same own)
      ]
    ]

-- ---- the slots, one after the other

abbrev pub AreSlotChanges : Sheet → List (Option Change) → Type 0
AreSlotChanges sheet changes =
    (istd : ℕ) (change : Option Change) → slice_get changes istd ≡ Some change → IsSlotChange sheet istd change

pub slots-none : (sheet : Sheet) → AreSlotChanges sheet []
slots-none sheet istd change there = absurd (cc (there))

pub slots-more : (sheet : Sheet) (changes : List (Option Change)) (slot : ℕ) (change : Option Change) → length changes ≡
    slot → AreSlotChanges sheet changes → IsSlotChange sheet slot change → AreSlotChanges sheet (changes ++ change ∷ [])
slots-more sheet changes slot change count right own istd found there =
    elim (cases_lt istd (length changes)) [
      | inl less ↦ right istd found (sym (slice_get_before changes (change ∷ []) istd less) ∙ there)
      | inr up ↦
          let inside : istd < length (changes ++ change ∷ []) = slice_get_within (changes ++ change ∷ []) istd found
          there in
          let at : length changes ≡ istd = omega (arith, length-append changes (change ∷ [])) in
          let same : change ≡ found = same_Some change found (sym (slice_get_push changes change) ∙ (ap (slice_get
          (changes ++ change ∷ [])) at ∙ there)) in
          subst (λ k. IsSlotChange sheet k found) (sym count ∙ at) (subst (IsSlotChange sheet slot) same own)
    ]

no_kind_behind : (sheet : Sheet) (istd : ℕ) → length sheet.styles ≤ istd → style_kind_at sheet istd ≡ 0
no_kind_behind sheet istd behind = ap style_kind_in (get_or-eq_default sheet.styles None behind)

from_slot : (sheet : Sheet) (changes : List (Option Change)) (istd : ℕ) (found : Option Change) → slice_get changes istd
    ≡ Some found → IsSlotChange sheet istd found → 0 < style_kind_at sheet istd → (change : Change) × ((slice_get
    changes istd
    ≡ Some (Some change)) × IsStyleChange sheet istd change)
from_slot sheet changes istd None there own some = absurd (omega arith)
from_slot sheet changes istd (Some change) there own some = (change, (there, own))

-- all of them
pub slots-whole : (sheet : Sheet) (changes : List (Option Change)) → length changes ≡ length sheet.styles →
    AreSlotChanges sheet changes → AreStyleChanges sheet changes
slots-whole sheet changes count right istd some =
    elim (cases_lt istd (length changes)) [
      | inl less ↦
          let there : slice_get changes istd ≡ Some (get_or changes istd None) = slice_get-get_or changes istd None less
          in
          from_slot sheet changes istd (get_or changes istd None) there (right istd (get_or changes istd None) there)
          some
      | inr up ↦ absurd (omega (arith, no_kind_behind sheet istd (omega arith)))
    ]
