-- The properties that a list makes, and a list of properties that grows.
use Rattle.std.proofs.Common.{inl, inr, ◌≡◌, ◌<◌, ◌≤◌, ◌+◌, ◌-◌, ◌∙◌, ap, sym, subst, refl, ℕ, zero, suc, replicate}
use Rattle.std.proofs.Common.{List, [], ◌∷◌, ◌++◌, length, take, drop, min, Some, slice_get, slice_index_or, get_or}
use Rattle.std.proofs.Common.{arith, append_assoc, length-append, length-take, get_or-take}
use Rattle.std.proofs.lemmas.Bool.{cases_lt}
use Rattle.std.proofs.lemmas.List.{append-nil, drop_all, get_or_append_left, get_or-append-add}
use Rattle.std.proofs.lemmas.Grind.{replicate_next}
use Rattle.std.proofs.lemmas.List.Elements.{All-push}
use Rattle.std.proofs.lemmas.Option.{slice_get_within, slice_get-get_or, get_or_from_slice_get}
use Rattle.std.specs.FinMap.{empty}
use Rattle.sprm_table.specs.Sprm.{IsAcceptedList}
use Rattle.prop_map.specs.Settings.{Properties}
use Rattle.prop_map.specs.declared.acting.Acted.{Acted}
use Rattle.prop_map.specs.declared.modifiers.Modifier.{Modifier}
use Rattle.prop_map.specs.Acting.{IsActedBy}
use Rattle.prop_map.specs.Formed.{IsPropertyMap, StaysFormed, character_groups}
use Rattle.prop_map.specs.Modifiers.{IsFormedModifier}
use Rattle.direct_props.specs.Direct.{MakesProperties, IsDirectCharacter}
use Rattle.direct_props.specs.Stretches.{AddsCharacters}
use Rattle.doc_bits.proofs.Public.{rest_is}
use Rattle.prop_map.proofs.Public.{IsPropertyMap-empty}

-- what follows the style number, as it is cut off
pub sprms_of : (list : List ℕ) (start style least : ℕ) → style ≡ least → start ≡ min style (length list) →
    take (length list - start) (drop start list) ≡ drop least list
sprms_of list start style least e s =
    rest_is list start
    ∙ elim (cases_lt (length list) style) [
      | inl short ↦
          let all : length list ≤ start = omega arith in
          let most : length list ≤ least = omega arith in
          drop_all start list all ∙ sym (drop_all least list most)
      | inr long ↦ let same : start ≡ least = omega arith in ap (λ n. drop n list) same
    ]

-- what an accepted list makes of no properties
pub makes_properties : (bytes list : List ℕ) (g groups : ℕ) (none : Properties) (acted : Acted) → bytes ≡ list →
    g ≡ groups → none ≡ empty → IsAcceptedList list groups → IsActedBy bytes g none acted →
    MakesProperties list groups acted.map acted.istd
makes_properties bytes list g groups none acted e h n accepted act =
    let acts = subst (λ m. IsActedBy list groups m acted) n
    (subst (λ k. IsActedBy list k none acted) h (subst (λ b. IsActedBy b g none acted) e act)) in
    let is = acts accepted.list accepted.spelt in
    record { prls = accepted.list; spelt = accepted.spelt; map = is.map; style_is = is.style }

pub stays_formed : (g groups : ℕ) (none made : Properties) → g ≡ groups → none ≡ empty → StaysFormed g none made →
    IsPropertyMap groups made
stays_formed g groups none made h n stays = subst (λ k. IsPropertyMap k made) h
    (stays (subst (λ m. IsPropertyMap g m) (sym n) (IsPropertyMap-empty g)))

-- one character more
pub adds_one : (wd bin places : List ℕ) (modifier : Modifier) (start old new : List Properties) (i : ℕ)
    (properties : Properties) → i < length places →
    AddsCharacters wd bin (take i places) modifier start old → IsDirectCharacter wd bin (slice_index_or places i 0)
    modifier properties →
    (IsFormedModifier modifier → IsPropertyMap character_groups properties) → new ≡ old ++ properties ∷ [] →
    AddsCharacters
    wd bin (take (i + 1) places) modifier start new
adds_one wd bin places modifier start old new i properties h a d formed e =
    let long : length a.added ≡ i = a.len ∙ simp length-take (omega arith) in
    record {
      added = a.added ++ properties ∷ [];
      joined = e ∙ (ap (λ o. o ++ properties ∷ []) a.joined ∙ append_assoc start a.added (properties ∷ []));
      len = simp (length-append, length-take) (omega arith);
      each = λ k other g.
          let within = slice_get_within (a.added ++ properties ∷ []) k other g in
          let below : k < length a.added + 1 = simp length-append at within in
          let value : get_or (a.added ++ properties ∷ []) k properties ≡ other = get_or_from_slice_get
          (a.added ++ properties ∷ []) k other properties g in
          elim (cases_lt k (length a.added)) [
            | inl lower ↦
                let left = get_or_append_left a.added (properties ∷ []) properties k lower in
                let there : slice_get a.added k ≡ Some other = slice_get-get_or a.added k properties lower ∙ ap Some
                (sym left ∙ value) in
                let place : slice_index_or (take i places) k 0 ≡ slice_index_or (take (i + 1) places) k 0 =
                get_or-take i places k 0 (omega arith) ∙ sym (get_or-take (i + 1) places k 0 (omega arith)) in
                subst (λ p. IsDirectCharacter wd bin p modifier other) place (a.each k other there)
            | inr upper ↦
                let here : k ≡ i = omega arith in
                let last : k ≡ length a.added + 0 = omega arith in
                let same : properties ≡ other = sym
                (ap (λ n. get_or (a.added ++ properties ∷ []) n properties) last ∙ get_or-append-add a.added
                (properties ∷ []) 0 properties) ∙ value in
                let place : slice_index_or places i 0 ≡ slice_index_or (take (i + 1) places) k 0 =
                ap (λ n. slice_index_or places n 0) (sym here) ∙ sym (get_or-take (i + 1) places k 0 (omega arith)) in
                subst (λ s. IsDirectCharacter wd bin (slice_index_or (take (i + 1) places) k 0) modifier s) same
                (subst (λ p. IsDirectCharacter wd bin p modifier properties) place d)
          ];
      formed = λ by. All-push (IsPropertyMap character_groups) a.added properties (a.formed by) (formed by);
    }

-- a run of characters more
pub adds_run : (wd bin places : List ℕ) (modifier : Modifier) (start old new : List Properties) (i count : ℕ)
    (properties : Properties) → i + count ≤ length places → AddsCharacters wd bin (take i places) modifier start old →
    ((k : ℕ) → k < count → IsDirectCharacter wd bin (slice_index_or places (i + k) 0) modifier properties)
    → (IsFormedModifier modifier → IsPropertyMap character_groups properties) → new ≡ old ++ replicate count properties
    → AddsCharacters wd bin (take (i + count) places) modifier start new
adds_run wd bin places modifier start old new i zero properties h a each formed e =
    let here : i ≡ i + 0 = omega arith in
    subst (λ (m : ℕ). AddsCharacters wd bin (take m places) modifier start new) here
    (subst (AddsCharacters wd bin (take i places) modifier start) (sym (e ∙ append-nil old)) a)
adds_run wd bin places modifier start old new i (suc n) properties h a each formed e =
    let before = old ++ replicate n properties in
    let one = adds_run wd bin places modifier start old before i n properties (omega (arith, h)) a
    (λ k less. each k (omega (arith, less))) formed refl in
    let more : suc n ≡ n + 1 = omega arith in
    let grown : new ≡ before ++ properties ∷ [] =
    e
    ∙ ap (λ (m : ℕ). old ++ replicate m properties) more
    ∙ ap (λ (t : List Properties). old ++ t) (replicate_next n properties)
    ∙ sym (append_assoc old (replicate n properties) (properties ∷ [])) in
    let next : i + n + 1 ≡ i + suc n = omega arith in
    subst (λ (m : ℕ). AddsCharacters wd bin (take m places) modifier start new) next
    (adds_one wd bin places modifier start before new (i + n) properties (omega (arith, h)) one (each n (omega arith))
    formed grown)
