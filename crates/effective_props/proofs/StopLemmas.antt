-- Stops, layer by layer.
use Rattle.std.proofs.Common.{◌≡◌, ◌≢◌, ◌⊎◌, inl, inr, ℕ, ℤ, ◌<◌, List, [], ◌∷◌, ◌++◌, length, Some, refl, sym}
use Rattle.std.proofs.Common.{ap, ◌∙◌, arith, subst}
use Rattle.std.proofs.lemmas.Bool.{cases_lt}
use Rattle.std.specs.List.{slice_get}
use Rattle.prop_map.specs.Settings.{Properties}
use Rattle.effective_props.specs.declared.tabs.Tab.{Tab}
use Rattle.effective_props.specs.TabChange.{deleted_count, deleted_position, added_count, added_position, added_kind}
use Rattle.effective_props.specs.TabChange.{AddsTab, Mentions}
use Rattle.effective_props.specs.Stops.{HasTabChange, MentionsStop, HasStop}
use Rattle.effective_props.specs.StopSteps.{KindsOfStops, ChangesBy, ChangesByLayer}
use Rattle.effective_props.proofs.PlaceLemmas.{IsLastPlace, last_place, get_old, get_new, get_past, get_within}
use Rattle.effective_props.proofs.PlaceLemmas.{some_is}

-- ---- a layer has one change at most

one_change : (layer : Properties) (a b : List ℕ) → HasTabChange layer a → HasTabChange layer b → a ≡ b
one_change layer a b h k = some_is a b (sym h.there ∙ k.there)

none_mentions : (layer : Properties) (value : List ℕ) (p : ℤ) → HasTabChange layer value → ((i : ℕ) → i < deleted_count
    value → deleted_position value i ≢ p) → ((i : ℕ) → i < added_count value → added_position value i ≢ p) →
    ¬ (MentionsStop layer p)
none_mentions layer value p change deletes adds m =
    let here : Mentions value p = subst (λ v. Mentions v p) (one_change layer m.value value m.change change)
    m.mentions in
    elim here [
      | inl d ↦ deletes d.number d.within d.at
      | inr a ↦ adds a.1.number a.1.within a.1.at
    ]

-- ---- the stops of one more layer

pub kept_stop : (layers : List Properties) (layer : Properties) (tab : Tab) → HasStop layers tab →
    ¬ (MentionsStop layer tab.at) → HasStop (layers ++ layer ∷ []) tab
kept_stop layers layer tab h none = record {
  number = h.number;
  layer = h.layer;
  there = get_old layers layer h.number (get_within layers h.number h.layer h.there) ∙ h.there;
  value = h.value;
  change = h.change;
  adds = h.adds;
  last = λ later other past is m.
      elim (cases_lt later (length layers)) [
        | inl less ↦ h.last later other past (sym (get_old layers layer later less) ∙ is) m
        | inr more ↦ elim (cases_lt (length layers) later) [
          | inl beyond ↦ absurd (cc (get_past layers layer later beyond, is))
          | inr upto ↦
              let same : later ≡ length layers = omega arith in
              let one : layer ≡ other = some_is layer other (sym (get_new layers layer) ∙
              (ap (slice_get (layers ++ layer ∷ [])) (sym same) ∙ is)) in
              none (subst (λ l. MentionsStop l tab.at) (sym one) m)
        ]
      ];
}

pub new_stop : (layers : List Properties) (layer : Properties) (value : List ℕ) (tab : Tab) → HasTabChange layer value →
    AddsTab value tab → HasStop (layers ++ layer ∷ []) tab
new_stop layers layer value tab change adds = record {
  number = length layers;
  layer = layer;
  there = get_new layers layer;
  value = value;
  change = change;
  adds = adds;
  last = λ later other past is m. absurd (cc (get_past layers layer later past, is));
}

-- a stop of one more layer is one that the layer adds, or one that was there and that it does not mention
pub which_stop : (layers : List Properties) (layer : Properties) (tab : Tab) → HasStop (layers ++ layer ∷ []) tab →
    ((value : List ℕ) × (HasTabChange layer value × AddsTab value tab)) ⊎ ((¬ (MentionsStop layer tab.at)) × HasStop
    layers tab)
which_stop layers layer tab h =
    elim (cases_lt h.number (length layers)) [
      | inl less ↦ inr (
        h.last (length layers) layer less (get_new layers layer),
        record {
          number = h.number;
          layer = h.layer;
          there = sym (get_old layers layer h.number less) ∙ h.there;
          value = h.value;
          change = h.change;
          adds = h.adds;
          last = λ later other past is. h.last later other past (get_old layers layer later (get_within layers later
              other is) ∙ is);
        },
      )
      | inr more ↦ elim (cases_lt (length layers) h.number) [
        | inl beyond ↦ absurd (cc (get_past layers layer h.number beyond, h.there))
        | inr upto ↦
            let same : h.number ≡ length layers = omega arith in
            let one : layer ≡ h.layer = some_is layer h.layer (sym (get_new layers layer) ∙
            (ap (slice_get (layers ++ layer ∷ [])) (sym same) ∙ h.there)) in
            inl (h.value, (subst (λ l. HasTabChange l h.value) (sym one) h.change, h.adds))
      ]
    ]

-- ---- the tree has exactly the stops of the layers

pub record HoldsStops (layers : List Properties) (stops : KindsOfStops) : Type 0 where
  pub found : (p : ℤ) (kind : ℕ) → stops p ≡ Some kind → HasStop layers (record { at = p; kind = kind })
  pub there : (tab : Tab) → HasStop layers tab → stops tab.at ≡ Some tab.kind

added_here : (value : List ℕ) (old new : KindsOfStops) (p : ℤ) (place : ℕ) → ChangesBy value old new →
    IsLastPlace (added_position value) p (added_count value) place → new p ≡ Some (added_kind value place)
added_here value old new p place by h =
    ap new (sym h.at) ∙ by.adds.there place h.within (λ j past l is. h.last j past l (is ∙ h.at))

kept_here : (value : List ℕ) (old new : KindsOfStops) (p : ℤ) → ChangesBy value old new → ((i : ℕ) → i < deleted_count
    value → deleted_position value i ≢ p) → ((i : ℕ) → i < added_count value → added_position value i ≢ p) →
    new p ≡ old p
kept_here value old new p by deletes adds = by.adds.kept p adds ∙ by.deletes.kept p deletes

adds_at : (value : List ℕ) (p : ℤ) (place kind : ℕ) → IsLastPlace (added_position value) p (added_count value) place →
    added_kind value place ≡ kind → AddsTab value (record { at = p; kind = kind })
adds_at value p place kind h is = record { number = place; within = h.within; at = h.at; kind = is; last = h.last }

changed_found : (layers : List Properties) (layer : Properties) (value : List ℕ) (old new : KindsOfStops) (p : ℤ) (kind : ℕ)
    →
    HoldsStops layers old → HasTabChange layer value → ChangesBy value old new → new p ≡ Some kind →
    HasStop (layers ++ layer ∷ []) (record { at = p; kind = kind })
changed_found layers layer value old new p kind holds change by is =
    elim (last_place (added_position value) p (added_count value)) [
      | inl h ↦ new_stop layers layer value (record { at = p; kind = kind }) change (adds_at value p h.0 kind h.1
          (some_is (added_kind value h.0) kind (sym (added_here value old new p h.0 by h.1) ∙ is)))
      | inr adds ↦ elim (last_place (deleted_position value) p (deleted_count value)) [
        | inl h ↦ absurd (cc (
          sym (by.adds.kept p adds ∙ (ap by.between (sym h.1.at) ∙ by.deletes.gone h.0
              h.1.within)),
          is,
        ))
        | inr deletes ↦ kept_stop layers layer (record { at = p; kind = kind }) (holds.found p kind
            (sym (kept_here value old new p by deletes adds) ∙ is)) (none_mentions layer value p change deletes adds)
      ]
    ]

changed_there : (layers : List Properties) (layer : Properties) (value : List ℕ) (old new : KindsOfStops) (tab : Tab) →
    HoldsStops layers old → HasTabChange layer value → ChangesBy value old new → HasStop (layers ++ layer ∷ []) tab →
    new tab.at ≡ Some tab.kind
changed_there layers layer value old new tab holds change by h =
    elim (which_stop layers layer tab h) [
      | inl new_one ↦
          let adds : AddsTab value tab = subst (λ v. AddsTab v tab) (one_change layer new_one.0 value new_one.1.0
          change)
          new_one.1.1 in
          added_here value old new tab.at adds.number by (record {
            within = adds.within;
            at = adds.at;
            last = adds.last;
          }) ∙ ap Some adds.kind
      | inr old_one ↦ elim (last_place (added_position value) tab.at (added_count value)) [
        | inl place ↦ absurd (old_one.0 (record {
          value = value;
          change = change;
          mentions = inr (
            added_kind value
                place.0,
            adds_at value tab.at place.0 (added_kind value place.0) place.1 refl,
          );
        }))
        | inr adds ↦
            kept_here value old new tab.at by (λ i l e. old_one.0 (record {
              value = value;
              change = change;
              mentions = inl (record { number = i; within = l; at = e });
            })) adds
            ∙ holds.there tab old_one.1
      ]
    ]

pub stops_more : (layers : List Properties) (layer : Properties) (old new : KindsOfStops) → HoldsStops layers old →
    ChangesByLayer layer old new → HoldsStops (layers ++ layer ∷ []) new
stops_more layers layer old new holds changes =
    elim changes [
      | inl none ↦ record {
        found = λ p kind is. kept_stop layers layer (record { at = p; kind = kind }) (holds.found p kind
            (sym (none.1 p) ∙ is)) (λ m. none.0 m.value m.change);
        there = λ tab h. elim (which_stop layers layer tab h) [
          | inl new_one ↦ absurd (none.0 new_one.0 new_one.1.0)
          | inr old_one ↦ none.1 tab.at ∙ holds.there tab old_one.1
        ];
      }
      | inr some ↦ record {
        found = λ p kind is. changed_found layers layer some.0 old new p kind holds some.1.0 some.1.1 is;
        there = λ tab h. changed_there layers layer some.0 old new tab holds some.1.0 some.1.1 h;
      }
    ]
