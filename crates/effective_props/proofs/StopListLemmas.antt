-- The stops of a tree as a list.
use Rattle.std.proofs.Common.{◌≡◌, ℕ, zero, suc, ℤ, true, List, [], ◌∷◌, map, Some, option_map, refl, sym, ap, ◌∙◌}
use Rattle.std.proofs.Common.{subst}
use Rattle.std.proofs.lemmas.Cmp.{int_cmp_total}
use Rattle.std.proofs.lemmas.Option.{get_or_from_slice_get, slice_get-get_or}
use Rattle.std.proofs.lemmas.Map.Entries.{btree_map_get_place, place_from_lookup}
use Rattle.std.specs.Ordering.{int_cmp}
use Rattle.std.specs.Cmp.{signed_Decides}
use Rattle.std.specs.List.{slice_get, Contains}
use Rattle.std.specs.List.Sorted.{IsStrictlySortedBy}
use Rattle.std.specs.Map.{keys_of}
use Rattle.std.specs.BTreeMap.{BTreeMap, is_at, IsOrdered}
use Rattle.prop_map.specs.Settings.{Properties}
use Rattle.effective_props.specs.declared.tabs.Tab.{Tab}
use Rattle.effective_props.specs.Stops.{AreStops}
use Rattle.effective_props.specs.StopSteps.{kinds_in, tab_of}
use Rattle.effective_props.proofs.PlaceLemmas.{get_within, some_is}
use Rattle.effective_props.proofs.StopLemmas.{HoldsStops}

-- ---- the stops of the tree as a list

is_at_same : (p q : ℤ) → is_at (int_cmp p) q ≡ true → p ≡ q
is_at_same p q e = (signed_Decides p q).0 e

ats_of : (es : List (ℤ × ℕ)) → map (λ tab. tab.at) (map tab_of es) ≡ keys_of es
ats_of [] = refl
ats_of (e ∷ es) = ap (λ ps. e.0 ∷ ps) (ats_of es)

pub get-tab_of : (es : List (ℤ × ℕ)) (i : ℕ) (tab : Tab) → slice_get (map tab_of es) i ≡ Some tab → slice_get es i ≡
    Some (tab.at, tab.kind)
get-tab_of [] i tab e = cc
get-tab_of (x ∷ es) zero tab e = let same : tab_of x ≡ tab = some_is (tab_of x) tab e in ap (λ t. Some (t.at, t.kind))
    same
get-tab_of (x ∷ es) (suc i) tab e = get-tab_of es i tab e

pub get-tabs : (es : List (ℤ × ℕ)) (i : ℕ) (p : ℤ) (kind : ℕ) → slice_get es i ≡ Some (p, kind) →
    slice_get (map tab_of es) i ≡ Some (record { at = p; kind = kind })
get-tabs [] i p kind e = cc
get-tabs (x ∷ es) zero p kind e = ap (λ o. option_map tab_of o) e
get-tabs (x ∷ es) (suc i) p kind e = get-tabs es i p kind e

pub contains_at : {X : Type 0} → (xs : List X) (i : ℕ) (x : X) → slice_get xs i ≡ Some x → Contains xs x
contains_at xs i x e = (i, get_within xs i x e, get_or_from_slice_get xs i x x e)

pub at_contains : {X : Type 0} → (xs : List X) (x : X) → (h : Contains xs x) → slice_get xs h.0 ≡ Some x
at_contains xs x h = slice_get-get_or xs h.0 x h.1 ∙ ap Some h.2

pub stops_listed : (layers : List Properties) (stops : BTreeMap ℤ ℕ) (tabs : List Tab) → HoldsStops layers (kinds_in stops) →
    IsOrdered int_cmp stops → tabs ≡ map tab_of stops.entries → AreStops layers tabs
stops_listed layers stops tabs holds ordered is = record {
  ascending = subst (λ ps. IsStrictlySortedBy int_cmp ps) (sym (ap (map (λ (tab : Tab). tab.at)) is ∙ ats_of
      stops.entries)) ordered;
  stops = λ tab. (
    (λ h.
        let here : Contains (map tab_of stops.entries) tab = subst (λ l. Contains l tab) is h in
        let entry = get-tab_of stops.entries here.0 tab (at_contains (map tab_of stops.entries) tab here) in
        holds.found tab.at tab.kind (btree_map_get_place int_cmp_total stops here.0 tab.at tab.kind ordered entry)),
    (λ h.
        let place = place_from_lookup (is_at (int_cmp tab.at)) stops.entries tab.kind (holds.there tab h) in
        let same = is_at_same tab.at place.1 place.3 in
        let entry = place.2 ∙ ap (λ p. Some (p, tab.kind)) (sym same) in
        subst (λ l. Contains l tab) (sym is) (contains_at (map tab_of stops.entries) place.0 tab
        (get-tabs stops.entries place.0 tab.at tab.kind entry))),
  );
}
