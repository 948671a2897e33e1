-- The stops of any layers are there.
use Rattle.std.proofs.Common.{◌≡◌, ◌≢◌, ◌⊎◌, inl, inr, ℕ, ℤ, zero, suc, ◌+◌, ◌<◌, Bool, true, false, cond, List, []}
use Rattle.std.proofs.Common.{◌∷◌, ◌++◌, map, length, Option, Some, None, refl, sym, ap, ◌∙◌, subst, arith, Less, Equal, Greater}
use Rattle.std.specs.Prelude.{slice_get, is_some, ◌&&◌, T}
use Rattle.std.specs.Ordering.{int_cmp, is_eq, is_lt, eq_by_cmp}
use Rattle.std.specs.Cmp.{int_cmp_total, signed_Decides}
use Rattle.std.specs.declared.cmp.Ordering.{Ordering}
use Rattle.std.specs.List.{Contains, AllByRecursion}
use Rattle.std.specs.List.Sorted.{IsStrictlySortedBy}
use Rattle.std.specs.FinMap.{FinMap, get, insert, remove, empty, entries, entries_sorted, get-insert, get-remove}
use Rattle.std.specs.FinMap.{get-empty, get-entries}
use Rattle.std.specs.FinMap.Entries.{find, below_all, is_sorted}
use Rattle.std.proofs.lemmas.Bool.{cases_lt, cases_eq}
use Rattle.std.proofs.lemmas.List.{append_assoc, append-nil}
use Rattle.std.proofs.lemmas.Option.{none-some, slice_get-get_or}
use Rattle.prop_map.specs.Settings.{Properties}
use Rattle.effective_props.specs.declared.tabs.Tab.{Tab}
use Rattle.effective_props.specs.Values.{tabs_code}
use Rattle.effective_props.specs.TabChange.{deleted_count, deleted_position, added_count, added_position, added_kind}
use Rattle.effective_props.specs.TabChange.{added_count_place, kinds_place, IsTabChange}
use Rattle.effective_props.specs.Stops.{HasTabChange, HasStop, AreStops}
use Rattle.effective_props.specs.StopSteps.{DeletesUpTo, AddsUpTo, ChangesBy, ChangesByLayer, tab_of}
use Rattle.effective_props.proofs.PlaceLemmas.{some_is}
use Rattle.effective_props.proofs.StopStepLemmas.{apart_at, AddsOne, added_more}
use Rattle.effective_props.proofs.StopLemmas.{HoldsStops, stops_more}
use Rattle.effective_props.proofs.StopListLemmas.{get-tab_of, get-tabs, contains_at, at_contains}

-- stops in the order of their positions
abbrev StopMap : Type 0
StopMap = FinMap int_cmp ℕ

-- ---- a change of stops can be done

same_at : (p : ℤ) → eq_by_cmp int_cmp p p ≡ true
same_at p = (signed_Decides p p).1 refl

none_either : (b : Bool) (o : Option ℕ) → o ≡ None → cond b None o ≡ None
none_either true o e = refl
none_either false o e = e

deleted : (value : List ℕ) (n : ℕ) (old : StopMap) → (new : StopMap) × DeletesUpTo value n (get old) (get new)
deleted value zero old = (old, record { gone = λ i below. absurd (omega arith); kept = λ p none. refl })
deleted value (suc n) old =
    let before = deleted value n old in
    let at = deleted_position value n in
    let is : (p : ℤ) → get (remove before.0 at) p ≡ cond (eq_by_cmp int_cmp p at) None (get before.0 p) =
    λ p. get-remove int_cmp_total before.0 at p in (
      remove before.0 at,
      record {
        gone = λ i below.
            elim (cases_lt i n) [
              | inl less ↦ is (deleted_position value i)
                  ∙ none_either (eq_by_cmp int_cmp (deleted_position value i) at) (get before.0 (deleted_position value
                  i)) (before.1.gone i less)
              | inr upto ↦
                  let same : n ≡ i = omega arith in
                  subst (λ k. get (remove before.0 at) (deleted_position value k) ≡ None) same (is at
                  ∙ ap (λ b. cond b None (get before.0 at)) (same_at at))
            ];
        kept = λ p none.
            is p
            ∙ (ap (λ b. cond b None (get before.0 p)) (apart_at p at (λ same. none n (omega arith) (sym same)))
            ∙ before.1.kept p (λ i less. none i (omega arith)));
      },
    )

adds_one : (tab : Tab) (now : StopMap) → AddsOne tab (get now) (get (insert now tab.at tab.kind))
adds_one tab now = record {
  here = get-insert int_cmp_total now tab.at tab.kind tab.at ∙ ap (λ b. cond b (Some tab.kind) (get now tab.at))
      (same_at tab.at);
  others = λ p apart. get-insert int_cmp_total now tab.at tab.kind p
      ∙ ap (λ b. cond b (Some tab.kind) (get now p)) (apart_at p tab.at (λ same. apart (sym same)));
}

added : (value : List ℕ) (n : ℕ) (old : StopMap) → (new : StopMap) × AddsUpTo value n (get old) (get new)
added value zero old = (old, record { there = λ i below last. absurd (omega arith); kept = λ p none. refl })
added value (suc n) old =
    let before = added value n old in
    let tab : Tab = record { at = added_position value n; kind = added_kind value n } in
    let after = insert before.0 tab.at tab.kind in
    let more = added_more value n tab (get old) (get before.0) (get after) before.1 (adds_one tab before.0) refl refl in
    let next : n + 1 ≡ suc n = omega arith in
    (after, subst (λ k. AddsUpTo value k (get old) (get after)) next more)

changed : (value : List ℕ) (old : StopMap) → (new : StopMap) × ChangesBy value (get old) (get new)
changed value old =
    let between = deleted value (deleted_count value) old in
    let after = added value (added_count value) between.0 in
    (after.0, record { between = get between.0; deletes = between.1; adds = after.1 })

-- ---- layer by layer

is_form : (value : List ℕ) → IsTabChange value ⊎ ¬ (IsTabChange value)
is_form value =
    elim (cases_lt (added_count_place value) (length value)) [
      | inl counted ↦ elim (cases_eq (length value) (kinds_place value + added_count value)) [
        | inl whole ↦ inl (record { counted = counted; whole = whole })
        | inr other ↦ inr (λ form. other form.whole)
      ]
      | inr short ↦ inr (λ form. let counted = form.counted in absurd (omega arith))
    ]

change_of : (layer : Properties) (found : Option (List ℕ)) → get layer tabs_code ≡ found → ((value : List ℕ) × HasTabChange
    layer value) ⊎ ((value : List ℕ) → ¬ (HasTabChange layer value))
change_of layer None is = inr (λ value h. absurd (none-some value (sym is ∙ h.there)))
change_of layer (Some own) is =
    elim (is_form own) [
      | inl form ↦ inl (own, record { there = is; form = form })
      | inr other ↦ inr (λ value h. other (subst IsTabChange (some_is value own (sym h.there ∙ is)) h.form))
    ]

one_layer : (layer : Properties) (old : StopMap) → (new : StopMap) × ChangesByLayer layer (get old) (get new)
one_layer layer old =
    elim (change_of layer (get layer tabs_code) refl) [
      | inl has ↦ let after = changed has.0 old in (after.0, inr (has.0, (has.1, after.1)))
      | inr none ↦ (old, inl (none, λ p. refl))
    ]

all_layers : (done rest : List Properties) (old : StopMap) → HoldsStops done (get old) →
    (new : StopMap) × HoldsStops (done ++ rest) (get new)
all_layers done [] old holds = (old, subst (λ l. HoldsStops l (get old)) (sym (append-nil done)) holds)
all_layers done (layer ∷ rest) old holds =
    let one = one_layer layer old in
    let more = all_layers (done ++ layer ∷ []) rest one.0 (stops_more done layer (get old) (get one.0) holds one.1) in
    (more.0, subst (λ l. HoldsStops l (get more.0)) (append_assoc done (layer ∷ []) rest) more.1)

abbrev empty_stops : StopMap
empty_stops = empty

no_stops : HoldsStops [] (get empty_stops)
no_stops = record {
  found = λ p kind is. absurd (none-some kind (sym (get-empty int_cmp p) ∙ is));
  there = λ tab h. absurd (none-some h.layer h.there);
}

-- ---- the entries of the map as a list

not_below : (p : ℤ) → int_cmp p p ≢ Less
not_below p less = absurd (cc (sym (ap is_eq less) ∙ same_at p))

and_one : (a b : Bool) → T (a && b) → T a
and_one true b h = tt
and_one false b h = h

and_other : (a b : Bool) → T (a && b) → T b
and_other true b h = h
and_other false b h = absurd h

is_less : (o : Ordering) → T (is_lt o) → o ≡ Less
is_less Less h = refl
is_less Equal h = absurd h
is_less Greater h = absurd h

rises : (p : ℤ) (es : List (ℤ × ℕ)) → T (below_all int_cmp p es) → AllByRecursion (λ q. int_cmp p q ≡ Less) (map (λ
    (tab : Tab). tab.at) (map tab_of es))
rises p [] h = tt
rises p (e ∷ es) h = (
  is_less (int_cmp p e.0) (and_one (is_lt (int_cmp p e.0)) (below_all int_cmp p es) h),
  rises p es
      (and_other (is_lt (int_cmp p e.0)) (below_all int_cmp p es) h),
)

ascends : (es : List (ℤ × ℕ)) → T (is_sorted int_cmp es) → IsStrictlySortedBy int_cmp (map (λ (tab : Tab). tab.at) (map
    tab_of es))
unfolding IsStrictlySortedBy
ascends [] h = tt
ascends (e ∷ es) h = (
  rises e.0 es (and_one (below_all int_cmp e.0 es) (is_sorted int_cmp es) h),
  ascends es (and_other (below_all int_cmp e.0 es) (is_sorted int_cmp es) h),
)

same_position : (p q : ℤ) → eq_by_cmp int_cmp p q ≡ true → p ≡ q
same_position p q e = (signed_Decides p q).0 e

found_by : (x : ℤ × ℕ) (es : List (ℤ × ℕ)) (p : ℤ) (kind : ℕ) (same : Bool) → eq_by_cmp int_cmp p x.0 ≡ same →
    cond same (Some x.1) (find int_cmp p es) ≡ Some kind →
    (find int_cmp p es ≡ Some kind → (i : ℕ) × (slice_get es i ≡ Some (p, kind))) →
    (i : ℕ) × (slice_get (x ∷ es) i ≡ Some (p, kind))
found_by x es p kind true ties e later =
    (zero, ap (λ q. Some (q, x.1)) (sym (same_position p x.0 ties)) ∙ ap (λ k. Some (p, k)) (some_is x.1 kind e))
found_by x es p kind false ties e later = let more = later e in (suc more.0, more.1)

place_found : (es : List (ℤ × ℕ)) (p : ℤ) (kind : ℕ) → find int_cmp p es ≡ Some kind →
    (i : ℕ) × (slice_get es i ≡ Some (p, kind))
place_found [] p kind e = absurd (cc e)
place_found (x ∷ es) p kind e = found_by x es p kind (eq_by_cmp int_cmp p x.0) refl e (place_found es p
    kind)

below_found : (q : ℤ) (es : List (ℤ × ℕ)) (i : ℕ) (p : ℤ) (kind : ℕ) → T (below_all int_cmp q es) →
    slice_get es i ≡ Some (p, kind) → int_cmp q p ≡ Less
below_found q [] i p kind h e = absurd (cc e)
below_found q (x ∷ es) zero p kind h e =
    let same = some_is x (p, kind) e in
    subst (λ (y : ℤ × ℕ). int_cmp q y.0 ≡ Less) same (is_less (int_cmp q x.0) (and_one (is_lt (int_cmp q x.0)) (below_all
    int_cmp q es) h))
below_found q (x ∷ es) (suc i) p kind h e =
    below_found q es i p kind (and_other (is_lt (int_cmp q x.0)) (below_all int_cmp q es) h) e

found_there : (es : List (ℤ × ℕ)) (i : ℕ) (p : ℤ) (kind : ℕ) → T (is_sorted int_cmp es) →
    slice_get es i ≡ Some (p, kind) → find int_cmp p es ≡ Some kind
found_there [] i p kind h e = absurd (cc e)
found_there (x ∷ es) zero p kind h e =
    let same = some_is x (p, kind) e in
    ap (λ b. cond b (Some x.1) (find int_cmp p es)) (ap (λ (y : ℤ × ℕ). eq_by_cmp int_cmp p y.0) same ∙ same_at p)
    ∙ ap (λ (y : ℤ × ℕ). Some y.1) same
found_there (x ∷ es) (suc i) p kind h e =
    let less = below_found x.0 es i p kind (and_one (below_all int_cmp x.0 es) (is_sorted int_cmp es) h) e in
    ap (λ b. cond b (Some x.1) (find int_cmp p es)) (apart_at p x.0 (λ same. not_below p (subst (λ q. int_cmp q p ≡ Less)
    (sym same) less)))
    ∙ found_there es i p kind (and_other (below_all int_cmp x.0 es) (is_sorted int_cmp es) h) e

listed : (layers : List Properties) (stops : StopMap) → HoldsStops layers (get stops) →
    AreStops layers (map tab_of (entries stops))
listed layers stops holds = record {
  ascending = ascends (entries stops) (entries_sorted stops);
  stops = λ tab. (
    (λ h.
        let entry = get-tab_of (entries stops) h.0 tab (at_contains (map tab_of (entries stops)) tab h) in
        holds.found tab.at tab.kind (get-entries stops tab.at
        ∙ found_there (entries stops) h.0 tab.at tab.kind (entries_sorted stops) entry)),
    (λ h.
        let place = place_found (entries stops) tab.at tab.kind (sym (get-entries stops tab.at) ∙ holds.there tab h) in
        contains_at (map tab_of (entries stops)) place.0 tab (get-tabs (entries stops) place.0 tab.at tab.kind place.1)),
  );
}

pub stops_there : (layers : List Properties) → (tabs : List Tab) × AreStops layers tabs
stops_there layers =
    let all = all_layers [] layers empty_stops no_stops in
    (map tab_of (entries all.0), listed layers all.0 all.1)
