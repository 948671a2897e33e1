-- Values in order of their codes, one of which is put in its place.
use Rattle.std.proofs.Common.{◌≡◌, ℕ, zero, suc, ◌+◌, ◌<◌, ◌≤◌, List, [], ◌∷◌, ◌++◌, length, take, drop, get_or}
use Rattle.std.proofs.Common.{slice_index_or, slice_set, refl, sym, ap, ◌∙◌, subst, arith}
use Rattle.std.proofs.Common.{inl, inr}
use Rattle.std.proofs.lemmas.Bool.{cases_lt}
use Rattle.std.proofs.lemmas.List.{length-map, take-map, drop-map, map-append, map-set, take_more, take_all}
use Rattle.std.proofs.lemmas.List.{get_or-map, get_or_default}
use Rattle.std.proofs.lemmas.List.Elements.{All-push}
use Rattle.std.specs.List.{insert}
use Rattle.std.specs.Ordering.{nat_cmp}
use Rattle.std.specs.FinMap.{put}
use Rattle.prop_map.specs.declared.values.SetValue.{SetValue}
use Rattle.prop_map.specs.Entries.{Entries}
use Rattle.prop_map.specs.Block.{block_entry_bytes, block_bytes, entries_in, IsBlockEntry, AreBlockEntries}
use Rattle.prop_map.specs.Block.{IsSortedBlock}
use Rattle.prop_map.specs.Values.{entry_of, set_value_entries, AreCodesInOrder, IsLesserCount}
use Rattle.prop_map.proofs.EntriesLemmas.{of_true, rises, AllBelow, AllAbove, cmp_less, cmp_equal, cmp_greater}
use Rattle.prop_map.proofs.BlockLemmas.{block_more, sorted_block, entries_in-block, no_block_entries}

-- ---- a code put where it is, or between

put_gap : (at code : ℕ) (v : List ℕ) (es : Entries) → at ≤ length es → AllBelow code at es → AllAbove code at es →
    put nat_cmp code v es ≡ take at es ++ (code, v) ∷ drop at es
put_gap zero code v [] within below above = refl
put_gap (suc at) code v [] within below above = absurd (omega arith)
put_gap zero code v (e ∷ es) within below above =
    let lt : code < e.0 = above 0 e (omega arith) (omega arith) in
    rw (cmp_less code e.0 lt) refl
put_gap (suc at) code v (e ∷ es) within below above =
    let lt : e.0 < code = below 0 e (omega arith) in
    rw (cmp_greater code e.0 lt) (ap (λ l. e ∷ l) (put_gap at code v es (omega arith) (λ i d l. below (suc i) d
    (omega arith)) (λ i d l within. above (suc i) d (omega arith) (omega arith))))

put_found : (at code : ℕ) (v : List ℕ) (es : Entries) → at < length es → AllBelow code at es → ((d : ℕ × List ℕ) →
    (get_or es at d).0 ≡ code) → put nat_cmp code v es ≡ slice_set es at (code, v)
put_found at code v [] within below here = absurd (omega arith)
put_found zero code v (e ∷ es) within below here =
    let same : e.0 ≡ code = here e in
    rw (same, cmp_equal code) refl
put_found (suc at) code v (e ∷ es) within below here =
    let lt : e.0 < code = below 0 e (omega arith) in
    rw (cmp_greater code e.0 lt) (ap (λ l. e ∷ l) (put_found at code v es (omega arith) (λ i d l. below (suc i) d
    (omega arith)) here))

-- ---- the same of values

-- the code of an entry is that of its value
code_at : (values : List SetValue) (i : ℕ) (d : SetValue) (e : ℕ × List ℕ) → i < length values →
    (get_or (set_value_entries values) i e).0 ≡ (slice_index_or values i d).code.0
code_at values i d e h = ap (λ (x : ℕ × List ℕ). x.0) (get_or-map entry_of values i d e h)

pub ascends : (values : List SetValue) (i j : ℕ) (d : SetValue) → AreCodesInOrder values → i < j → j < length values →
    (slice_index_or values i d).code.0 < (slice_index_or values j d).code.0
ascends values i j d h lt within =
    let e = entry_of d in
    let long = length-map values entry_of in
    let low = code_at values i d e (omega arith) in
    let high = code_at values j d e within in
    let rise = rises (set_value_entries values) i j e (of_true _ h) lt (omega arith) in
    omega arith

below_of : (values : List SetValue) (code count : ℕ) (d : SetValue) → IsLesserCount values code count → AllBelow code
    count (set_value_entries values)
below_of values code count d h i e lt =
    let inside = h.inside in
    let here = code_at values i d e (omega arith) in
    let less = h.below i d lt in
    omega arith

-- where the middle one has a lesser code, those before it have, and where it has not, those behind it have not
pub lower_half : (values : List SetValue) (code middle : ℕ) (here : SetValue) → AreCodesInOrder values → middle < length
    values → (slice_index_or values middle here).code.0 < code → (k : ℕ) (d : SetValue) → k < middle + 1 →
    (slice_index_or values k d).code.0 < code
lower_half values code middle here sorted within less k d below =
    let alike = ap (λ (x : SetValue). x.code.0) (get_or_default values middle here d within) in
    elim (cases_lt k middle) [
      | inl lt ↦ let rise = ascends values k middle d sorted lt within in omega arith
      | inr most ↦
          let same : k ≡ middle = omega arith in
          let same_code = ap (λ n. (slice_index_or values n d).code.0) same in
          omega arith
    ]

pub upper_half : (values : List SetValue) (code middle : ℕ) (here : SetValue) → AreCodesInOrder values → middle < length
    values → code ≤ (slice_index_or values middle here).code.0 → (k : ℕ) (d : SetValue) → middle ≤ k →
    k < length values → code ≤ (slice_index_or values k d).code.0
upper_half values code middle here sorted within least k d above inner =
    let alike = ap (λ (x : SetValue). x.code.0) (get_or_default values middle here d within) in
    elim (cases_lt middle k) [
      | inl lt ↦ let rise = ascends values middle k d sorted lt inner in omega arith
      | inr most ↦
          let same : k ≡ middle = omega arith in
          let same_code = ap (λ n. (slice_index_or values n d).code.0) same in
          omega arith
    ]

-- the code is there: so many have lesser ones
pub found_at : (values : List SetValue) (code at : ℕ) (here : SetValue) → AreCodesInOrder values → at < length values →
    (slice_index_or values at here).code.0 ≡ code → IsLesserCount values code at
found_at values code at here sorted within same = record {
  inside = omega arith;
  below = λ k d lt.
      let alike = ap (λ (x : SetValue). x.code.0) (get_or_default values at here d within) in
      let rise = ascends values k at d sorted lt within in
      omega arith;
  above = upper_half values code at here sorted within (omega arith);
}

-- the value is there already
pub set_found : (values : List SetValue) (at : ℕ) (set d : SetValue) → IsLesserCount values set.code.0 at →
    at < length values → (slice_index_or values at d).code.0 ≡ set.code.0 →
    set_value_entries (slice_set values at set) ≡ put nat_cmp set.code.0 set.value.now (set_value_entries values)
set_found values at set d h within same =
    let long = length-map values entry_of in
    map-set entry_of values at set
    ∙ sym (put_found at set.code.0 set.value.now (set_value_entries values) (omega arith) (below_of values set.code.0 at
    d h)
    (λ e. code_at values at d e within ∙ same))

-- it has its place between two others
strictly : (code other : ℕ) → code ≤ other → ¬ (other ≡ code) → code < other
strictly code other least apart = elim (cases_lt code other) [
  | inl lt ↦ lt
  | inr most ↦ let e : other ≡ code = omega arith in absurd (apart e)
]

above_of : (values : List SetValue) (code at : ℕ) (d : SetValue) → IsLesserCount values code at →
    (at < length values → ¬ ((slice_index_or values at d).code.0 ≡ code)) → AreCodesInOrder values → AllAbove code at
    (set_value_entries values)
above_of values code at d h apart sorted i e low within =
    let long = length-map values entry_of in
    let inner : i < length values = omega arith in
    let here = code_at values i d e inner in
    let first : at < length values = omega arith in
    let least = strictly code (slice_index_or values at d).code.0 (h.above at d (omega arith) first) (apart first) in
    elim (cases_lt at i) [
      | inl more ↦ let rise = ascends values at i d sorted more inner in omega arith
      | inr most ↦
          let same : at ≡ i = omega arith in
          let alike = ap (λ n. (slice_index_or values n d).code.0) same in
          omega arith
    ]

pub set_between : (values : List SetValue) (at : ℕ) (set d : SetValue) → IsLesserCount values set.code.0 at →
    (at < length values → ¬ ((slice_index_or values at d).code.0 ≡ set.code.0)) → AreCodesInOrder values →
    set_value_entries (insert values at set) ≡ put nat_cmp set.code.0 set.value.now (set_value_entries values)
set_between values at set d h apart sorted =
    let long = length-map values entry_of in
    let inside = h.inside in
    map-append entry_of (take at values) (set ∷ drop at values)
    ∙ (ap (λ front. front ++ entry_of set ∷ set_value_entries (drop at values)) (sym (take-map entry_of at values))
    ∙ (ap (λ rest. take at (set_value_entries values) ++ entry_of set ∷ rest) (sym (drop-map entry_of at values))
    ∙ sym (put_gap at set.code.0 set.value.now (set_value_entries values) (omega arith) (below_of values set.code.0 at d
    h)
    (above_of values set.code.0 at d h apart sorted))))

-- ---- the block of values

-- the first of them were appended
pub record HasValueBytes (values : List SetValue) (count : ℕ) (bytes : List ℕ) : Type 0 where
  pub spelt : bytes ≡ block_bytes (set_value_entries (take count values))
  pub formed : AreBlockEntries (set_value_entries (take count values))

pub no_values : (values : List SetValue) (bytes : List ℕ) → bytes ≡ [] → HasValueBytes values 0 bytes
no_values values bytes e = record { spelt = e; formed = no_block_entries }

pub one_value : (values : List SetValue) (count : ℕ) (d : SetValue) (old new : List ℕ) →
    HasValueBytes values count old →
    count < length values → new ≡ old ++ block_entry_bytes (entry_of (get_or values count d)) → IsBlockEntry
    (entry_of (get_or values count d)) → HasValueBytes values (count + 1) new
one_value values count d old new h within e is =
    let set = get_or values count d in
    let more : set_value_entries (take (count + 1) values) ≡ set_value_entries (take count values) ++ entry_of set ∷ []
    =
    ap set_value_entries (take_more values count d within) ∙ map-append entry_of (take count values) (set ∷ []) in
    record {
      spelt = e ∙ (ap (λ b. b ++ block_entry_bytes (entry_of set)) h.spelt ∙ (sym (block_more (set_value_entries (take
          count values))
          set.code.0 set.value.now) ∙ sym (ap block_bytes more)));
      formed = subst AreBlockEntries (sym more) (All-push IsBlockEntry (set_value_entries (take count values)) (entry_of
          set)
          h.formed is);
    }

pub all_values : (values : List SetValue) (count : ℕ) (bytes : List ℕ) → HasValueBytes values count bytes →
    length values ≤ count → AreCodesInOrder values → IsSortedBlock bytes × (entries_in bytes ≡ set_value_entries values)
all_values values count bytes h all sorted =
    let whole : set_value_entries (take count values) ≡ set_value_entries values = ap set_value_entries (take_all count
    values all) in
    let spelt : bytes ≡ block_bytes (set_value_entries values) = h.spelt ∙ ap block_bytes whole in
    let formed : AreBlockEntries (set_value_entries values) = subst AreBlockEntries whole h.formed in (
      sorted_block bytes (set_value_entries values) formed spelt sorted,
      ap entries_in spelt ∙ entries_in-block (set_value_entries
          values) formed,
    )
