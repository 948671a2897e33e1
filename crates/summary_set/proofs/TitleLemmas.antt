-- The set with another title: it can be written, and the same title once more changes nothing.
use Rattle.std.proofs.Common.{◌≡◌, ◌≢◌, ◌∙◌, inl, inr, ℕ, zero, suc, ◌+◌, ◌-◌, ◌*◌, ◌^◌, ◌<◌, ◌≤◌, Bool, true, false}
use Rattle.std.proofs.Common.{List, []}
use Rattle.std.proofs.Common.{◌∷◌, ◌++◌, length, map, Some, refl, sym, ap, subst, arith}
use Rattle.std.specs.Prelude.{◌⊎◌, if◌then◌else◌, slice_get}
use Rattle.std.specs.List.{list_any, range_with_len}
use Rattle.std.proofs.lemmas.Bool.{cases_lt, eqb-true, eqb-false}
use Rattle.std.proofs.lemmas.List.{length-map}
use Rattle.std.proofs.lemmas.List.FromFn.{length-map-range_with_len, get_or-map-range_with_len}
use Rattle.std.proofs.lemmas.Option.{same_Some, slice_get_within, get_or_from_slice_get}
use Rattle.doc_bits.specs.Number.{AreBytes}
use Rattle.doc_bits.proofs.Public.{number_at-bound, map-map, there_is, from_map, length-range, slice_get_before}
use Rattle.doc_bits.proofs.Public.{from_behind, neither}
use Rattle.summary_set.specs.declared.values.Property.{Property}
use Rattle.summary_set.specs.PropertySet.{first_set_begin, first_set_size, pair_count, pair_at, pairs_in_stream}
use Rattle.summary_set.specs.PropertySet.{offsets_of}
use Rattle.summary_set.specs.Form.{IsPropertySet}
use Rattle.summary_set.specs.Values.{value_end, pair_value_bytes, property_of, property_values}
use Rattle.summary_set.specs.Written.{kept_bytes}
use Rattle.summary_set.specs.Written.{is_title_property, title_property, in_place, retitled}
use Rattle.summary_set.specs.Written.{retitled_stream}
use Rattle.summary_set.specs.Laws.{AreWritable, IsAsked, HasSameProperties}
use Rattle.summary_set.proofs.FormLemmas.{head_of_rules, pair_of_rules}
use Rattle.summary_set.proofs.EndLemmas.{value_end-le}
use Rattle.summary_set.proofs.ValueLemmas.{value_end-more}
use Rattle.summary_set.proofs.WriteLemmas.{length-title_value, retitled_fits}
use Rattle.summary_set.proofs.ReadBackLemmas.{read_back}

-- ---- the properties of a set

-- the property at a place comes from the pair there
record IsOfPair (b : List ℕ) (i : ℕ) (property : Property) : Type 0 where
  below : i < pair_count b
  is : property_of b (pair_at b i) ≡ property

of_pair : (b : List ℕ) (i : ℕ) (property : Property) → slice_get (property_values b) i ≡ Some property → IsOfPair b i
    property
of_pair b i property here =
    let all = map-map (property_of b) (pair_at b) (range_with_len 0 (pair_count b)) in
    let within = slice_get_within (property_values b) i property here in
    let len = length-map (pairs_in_stream b) (property_of b) in
    let read = length-map-range_with_len (pair_at b) 0 (pair_count b) in
    let low : i < pair_count b = omega arith in
    let there = subst (λ xs. slice_get xs i ≡ Some property) all here in
    record {
      below = low;
      is = sym
          (get_or-map-range_with_len (λ j. property_of b (pair_at b j)) 0 (pair_count b) i i property low (omega arith))
          ∙ get_or_from_slice_get (map (λ j. property_of b (pair_at b j)) (range_with_len 0 (pair_count b))) i property
          property there;
    }

value_some : (b : List ℕ) (i : ℕ) → IsPropertySet b → i < pair_count b → 1 ≤ length (pair_value_bytes b (pair_at b i))
value_some b i formed low =
    let sized = (head_of_rules b formed.0).sized in
    let within = sized.within in
    let four = (pair_of_rules b i formed.1 low).within in
    let offset : ℕ = (pair_at b i).offset in
    let end : ℕ = value_end (offsets_of b) (first_set_size b) offset in
    let more = value_end-more (offsets_of b) (first_set_size b) offset (omega arith) in
    let most = value_end-le (offsets_of b) (first_set_size b) offset in
    let len = length-range b (first_set_begin b + offset) (first_set_begin b + end) (omega arith) in
    omega arith

-- ---- with another title

one_id : (test : Bool) (title : List ℕ) (property : Property) → is_title_property property ≡ test → (if test then
    title_property
    title else property).id ≡ property.id
one_id true title property e = sym (eqb-true property.id 2 e)
one_id false title property e = refl

pub in_place-id : (title : List ℕ) (property : Property) → (in_place title property).id ≡ property.id
in_place-id title property = one_id (is_title_property property) title property refl

one_some : (test : Bool) (title : List ℕ) (property : Property) → 1 ≤ length property.value → 1 ≤ length (if test then
    title_property title else property).value
one_some true title property some = let len = length-title_value title in omega arith
one_some false title property some = some

in_place-some : (title : List ℕ) (property : Property) → 1 ≤ length property.value → 1 ≤ length (in_place title
    property).value
in_place-some title property some = one_some (is_title_property property) title property some

-- where a property of the set with another title comes from: a pair, or the title that is put last
record ComesFrom (b title : List ℕ) (i : ℕ) (property : Property) : Type 0 where
  some : 1 ≤ length property.value
  from : ((i < pair_count b) × (property.id ≡ (pair_at b i).id)) ⊎ ((pair_count b ≤ i) × ((i ≤ pair_count b) ×
      ((property.id ≡ 2) × (list_any is_title_property (property_values b) ≡ false))))

last_from : (there : Bool) (title : List ℕ) (k : ℕ) (property : Property) → slice_get (if there then [] else
    title_property title ∷ []) k ≡ Some property → (there ≡ false) × ((k ≡ 0) × (title_property title ≡ property))
last_from true title k property here = absurd (cc (here))
last_from false title zero property here = (refl, (refl, same_Some (title_property title) property here))
last_from false title (suc k) property here = absurd (cc (here))

comes_from : (b title : List ℕ) (i : ℕ) (property : Property) → IsPropertySet b →
    slice_get (retitled (property_values b)
    title) i ≡ Some property → ComesFrom b title i property
comes_from b title i property formed here =
    let old : List Property = map (in_place title) (property_values b) in
    let last : List Property = if list_any is_title_property (property_values b) then [] else title_property title ∷ []
    in
    let len = length-map (property_values b) (in_place title) in
    let count = length-map (pairs_in_stream b) (property_of b) in
    let read = length-map-range_with_len (pair_at b) 0 (pair_count b) in
    elim (cases_lt i (length old)) [
      | inl low ↦
          let before = sym (slice_get_before old last i low) ∙ here in
          let source = from_map (in_place title) (property_values b) i property before in
          let pair = of_pair b i source.0 source.1.0 in
          let same : property_of b (pair_at b i) ≡ source.0 = pair.is in
          let some = subst (λ (p : Property). 1 ≤ length p.value) same (value_some b i formed pair.below) in
          record {
            some = subst (λ (p : Property). 1 ≤ length p.value) source.1.1 (in_place-some title source.0 some);
            from = inl (
              pair.below,
              ap (λ (p : Property). p.id) (sym source.1.1)
                  ∙ (in_place-id title source.0 ∙ ap (λ (p : Property). p.id) (sym
                  same)),
            );
          }
      | inr high ↦
          let k : ℕ = i - length old in
          let at : length old + k ≡ i = omega arith in
          let behind = sym (from_behind old last k) ∙ (ap (slice_get (old ++ last)) at ∙ here) in
          let put = last_from (list_any is_title_property (property_values b)) title k property behind in
          let first = put.1.0 in
          let long = length-title_value title in
          record {
            some = subst (λ (p : Property). 1 ≤ length p.value) put.1.1 (omega arith);
            from = inr (
              omega arith,
              (omega arith, (sym (ap (λ (p : Property). p.id) put.1.1), put.0)),
            );
          }
    ]

-- where none is the title, no pair has its id
none_titled : (values : List Property) (i : ℕ) (property : Property) → list_any is_title_property values ≡ false →
    slice_get values
    i ≡ Some property → property.id ≢ 2
none_titled [] i property none here = absurd (cc (here))
none_titled (x ∷ xs) zero property none here =
    let w = neither (is_title_property x) (list_any is_title_property xs) none in
    let same = same_Some x property here in
    λ e. eqb-false x.id 2 w.0 (ap (λ (p : Property). p.id) same ∙ e)
none_titled (x ∷ xs) (suc i) property none here =
    let w = neither (is_title_property x) (list_any is_title_property xs) none in
    none_titled xs i property w.1 here

small_id : (b title : List ℕ) (i : ℕ) (property : Property) → AreBytes b → ComesFrom b title i property →
    property.id < 2 ^
    32
small_id b title i property bytes source = elim source.from [
  | inl pair ↦
      let bound = number_at-bound b (first_set_begin b + 8 + 8 * i) 4 bytes in
      let same = pair.1 in
      omega arith
  | inr last ↦ let same = last.1.1.0 in omega arith
]

two_apart : (b title : List ℕ) (i j : ℕ) (property later : Property) → IsPropertySet b → i < j → ComesFrom b title i
    property → ComesFrom b title j later → property.id ≢ later.id
two_apart b title i j property later formed h one two = elim two.from [
  | inl q ↦ elim one.from [
    | inl p ↦ λ e. (pair_of_rules b j formed.1 q.0).new_id i h (sym p.1 ∙ (e ∙ q.1))
    | inr p ↦ let low = q.0 in let high = p.0 in absurd (omega arith)
  ]
  | inr q ↦ elim one.from [
    | inl p ↦ λ e.
        let at = there_is (property_values b) i (omega (
          arith,
          p.0,
          length-map (pairs_in_stream b) (property_of b),
          length-map-range_with_len (pair_at b) 0 (pair_count b),
        )) in
        let pair = of_pair b i at.0 at.1 in
        none_titled (property_values b) i at.0 q.1.1.1 at.1 (ap (λ (p : Property). p.id) (sym pair.is)
        ∙ (sym p.1 ∙ (e ∙ q.1.1.0)))
    | inr p ↦ let low = q.1.0 in let high = p.0 in absurd (omega arith)
  ]
]

pub writable : (b title : List ℕ) → IsAsked b title → AreWritable (kept_bytes b) (retitled (property_values b) title)
writable b title asked =
    let formed = asked.formed in
    let head = head_of_rules b formed.0 in
    let long = head.long in
    let one = length-range b 2 24 (omega arith) in
    let two = length-range b 28 44 (omega arith) in
    record {
      system = omega arith;
      format = omega arith;
      ids = λ i property here. small_id b title i property asked.bytes (comes_from b title i property formed here);
      some = λ i property here. (comes_from b title i property formed here).some;
      apart = λ i j property later h here there.
          two_apart b title i j property later formed h (comes_from b title i property formed here)
          (comes_from b title j
          later formed there);
      fits = retitled_fits b title formed asked.short asked.short_title;
    }

-- a stream with another title keeps all other properties
pub kept_with_title : (b title : List ℕ) → IsAsked b title → HasSameProperties b (retitled_stream b title) title
kept_with_title b title asked = read_back (kept_bytes b) (retitled (property_values b) title) (writable b title asked)
