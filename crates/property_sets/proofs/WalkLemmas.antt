-- Walks over the pairs of a set, and over the entries of a dictionary.
use Rattle.std.proofs.Common.{◌≡◌, ◌∙◌, ℕ, zero, suc, ◌+◌, ◌-◌, ◌<◌, List, [], ◌∷◌, ◌++◌, true, false, map}
use Rattle.std.proofs.Common.{append_assoc, append-nil, arith, refl, sym, ap, subst}
use Rattle.std.specs.Prelude.{◌==◌, Bool, find, Option, Some, None}
use Rattle.std.specs.List.{range_with_len}
use Rattle.property_sets.specs.declared.property.Property.{Property}
use Rattle.property_sets.specs.declared.property.TypedValue.{TypedValue}
use Rattle.property_sets.specs.declared.dictionary.PropertyName.{PropertyName}
use Rattle.property_sets.specs.declared.set.PropertyPair.{PropertyPair}
use Rattle.property_sets.specs.Sets.{pair_at, pair_count}
use Rattle.property_sets.specs.Properties.{properties_within, value_len, typed_value_of}
use Rattle.property_sets.specs.Names.{has_entry, property_name_at, names_at, next_entry}

-- the pairs from one on
abbrev pub pairs_from : List ℕ → ℕ → List PropertyPair
pairs_from set i = map (pair_at set) (range_with_len i (pair_count set - i))

pairs_below : List ℕ → ℕ → ℕ → List PropertyPair
pairs_below set i n = map (pair_at set) (range_with_len i n)

-- one pair, and those behind it
pub pairs_from-more : (set : List ℕ) (i : ℕ) → i < pair_count set →
    pairs_from set i ≡ pair_at set i ∷ pairs_from set (i + 1)
unfolding pairs_below
pairs_from-more set i below =
    let e : pair_count set - i ≡ suc (pair_count set - (i + 1)) = omega arith in ap (pairs_below set i) e

pub pairs_from-end : (set : List ℕ) (i : ℕ) → pair_count set ≡ i → pairs_from set i ≡ []
unfolding pairs_below
pairs_from-end set i all =
    let e : pair_count set - i ≡ 0 = omega arith in ap (pairs_below set i) e

-- ---- properties

-- the property of a pair
abbrev pub property_of : List ℕ → ℕ → PropertyPair → Property
property_of set room pair = record { id = pair.id; value = typed_value_of set room pair }

pub same_property : {id other : ℕ} {value found : Option TypedValue} → id ≡ other → value ≡ found →
    (let p : Property = record { id = id; value = value } in p) ≡ record { id = other; value = found }
same_property ids values = cc

properties_cons : (set : List ℕ) (room : ℕ) (pair : PropertyPair) (rest : List PropertyPair) →
    properties_within set room (pair ∷ rest)
    ≡ property_of set room pair ∷ properties_within set (room - value_len (typed_value_of set room pair)) rest
unfolding properties_within
properties_cons set room pair rest = refl

-- one property more was read
pub properties_step : (all found : List Property) (set : List ℕ) (i room left : ℕ) (property : Property) →
    i < pair_count set → all ≡ found ++ properties_within set room (pairs_from set i) →
    property ≡ property_of set room (pair_at set i) →
    left ≡ room - value_len (typed_value_of set room (pair_at set i)) →
    all ≡ (found ++ property ∷ []) ++ properties_within set left (pairs_from set (i + 1))
properties_step all found set i room left property below was is less =
    let rest = pairs_from set (i + 1) in
    was
    ∙ ap (λ (pairs : List PropertyPair). found ++ properties_within set room pairs) (pairs_from-more set i below)
    ∙ ap (λ (more : List Property). found ++ more) (properties_cons set room (pair_at set i) rest)
    ∙ ap (λ (r : ℕ). found ++ property_of set room (pair_at set i) ∷ properties_within set r rest) (sym less)
    ∙ ap (λ (p : Property). found ++ p ∷ properties_within set left rest) (sym is)
    ∙ sym (append_assoc found (property ∷ []) (properties_within set left rest))

properties_nil : (set : List ℕ) (room : ℕ) → properties_within set room [] ≡ []
unfolding properties_within
properties_nil set room = refl

-- all were read
pub properties_end : (all found : List Property) (set : List ℕ) (i room : ℕ) → pair_count set ≡ i →
    all ≡ found ++ properties_within set room (pairs_from set i) → found ≡ all
properties_end all found set i room last was =
    sym (was
    ∙ ap (λ (pairs : List PropertyPair). found ++ properties_within set room pairs) (pairs_from-end set i last)
    ∙ ap (λ (more : List Property). found ++ more) (properties_nil set room)
    ∙ append-nil found)

-- ---- the dictionary

abbrev pub names_dictionary : PropertyPair → Bool
names_dictionary pair = pair.id == 0

find_first : (pair : PropertyPair) (rest : List PropertyPair) → names_dictionary pair ≡ true →
    find names_dictionary (pair ∷ rest) ≡ Some pair
find_first pair rest names = rw names refl

find_next : (pair : PropertyPair) (rest : List PropertyPair) → names_dictionary pair ≡ false →
    find names_dictionary (pair ∷ rest) ≡ find names_dictionary rest
find_next pair rest other = rw other refl

-- this pair names it
pub dictionary_here : (set : List ℕ) (i : ℕ) (pair : PropertyPair) → i < pair_count set → pair ≡ pair_at set i →
    names_dictionary pair ≡ true → find names_dictionary (pairs_from set i) ≡ Some pair
dictionary_here set i pair below is names =
    ap (find names_dictionary) (pairs_from-more set i below)
    ∙ subst (λ (p : PropertyPair). find names_dictionary (p ∷ pairs_from set (i + 1)) ≡ Some pair) is
    (find_first pair (pairs_from set (i + 1)) names)

-- this pair does not
pub dictionary_later : (set : List ℕ) (i : ℕ) (pair : PropertyPair) → i < pair_count set → pair ≡ pair_at set i →
    names_dictionary pair ≡ false →
    find names_dictionary (pairs_from set i) ≡ find names_dictionary (pairs_from set (i + 1))
dictionary_later set i pair below is other =
    ap (find names_dictionary) (pairs_from-more set i below)
    ∙ subst
    (λ (p : PropertyPair).
    find names_dictionary (p ∷ pairs_from set (i + 1)) ≡ find names_dictionary (pairs_from set (i + 1))) is
    (find_next pair (pairs_from set (i + 1)) other)

pub dictionary_nowhere : (set : List ℕ) (i : ℕ) → pair_count set ≡ i → find names_dictionary (pairs_from set i) ≡ None
dictionary_nowhere set i last = ap (find names_dictionary) (pairs_from-end set i last)

-- ---- its entries

names_more : (set : List ℕ) (wide : Bool) (n at : ℕ) → has_entry set wide at ≡ true →
    names_at set wide (suc n) at ≡ property_name_at set wide at ∷ names_at set wide n (next_entry set wide at)
unfolding names_at
names_more set wide n at there = rw there refl

names_none : (set : List ℕ) (wide : Bool) (n at : ℕ) → has_entry set wide at ≡ false → names_at set wide n at ≡ []
unfolding names_at
names_none set wide zero at other = refl
names_none set wide (suc n) at other = rw other refl

names_zero : (set : List ℕ) (wide : Bool) (at : ℕ) → names_at set wide 0 at ≡ []
unfolding names_at
names_zero set wide at = refl

-- one entry more was read
pub names_step : (all found : List PropertyName) (set : List ℕ) (wide : Bool) (left less at next : ℕ)
    (name : PropertyName) → left ≡ suc less → has_entry set wide at ≡ true → name ≡ property_name_at set wide at →
    next ≡ next_entry set wide at → all ≡ found ++ names_at set wide left at →
    all ≡ (found ++ name ∷ []) ++ names_at set wide less next
names_step all found set wide left less at next name fewer there is behind was =
    was
    ∙ ap (λ (n : ℕ). found ++ names_at set wide n at) fewer
    ∙ ap (λ (more : List PropertyName). found ++ more) (names_more set wide less at there)
    ∙ ap (λ (n : ℕ). found ++ property_name_at set wide at ∷ names_at set wide less n) (sym behind)
    ∙ ap (λ (n : PropertyName). found ++ n ∷ names_at set wide less next) (sym is)
    ∙ sym (append_assoc found (name ∷ []) (names_at set wide less next))

-- all were read
pub names_end : (all found : List PropertyName) (set : List ℕ) (wide : Bool) (left at : ℕ) → left ≡ 0 →
    all ≡ found ++ names_at set wide left at → found ≡ all
names_end all found set wide left at none was =
    sym (was
    ∙ ap (λ (n : ℕ). found ++ names_at set wide n at) none
    ∙ ap (λ (more : List PropertyName). found ++ more) (names_zero set wide at)
    ∙ append-nil found)

-- the next one leaves the set
pub names_cut : (all found : List PropertyName) (set : List ℕ) (wide : Bool) (left at : ℕ) →
    has_entry set wide at ≡ false → all ≡ found ++ names_at set wide left at → found ≡ all
names_cut all found set wide left at other was =
    sym (was
    ∙ ap (λ (more : List PropertyName). found ++ more) (names_none set wide left at other)
    ∙ append-nil found)
