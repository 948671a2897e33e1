-- How many bytes the values of a set have.
use Rattle.std.proofs.Common.{◌≡◌, ℕ, ◌+◌, ◌-◌, ◌≤◌, Bool, true, false, List, [], ◌∷◌, length, refl, arith}
use Rattle.std.specs.Prelude.{◌==◌, if◌then◌else◌, nat_le, Option, Some, None}
use Rattle.std.specs.List.{sum_by}
use Rattle.std.proofs.lemmas.List.Sums.{sum_by-cons}
use Rattle.std.proofs.lemmas.Bool.{leb-true}
use Rattle.property_sets.specs.declared.property.Property.{Property}
use Rattle.property_sets.specs.declared.property.TypedValue.{TypedValue}
use Rattle.property_sets.specs.declared.set.PropertyPair.{PropertyPair}
use Rattle.property_sets.specs.Sets.{pairs_of}
use Rattle.property_sets.specs.Values.{value_at}
use Rattle.property_sets.specs.Properties.{limited, properties_within, value_len, typed_value_of}
use Rattle.property_sets.specs.Laws.{ValuesAreBounded}

chosen_short : (is : Bool) (room : ℕ) (value : TypedValue) → (is ≡ true → length value.bytes ≤ room) →
    value_len (if is then Some value else None) ≤ room
chosen_short true room value short = short refl
chosen_short false room value short = omega arith

limited_short : (room : ℕ) (found : Option TypedValue) → value_len (limited room found) ≤ room
limited_short room None = omega arith
limited_short room (Some value) =
    chosen_short (nat_le (length value.bytes) room) room value (leb-true (length value.bytes) room)

dictionary_short : (is : Bool) (room : ℕ) (found : Option TypedValue) → value_len found ≤ room →
    value_len (if is then None else found) ≤ room
dictionary_short true room found short = omega arith
dictionary_short false room found short = short

value_short : (set : List ℕ) (room : ℕ) (pair : PropertyPair) → value_len (typed_value_of set room pair) ≤ room
value_short set room pair =
    dictionary_short (pair.id == 0) room (limited room (value_at set pair.offset))
    (limited_short room (value_at set pair.offset))

abbrev property_len : Property → ℕ
property_len property = value_len property.value

empty_room : (set : List ℕ) (room : ℕ) → sum_by property_len (properties_within set room []) ≡ 0
unfolding properties_within
empty_room set room = refl

first_room : (set : List ℕ) (room : ℕ) (pair : PropertyPair) (rest : List PropertyPair) →
    sum_by property_len (properties_within set room (pair ∷ rest)) ≡ value_len (typed_value_of set room pair)
    + sum_by property_len (properties_within set (room - value_len (typed_value_of set room pair)) rest)
unfolding properties_within
first_room set room pair rest =
    let value = typed_value_of set room pair in
    sum_by-cons property_len (record { id = pair.id; value = value })
    (properties_within set (room - value_len value) rest)

within_room : (set : List ℕ) (room : ℕ) (pairs : List PropertyPair) →
    sum_by property_len (properties_within set room pairs) ≤ room
within_room set room [] = omega (arith, empty_room set room)
within_room set room (pair ∷ rest) =
    let less = room - value_len (typed_value_of set room pair) in
    omega (arith, first_room set room pair rest, value_short set room pair, within_room set less rest)

pub values_bounded : ValuesAreBounded
values_bounded set = within_room set (length set) (pairs_of set)
