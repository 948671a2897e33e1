-- The properties of a set, in the order of its pairs.
use Rattle.std.specs.Prelude.{ℕ, ◌-◌, ◌==◌, if◌then◌else◌, nat_le, List, [], ◌∷◌, length, Option, Some, None}
use Rattle.property_sets.specs.declared.property.Property.{Property}
use Rattle.property_sets.specs.declared.property.TypedValue.{TypedValue}
use Rattle.property_sets.specs.declared.set.PropertyPair.{PropertyPair}
use Rattle.property_sets.specs.Sets.{pairs_of}
use Rattle.property_sets.specs.Values.{value_at}

-- a value that is not longer than what room is left
abbrev pub limited : ℕ → Option TypedValue → Option TypedValue
limited room None = None
limited room (Some value) = if nat_le (length value.bytes) room then Some value else None

abbrev pub value_len : Option TypedValue → ℕ
value_len None = 0
value_len (Some value) = length value.bytes

-- the value that a pair names. The property 0 is a dictionary, which has no type
abbrev pub typed_value_of : List ℕ → ℕ → PropertyPair → Option TypedValue
typed_value_of set room pair = if pair.id == 0 then None else limited room (value_at set pair.offset)

-- Profile: values that lie over one another are read as long as all together are not longer than the room
unfoldable pub properties_within : List ℕ → ℕ → List PropertyPair → List Property
properties_within set room [] = []
properties_within set room (pair ∷ rest) =
    (record { id = pair.id; value = typed_value_of set room pair })
    ∷ properties_within set (room - value_len (typed_value_of set room pair)) rest

-- the properties of a set: their values have no more bytes in all than the set
abbrev pub properties_of_set : List ℕ → List Property
properties_of_set set = properties_within set (length set) (pairs_of set)
