-- The values of a property set. No order of the offsets is made: a value ends at the least offset above its own.
use Rattle.std.specs.Prelude.{◌≡◌, ℕ, ◌+◌, min, List, map, filter, nat_lt, slice_range, fold, IsPermutation, IsSorted}
use Rattle.std.specs.Ordering.{nat_cmp}
use Rattle.summary_set.specs.declared.set.PropertyPair.{PropertyPair}
use Rattle.summary_set.specs.declared.set.PropertySet.{PropertySet}
use Rattle.summary_set.specs.declared.values.Property.{Property}
use Rattle.summary_set.specs.PropertySet.{first_set_begin, first_set_size, pairs_in_stream, offsets_of}

-- the end of a value in the set: the least offset above its own, or the size
abbrev pub value_end : List ℕ → ℕ → ℕ → ℕ
value_end offsets size offset = fold min size (filter (nat_lt offset) offsets)

-- the bytes of the value that a pair names
abbrev pub pair_value_bytes : List ℕ → PropertyPair → List ℕ
pair_value_bytes b pair =
    slice_range b (first_set_begin b + pair.offset) (first_set_begin b + value_end (offsets_of b) (first_set_size b)
    pair.offset)

abbrev pub property_of : List ℕ → PropertyPair → Property
property_of b pair = record { id = pair.id; value = pair_value_bytes b pair }

-- the properties, in the order of the pairs
abbrev pub property_values : List ℕ → List Property
property_values b = map (property_of b) (pairs_in_stream b)

-- a set as it is decoded: the pairs in their order, and their offsets in ascending order
pub record IsDecodedSet (b : List ℕ) (set : PropertySet) : Type 0 where
  pub begin : set.begin ≡ first_set_begin b
  pub size : set.size ≡ first_set_size b
  pub pairs : set.pairs.items ≡ pairs_in_stream b
  pub offsets : IsPermutation (offsets_of b) set.offsets.items
  pub ascending : IsSorted nat_cmp set.offsets.items
