-- What the definitions imply.
use Rattle.std.specs.Prelude.{ℕ, ◌≤◌, List, length, sum_by}
use Rattle.property_sets.specs.Properties.{properties_of_set, value_len}

-- the values of a set have no more bytes in all than the set, wherever its pairs say that they are
abbrev pub ValuesAreBounded : Type 0
ValuesAreBounded = (set : List ℕ) → sum_by (λ property. value_len property.value) (properties_of_set set) ≤ length set
