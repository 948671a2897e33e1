-- The values that a list sets, in order of their codes.
use Rattle.std.specs.Prelude.{ℕ, ◌<◌, ◌≤◌, List, length, map, slice_index_or, IsTrue}
use Rattle.std.specs.Ordering.{nat_cmp}
use Rattle.std.specs.FinMap.{is_sorted, from_sorted}
use Rattle.prop_map.specs.declared.values.SetValue.{SetValue}
use Rattle.prop_map.specs.Settings.{Properties}
use Rattle.prop_map.specs.Entries.{Entries}

-- the code and the bytes of a value
abbrev pub entry_of : SetValue → ℕ × List ℕ
entry_of set = (set.code.0, set.value.now)

abbrev pub set_value_entries : List SetValue → Entries
set_value_entries values = map entry_of values

-- the codes ascend
abbrev pub AreCodesInOrder : List SetValue → Type 0
AreCodesInOrder values = IsTrue (is_sorted nat_cmp (set_value_entries values))

-- the map of values in order
abbrev pub set_map : List SetValue → Properties
set_map values = from_sorted (set_value_entries values)

-- so many of the values have lesser codes, and the others have not
pub record IsLesserCount (values : List SetValue) (code count : ℕ) : Type 0 where
  pub inside : count ≤ length values
  pub below : (k : ℕ) (d : SetValue) → k < count → (slice_index_or values k d).code.0 < code
  pub above :
      (k : ℕ) (d : SetValue) → count ≤ k → k < length values → code ≤ (slice_index_or values k d).code.0
