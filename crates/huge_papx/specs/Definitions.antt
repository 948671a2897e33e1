-- Definitions of tables in the stream Data: what a list there says of a row.
use Rattle.std.specs.Prelude.{◌≡◌, ◌↔◌, ℕ, ◌+◌, ◌*◌, ◌<◌, ◌≤◌, List, [], ◌∷◌, length, take, nat_le, slice_index, IsTrue}
use Rattle.std.specs.Prelude.{slice_index_or, if◌then◌else◌, Option, Some, None, MatchOption}
use Rattle.huge_papx.specs.declared.lists.Sought.TheVariants.{RowEnd, Definition}
use Rattle.huge_papx.specs.declared.definitions.RowDefinition.{RowDefinition}
use Rattle.huge_papx.specs.Data.{IsPrcAt}
use Rattle.huge_papx.specs.Lists.{HasLastValue}

-- [MS-DOC] TDefTableOperand: itcMac, and where its cells begin and end
abbrev pub places_length : List ℕ → ℕ
places_length value = 2 * slice_index value 0 + 3

pub record HasCellPlaces (value : List ℕ) : Type 0 where
  pub some : 0 < length value
  pub whole : places_length value ≤ length value

-- Profile: of more than 460 bytes the places of the cells stay, and what else is said of each cell goes
abbrev pub cells_kept : List ℕ → List ℕ
cells_kept value = if nat_le (length value) 460 then value else take (places_length value) value

-- the list at the place of Data defines the cells of a table, and says or does not say that the mark ends a row
pub record IsRowDefinition (stream : List ℕ) (at : ℕ) (definition : RowDefinition) : Type 0 where
  pub list : List ℕ
  pub prc : IsPrcAt stream at list
  pub value : List ℕ
  pub has : HasLastValue Definition list value
  pub whole : HasCellPlaces value
  pub cells_are : definition.cells ≡ cells_kept value
  pub ends : IsTrue definition.ends_row ↔ HasLastValue RowEnd list (1 ∷ [])

abbrev pub IsNoDefinition : List ℕ → ℕ → Type 0
IsNoDefinition stream at = (definition : RowDefinition) → ¬ IsRowDefinition stream at definition

-- the definition at a place, where one is named and has one
abbrev pub IsDefinitionOf : List ℕ → Option ℕ → Option RowDefinition → Type 0
IsDefinitionOf stream None found = found ≡ None
IsDefinitionOf stream (Some at) found = MatchOption found (IsNoDefinition stream at) (IsRowDefinition stream at)

-- of each of these places
pub record AreDefinitions (stream : List ℕ) (offsets : List (Option ℕ)) (found : List (Option RowDefinition)) :
    Type 0 where
  pub len : length found ≡ length offsets
  pub each :
      (k : ℕ) → k < length offsets →
      IsDefinitionOf stream (slice_index_or offsets k None) (slice_index_or found k None)
