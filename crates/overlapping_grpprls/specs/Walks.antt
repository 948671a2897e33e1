-- Lists in a stream that lie over one another, and walks from entry to entry.
use Rattle.std.specs.Prelude.{◌≡◌, ℕ, ◌-◌, ◌≤◌, List, length, drop, slice_get, slice_range, Some}
use Rattle.std.specs.List.{All}
use Rattle.sprm_table.specs.Codes.{IsRefusedIn}
use Rattle.sprm_table.specs.Cursor.{IsPrlAt}
use Rattle.sprm_table.specs.Sprm.{Prl, SpellsUpTo, EndsSprmList, IsAcceptedList}
use Rattle.overlapping_grpprls.specs.declared.ranges.ListRange.{ListRange}
use Rattle.overlapping_grpprls.specs.declared.walk.WalkEntry.{WalkEntry}

-- the bytes of a list
abbrev pub list_bytes_at : List ℕ → ListRange → List ℕ
list_bytes_at stream range = slice_range stream range.from range.to

-- the list is accepted
abbrev pub IsAcceptedRange : List ℕ → ℕ → ListRange → Type 0
IsAcceptedRange stream groups range = IsAcceptedList (list_bytes_at stream range) groups

-- the code and the value of an entry
abbrev pub prl_of : List ℕ → WalkEntry → Prl
prl_of stream entry = (entry.code.0, slice_range stream entry.from entry.to)

-- the entry is at the place, and is not refused
pub record IsWalkEntry (stream : List ℕ) (groups at : ℕ) (entry : WalkEntry) : Type 0 where
  pub place : entry.at ≡ at
  pub here : IsPrlAt stream at entry.code.0 entry.from entry.to
  pub accepted : ¬ (IsRefusedIn groups entry.code.0)

-- the entries of a list fill the bytes from the one place to the other, and none is refused
pub record Leads (stream : List ℕ) (groups from at : ℕ) (list : List Prl) : Type 0 where
  pub order : from ≤ at
  pub front : SpellsUpTo (drop from stream) (at - from) list
  pub accepted : All (λ prl. ¬ (IsRefusedIn groups prl.0)) list

-- from a place whole entries lead to another
pub record LeadsFrom (stream : List ℕ) (groups at from : ℕ) : Type 0 where
  pub list : List Prl
  pub leads : Leads stream groups from at list

-- a walk came by these places, and is at this one
pub record IsPrlWalk (stream : List ℕ) (groups at : ℕ) (places : List ℕ) : Type 0 where
  pub within : at ≤ length stream
  pub reached : All (LeadsFrom stream groups at) places

-- the place is one of these
pub record IsAmongPlaces (places : List ℕ) (place : ℕ) : Type 0 where
  pub number : ℕ
  pub here : slice_get places number ≡ Some place

-- a walk came by the list, and the list ends where the walk is
pub record ComesBy (stream : List ℕ) (range : ListRange) (at : ℕ) (places : List ℕ) : Type 0 where
  pub there : IsAmongPlaces places range.from
  pub order : at ≤ range.to
  pub ends : EndsSprmList (slice_range stream at range.to)
