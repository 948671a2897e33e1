-- The last entries that a walk came by, one a code, and the maps of lists that end where it is.
use Rattle.std.specs.Prelude.{◌≡◌, ℕ, ◌<◌, ◌≤◌, leb, List, length, map, ◌++◌, Some, None, slice_get}
use Rattle.std.specs.List.{All, filter}
use Rattle.std.specs.FinMap.{empty}
use Rattle.sprm_table.specs.Sprm.{Prl, SpellsSprmList}
use Rattle.prop_map.specs.Settings.{Properties}
use Rattle.prop_map.specs.Formed.{IsPropertyMap}
use Rattle.prop_map.specs.Acting.{value_after, ArePropertiesAfter}
use Rattle.overlapping_grpprls.specs.declared.ranges.ListRange.{ListRange}
use Rattle.overlapping_grpprls.specs.declared.walk.WalkEntry.{WalkEntry}
use Rattle.overlapping_grpprls.specs.declared.maps.WalkedMap.{WalkedMap}
use Rattle.overlapping_grpprls.specs.Walks.{list_bytes_at, prl_of, IsWalkEntry, Leads}

-- what a list makes of no properties
pub record IsMadeBy (list : List ℕ) (groups : ℕ) (made : Properties) : Type 0 where
  pub prls : List Prl
  pub spelt : SpellsSprmList list prls
  pub acted : ArePropertiesAfter prls groups empty made
  pub formed : IsPropertyMap groups made

-- the map of a list
abbrev pub IsWalkedMap : List ℕ → ℕ → WalkedMap → Type 0
IsWalkedMap stream groups walked = IsMadeBy (list_bytes_at stream walked.range) groups walked.map

-- of the entries that were kept, those from a place on
abbrev pub kept_from : List ℕ → ℕ → List WalkEntry → List Prl
kept_from stream from kept = map (prl_of stream) (filter (λ entry. leb from entry.at) kept)

-- an entry that was kept is before the place
pub record IsKeptEntry (stream : List ℕ) (groups at : ℕ) (entry : WalkEntry) : Type 0 where
  pub is : IsWalkEntry stream groups entry.at entry
  pub before : entry.at < at

-- the kept entries from a place on act as all the entries from there to the other
pub record IsKeptFrom (stream : List ℕ) (groups : ℕ) (kept : List WalkEntry) (at from : ℕ) : Type 0 where
  pub list : List Prl
  pub leads : Leads stream groups from at list
  pub same : (code : ℕ) → value_after list groups code None ≡ value_after (kept_from stream from kept) groups code None

-- a walk came by these places, is at this one, and keeps these entries
pub record IsKeeping (stream : List ℕ) (groups at : ℕ) (places : List ℕ) (kept : List WalkEntry) : Type 0 where
  pub within : at ≤ length stream
  pub each : All (IsKeptFrom stream groups kept at) places
  pub entries : All (IsKeptEntry stream groups at) kept

-- an entry of the code was let go, or nothing
pub record IsForgotten (old : List WalkEntry) (code : ℕ) (rest : List WalkEntry) : Type 0 where
  pub front : List WalkEntry
  pub gone : List WalkEntry
  pub back : List WalkEntry
  pub was : old ≡ front ++ (gone ++ back)
  pub is : rest ≡ front ++ back
  pub code_of : All (λ entry. entry.code.0 ≡ code) gone

-- an entry of the code is there
pub record HasCode (kept : List WalkEntry) (code number : ℕ) : Type 0 where
  pub entry : WalkEntry
  pub here : slice_get kept number ≡ Some entry
  pub code_is : entry.code.0 ≡ code

-- the kept entries from the beginning of a list on make its map
pub record AreKeptOf (stream : List ℕ) (groups : ℕ) (range : ListRange) (kept : List WalkEntry) : Type 0 where
  pub at : ℕ
  pub entries : All (IsKeptEntry stream groups at) kept
  pub made_by :
      (made : Properties) → ArePropertiesAfter (kept_from stream range.from kept) groups empty made →
      IsPropertyMap groups made → IsMadeBy (list_bytes_at stream range) groups made
