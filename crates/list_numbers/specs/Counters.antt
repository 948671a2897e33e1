-- Nine counters a list, one for each level, kept as one list of numbers.
use Rattle.std.specs.Prelude.{◌≡◌, ◌≢◌, ℕ, ◌+◌, ◌*◌, ◌<◌, ◌≤◌, List, length, slice_index, Option}
use Rattle.list_numbers.specs.declared.list_place.ListPlace.{ListPlace}
use Rattle.list_numbers.specs.Counts.{count_at}

-- the counter of a level of a list
abbrev pub counter : List ℕ → ℕ → ℕ → ℕ
counter counts list level = slice_index counts (9 * list + level)

-- a paragraph was counted: its level has one more, the levels above it begin anew, and all others stay
pub record CountsParagraph (place : ListPlace) (old new : List ℕ) : Type 0 where
  pub size : length new ≡ length old
  pub own : counter new place.list place.level ≡ counter old place.list place.level + 1
  pub above : (level : ℕ) → place.level < level → level < 9 → counter new place.list level ≡ 0
  pub below : (level : ℕ) → level < place.level → counter new place.list level ≡ counter old place.list level
  pub others : (list level : ℕ) → level < 9 → list ≢ place.list → counter new list level ≡ counter old list level

-- each counter says how far its list has counted at its level, which is no further than there are paragraphs
pub record HaveCounted (places : List (Option ListPlace)) (lists : ℕ) (counts : List ℕ) : Type 0 where
  pub size : length counts ≡ 9 * lists
  pub each :
      (list level : ℕ) → list < lists → level < 9 →
      (counter counts list level ≡ count_at places list level) × (count_at places list level ≤ length places)
