-- How far a list has counted at a level: the paragraphs of the list at the level since the last one of the list at a
-- lower level. No counter is carried.
use Rattle.std.specs.Prelude.{ℕ, ◌-◌, ◌==◌, ◌&&◌, nat_lt, not, max, Bool, false, List}
use Rattle.std.specs.Prelude.{reverse, Option, Some, None, ℤ, pos}
use Rattle.std.specs.Prelude.{◌+ℤ◌}
use Rattle.std.specs.List.{count_by, take_while}
use Rattle.list_numbers.specs.declared.level.Level.{Level}
use Rattle.list_numbers.specs.declared.list_place.ListPlace.{ListPlace}

-- the paragraph is of the list, at the level
abbrev pub is_at : ℕ → ℕ → Option ListPlace → Bool
is_at list level None = false
is_at list level (Some place) = (place.list == list) && (place.level == level)

-- the paragraph is of the list, at a lower level
abbrev pub is_lower_level : ℕ → ℕ → Option ListPlace → Bool
is_lower_level list level None = false
is_lower_level list level (Some place) = (place.list == list) && nat_lt place.level level

-- the places since the last paragraph of the list at a lower level, the last one first
abbrev pub since : List (Option ListPlace) → ℕ → ℕ → List (Option ListPlace)
since places list level = take_while (λ place. not (is_lower_level list level place)) (reverse places)

-- how many paragraphs of the list are there at the level
unfoldable pub count_at : List (Option ListPlace) → ℕ → ℕ → ℕ
count_at places list level = count_by (is_at list level) (since places list level)

-- [MS-DOC] LVLF.iStartAt: the first paragraph has the start value; so has a level that was not met
abbrev pub list_value : Level → ℕ → ℤ
list_value level count = level.start +ℤ pos (max count 1 - 1)
