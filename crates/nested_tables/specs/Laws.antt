-- What the definitions imply.
use Rattle.std.specs.Prelude.{◌≡◌, ℕ, ◌+◌, true, List, ◌∷◌, length, Some, slice_get}
use Rattle.std.specs.List.{take_while}
use Rattle.nested_tables.specs.declared.depths.Depth.{Depth}
use Rattle.nested_tables.specs.declared.walk.NestedPlace.{NestedPlace}
use Rattle.nested_tables.specs.Tables.{ends_row, reaches_depth, keeps_row, nested_place_in}

-- a row ends with the last of some paragraphs
pub record IsRowEnded (depth : ℕ) (first : Depth) (more : List Depth) : Type 0 where
  pub last : Depth
  pub there : slice_get (first ∷ more) (length more) ≡ Some last
  pub ends : ends_row depth last ≡ true

-- a paragraph, with those before it, the nearest first, and those behind it, is in a table: it is so deep; the table
-- begins with the first of those right before it that are so deep, the row with the first of those that no row ends with;
-- and a row ends with the last of those right behind it that are so deep
pub record IsInTable (depth : ℕ) (before : List Depth) (paragraph : Depth) (more : List Depth)
    (place : NestedPlace) : Type 0 where
  pub deep : reaches_depth depth paragraph ≡ true
  pub table : place.table + length (take_while (reaches_depth depth) before) ≡ length before
  pub row : place.row + length (take_while (keeps_row depth) before) ≡ length before
  pub ends : IsRowEnded depth paragraph (take_while (reaches_depth depth) more)

-- no table of a depth is there but a whole one
abbrev pub TablesAreWhole : Type 0
TablesAreWhole =
    (depth : ℕ) (before : List Depth) (paragraph : Depth) (more : List Depth) (place : NestedPlace) →
    nested_place_in depth before paragraph more ≡ Some place → IsInTable depth before paragraph more place
