-- Glyphs that are units.
use Rattle.std.specs.Prelude.{ℕ, List, map, Option, Some, None}
use Rattle.view_paths.specs.Events.{Event, Leaf}
use Rattle.view_paths.specs.Paths.{PathPlace}
use Rattle.view_places.specs.declared.element.Element.{Element}
use Rattle.view_places.specs.declared.glyph.Glyph.{Glyph}
use Rattle.view_places.specs.declared.glyph.Glyph.TheVariants.{Unit, Tab, LineBreak, PageBreak, NoteMark, Picture}
use Rattle.view_places.specs.declared.glyph.Glyph.TheVariants.{Object}

-- the unit that a glyph is
abbrev pub unit_in : Glyph → Option ℕ
unit_in (Unit unit) = Some unit
unit_in Tab = None
unit_in LineBreak = None
unit_in PageBreak = None
unit_in (NoteMark number) = None
unit_in (Picture place) = None
unit_in Object = None

-- the places of units on one path
abbrev pub unit_place : List Element → ℕ → PathPlace Element Glyph
unit_place path unit = record { path = path; glyph = Some (Unit unit) }

abbrev pub unit_places : List Element → List ℕ → List (PathPlace Element Glyph)
unit_places path units = map (unit_place path) units

-- what is shown of them
abbrev pub leaves : List Element → List ℕ → List (Event Element Glyph)
leaves path units = map (λ unit. Leaf path (Unit unit)) units
