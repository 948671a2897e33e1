-- The numbers of the main paragraphs.
use Rattle.std.specs.Prelude.{◌≡◌, ℕ, ◌+◌, ◌<◌, nat_lt, nat_le, if◌then◌else◌, List, [], ◌∷◌, length, take, map}
use Rattle.std.specs.Prelude.{slice_get, Option, Some, None}
use Rattle.std.specs.List.{flat_map}
use Rattle.doc_model.specs.declared.item.Item.{Item}
use Rattle.doc_model.specs.declared.document.Document.{Document}
use Rattle.list_numbers.specs.declared.number_kind.NumberKind.{NumberKind}
use Rattle.list_numbers.specs.declared.number_kind.NumberKind.TheVariants.{Decimal, Roman, Letters, Bullet, Nothing}
use Rattle.list_numbers.specs.declared.level.Level.{Level}
use Rattle.list_numbers.specs.declared.list_format.ListFormat.{ListFormat}
use Rattle.list_numbers.specs.declared.list_place.ListPlace.{ListPlace}
use Rattle.list_numbers.specs.declared.mark_values.MarkValues.{MarkValues}
use Rattle.list_numbers.specs.NumberText.{numeral_in}
use Rattle.list_numbers.specs.Lists.{list_formats_of}
use Rattle.list_numbers.specs.Places.{paragraphs, place_of_values, AreParagraphValues}
use Rattle.list_numbers.specs.Counts.{count_at, list_value}
use Rattle.doc_parts.specs.Tabulated.{tabulate}

-- the number of a level within that of a higher one: a bullet, and a level without a number, show nothing there
abbrev pub text_within : NumberKind → Level → ℕ → List ℕ
text_within Decimal level count = numeral_in level.kind (list_value level count)
text_within (Roman case) level count = numeral_in level.kind (list_value level count)
text_within (Letters case) level count = numeral_in level.kind (list_value level count)
text_within Bullet level count = []
text_within Nothing level count = []

abbrev pub level_number : Option Level → ℕ → List ℕ
level_number None count = []
level_number (Some level) count = text_within level.kind level count

-- [MS-DOC] Xst of a level: a unit below 9 represents the number of that level, where it is not above the level itself
abbrev pub placed_unit : List Level → ℕ → (ℕ → ℕ) → ℕ → List ℕ
placed_unit levels own counts unit =
    if nat_lt unit 9 then (if nat_le unit own then level_number (slice_get levels unit) (counts unit) else []) else
    unit ∷ []

abbrev pub level_units : NumberKind → List Level → ℕ → (ℕ → ℕ) → List ℕ → List ℕ
level_units Decimal levels own counts text = flat_map (placed_unit levels own counts) text
level_units (Roman case) levels own counts text = flat_map (placed_unit levels own counts) text
level_units (Letters case) levels own counts text = flat_map (placed_unit levels own counts) text
level_units Bullet levels own counts text = text
level_units Nothing levels own counts text = []

abbrev pub units_of_level : Option Level → List Level → ℕ → (ℕ → ℕ) → List ℕ
units_of_level None levels own counts = []
units_of_level (Some level) levels own counts = level_units level.kind levels own counts level.text

-- the units of a number at a level of a list, by how far each level has counted
abbrev pub number_units : List Level → ℕ → (ℕ → ℕ) → List ℕ
number_units levels own counts = units_of_level (slice_get levels own) levels own counts

abbrev pub units_in : Option ListFormat → ℕ → (ℕ → ℕ) → List ℕ
units_in None own counts = []
units_in (Some list) own counts = number_units list.levels own counts

abbrev pub number_at_place : List ListFormat → List (Option ListPlace) → Option ListPlace → Option (List ℕ)
number_at_place lists places None = None
number_at_place lists places (Some place) =
    Some (units_in (slice_get lists place.list) place.level (count_at places place.list))

abbrev pub at_entry : Option (Option ListPlace) → Option ListPlace
at_entry None = None
at_entry (Some place) = place

-- the numbers of paragraphs at these places: each by the places up to its own
abbrev pub numbers_at : List ListFormat → List (Option ListPlace) → List (Option (List ℕ))
numbers_at lists places =
    tabulate (λ i. number_at_place lists (take (i + 1) places) (at_entry (slice_get places i))) (length places)

-- each place is at one of nine levels of a list that is there
abbrev pub AreFit : List ListFormat → List (Option ListPlace) → Type 0
AreFit lists places =
    (i : ℕ) (place : ListPlace) → slice_get places i ≡ Some (Some place) →
    (place.list < length lists) × (place.level < 9)

-- the values in effect of each main paragraph
pub record AreDocumentValues (document : Document) (values : List MarkValues) : Type 0 where
  pub count : length values ≡ length (paragraphs document.main)
  pub each :
      (i : ℕ) (paragraph : List Item) (own : MarkValues) → slice_get (paragraphs document.main) i ≡ Some paragraph →
      slice_get values i ≡ Some own → AreParagraphValues document paragraph own

-- the numbers of the main paragraphs whose marks have these values
abbrev pub numbers_of : Document → List MarkValues → List (Option (List ℕ))
numbers_of document values =
    numbers_at (list_formats_of document.carried.lst document.carried.levels) (map (place_of_values document) values)

-- the numbers of the main paragraphs
pub record AreNumbers (document : Document) (numbers : List (Option (List ℕ))) : Type 0 where
  pub values : List MarkValues
  pub are : AreDocumentValues document values
  pub made : numbers ≡ numbers_of document values
