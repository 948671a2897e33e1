-- What a page needs to know of each main paragraph: its level in the outline, whether a page begins with it, whether it is
-- written from right to left, and the label of its list.
use Rattle.std.specs.Prelude.{◌≡◌, ℕ, ◌+◌, ◌==◌, Bool, true, false, not, List, [], ◌∷◌, length, map, take, get_or}
use Rattle.std.specs.Prelude.{slice_get, Option, Some, None}
use Rattle.doc_model.specs.declared.document.Document.{Document}
use Rattle.list_numbers.specs.declared.number_kind.NumberKind.{NumberKind}
use Rattle.list_numbers.specs.declared.number_kind.NumberKind.TheVariants.{Decimal, Roman, Letters, Bullet, Nothing}
use Rattle.list_numbers.specs.declared.level.Level.{Level}
use Rattle.list_numbers.specs.declared.list_format.ListFormat.{ListFormat}
use Rattle.list_numbers.specs.declared.list_place.ListPlace.{ListPlace}
use Rattle.list_numbers.specs.declared.mark_values.MarkValues.{MarkValues}
use Rattle.list_numbers.specs.declared.paragraph_values.ListLabel.{ListLabel}
use Rattle.list_numbers.specs.declared.paragraph_values.ParagraphValues.{ParagraphValues}
use Rattle.symbol_fonts.specs.declared.fonts.SymbolFonts.{SymbolFonts}
use Rattle.symbol_fonts.specs.Characters.{shown_unit}
use Rattle.symbol_fonts.specs.Fonts.{symbol_font, symbol_fonts}
use Rattle.list_numbers.specs.Lists.{list_formats_of}
use Rattle.list_numbers.specs.MarkValues.{no_values}
use Rattle.list_numbers.specs.Places.{place_of_values}
use Rattle.list_numbers.specs.Counts.{count_at}
use Rattle.list_numbers.specs.Numbers.{units_in, at_entry, AreDocumentValues}
use Rattle.list_numbers.specs.Outline.{outline_level}
use Rattle.doc_parts.specs.Tabulated.{tabulate}

-- Profile: a label has at most 64 units, so that a page is as long as its document
abbrev pub most_label_units : ℕ
most_label_units = 64

-- [MS-DOC] Bool8: set by all but 0
abbrev pub is_bool8_set : Option ℕ → Bool
is_bool8_set None = false
is_bool8_set (Some byte) = not (byte == 0)

abbrev pub is_bullet_kind : NumberKind → Bool
is_bullet_kind Decimal = false
is_bullet_kind (Roman case) = false
is_bullet_kind (Letters case) = false
is_bullet_kind Bullet = true
is_bullet_kind Nothing = false

abbrev pub is_bullet_level : Option Level → Bool
is_bullet_level None = false
is_bullet_level (Some level) = is_bullet_kind level.kind

-- the level of a list
abbrev pub list_level : Option ListFormat → ℕ → Option Level
list_level None level = None
list_level (Some list) level = slice_get list.levels level

-- a label has some units
abbrev pub label_with : ℕ → Bool → List ℕ → Option ListLabel
label_with level bullet [] = None
label_with level bullet (unit ∷ units) = Some (record { level = level; is_bullet = bullet; units = unit ∷ units })

abbrev pub font_of_level : Option Level → Option ℕ
font_of_level None = None
font_of_level (Some level) = level.font

-- units as a level's font shows them
abbrev pub shown_units : SymbolFonts → Option Level → List ℕ → List ℕ
shown_units fonts level units = map (shown_unit (symbol_font fonts (font_of_level level))) units

-- the label at a level of a list, by how far each level has counted: the first units of the number, as they are shown
abbrev pub label_in : SymbolFonts → Option ListFormat → ℕ → (ℕ → ℕ) → Option ListLabel
label_in fonts list level counts =
    label_with level (is_bullet_level (list_level list level))
    (shown_units fonts (list_level list level) (take most_label_units (units_in list level counts)))

abbrev pub label_at_place : SymbolFonts → List ListFormat → List (Option ListPlace) → Option ListPlace → Option ListLabel
label_at_place fonts lists places None = None
label_at_place fonts lists places (Some place) =
    label_in fonts (slice_get lists place.list) place.level (count_at places place.list)

-- the values in effect of a mark, with the label of its paragraph
abbrev pub values_with : MarkValues → Option ListLabel → ParagraphValues
values_with values label = record {
  outline = outline_level values.outline;
  breaks_page = is_bool8_set values.breaks_page;
  right_to_left = is_bool8_set values.right_to_left;
  label = label;
}

-- the values of paragraphs at these places, whose marks have these values: each label by the places up to its own
abbrev pub all_values : SymbolFonts → List ListFormat → List (Option ListPlace) → List MarkValues → List ParagraphValues
all_values fonts lists places values =
    tabulate (λ i. values_with (get_or values i no_values) (label_at_place fonts lists (take (i + 1) places)
    (at_entry (slice_get places i)))) (length values)

-- the values of the main paragraphs whose marks have these values
abbrev pub paragraph_values_of : Document → List MarkValues → List ParagraphValues
paragraph_values_of document values =
    all_values (symbol_fonts document.carried.fonts) (list_formats_of document.carried.lst document.carried.levels)
    (map (place_of_values document) values) values

-- the values of the main paragraphs, in their order
pub record AreParagraphValuesOf (document : Document) (paragraphs : List ParagraphValues) : Type 0 where
  pub values : List MarkValues
  pub are : AreDocumentValues document values
  pub made : paragraphs ≡ paragraph_values_of document values
