-- The lines of an outline: the main paragraphs that have a number, or a level in the outline.
use Rattle.std.specs.Prelude.{◌≡◌, ℕ, ◌-◌, nat_le, ◌||◌, false, is_some, if◌then◌else◌, List, [], ◌++◌, length, map}
use Rattle.std.specs.Prelude.{take, slice_get, codes, Option, Some, None}
use Rattle.std.specs.List.{flat_map, enumerate_from}
use Rattle.std.specs.Fmt.{decimal}
use Rattle.text_codes.specs.Shown.{shown_text}
use Rattle.doc_model.specs.declared.item.Item.{Item}
use Rattle.doc_model.specs.declared.document.Document.{Document}
use Rattle.list_numbers.specs.declared.mark_values.MarkValues.{MarkValues}
use Rattle.list_numbers.specs.Places.{paragraphs}
use Rattle.list_numbers.specs.Numbers.{AreDocumentValues, numbers_of}

-- a level in the outline is 0 to 8
abbrev pub outline_level : Option ℕ → Option ℕ
outline_level None = None
outline_level (Some level) = if nat_le level 8 then Some level else None

abbrev pub level_word : Option ℕ → List ℕ
level_word None = codes "-"
level_word (Some level) = decimal level

abbrev pub number_word : Option (List ℕ) → List ℕ
number_word None = codes "-"
number_word (Some units) = shown_text false units

-- the units before the mark
abbrev pub bare_units : List Item → List ℕ
bare_units paragraph = map (λ item. item.unit) (take (length paragraph - 1) paragraph)

-- the index, the level in the outline, the number, the text of these units
abbrev pub units_line : ℕ → Option ℕ → Option (List ℕ) → List ℕ → List ℕ
units_line index level number units =
    if is_some level || is_some number then decimal index ++ (codes " " ++ (level_word level ++ (codes " "
    ++ (number_word number ++ (codes " | " ++ (shown_text false units ++ codes "\n")))))) else []

abbrev pub outline_line : ℕ → Option ℕ → Option (List ℕ) → List Item → List ℕ
outline_line index level number paragraph = units_line index level number (bare_units paragraph)

abbrev pub level_at_entry : Option MarkValues → Option ℕ
level_at_entry None = None
level_at_entry (Some values) = outline_level values.outline

abbrev pub number_at_entry : Option (Option (List ℕ)) → Option (List ℕ)
number_at_entry None = None
number_at_entry (Some number) = number

-- the line of a paragraph by its index, where these are the values and numbers
abbrev pub paragraph_line : List MarkValues → List (Option (List ℕ)) → ℕ × List Item → List ℕ
paragraph_line values numbers (index, paragraph) =
    outline_line index (level_at_entry (slice_get values index)) (number_at_entry (slice_get numbers index)) paragraph

-- the lines of paragraphs with these values and numbers
abbrev pub outline_of : List (List Item) → List MarkValues → List (Option (List ℕ)) → List ℕ
outline_of texts values numbers = flat_map (paragraph_line values numbers) (enumerate_from 0 texts)

-- the text has the lines of the main paragraphs
pub record AreOutlineLines (document : Document) (text : List ℕ) : Type 0 where
  pub values : List MarkValues
  pub are : AreDocumentValues document values
  pub lines : text ≡ outline_of (paragraphs document.main) values (numbers_of document values)
