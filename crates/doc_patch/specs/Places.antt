-- Places of a document that commands speak of. None is searched for: a place is a number of items before it.
use Rattle.std.specs.Prelude.{ℕ, ◌+◌, ◌<◌, ◌≤◌, List, [], Option, Some, length, take, drop, slice_get, is_some}
use Rattle.std.specs.Prelude.{option_map}
use Rattle.std.specs.Prelude.{MatchOption}
use Rattle.std.specs.Option.{unwrap_or, option_and_then}
use Rattle.std.specs.List.{position_or_len}
use Rattle.doc_bits.specs.declared.places.Story.{Story}
use Rattle.doc_bits.specs.declared.places.Story.TheVariants.{Main, Note, Head}
use Rattle.prop_map.specs.Settings.{Properties}
use Rattle.doc_model.specs.declared.item.Item.{Item}
use Rattle.doc_model.specs.declared.item.Mark.{Mark}
use Rattle.doc_model.specs.declared.document.Document.{Document}
use Rattle.plain_doc.specs.RulesOfSheet.{note_count, section_count, heads_of_sections}

-- the text of this name, where it is there
abbrev pub story_text : Document → Story → Option (List Item)
story_text document Main = Some document.main
story_text document (Note number) = slice_get document.notes number
story_text document (Head number) = slice_get document.heads number

-- the text is there, and it is such
abbrev pub HasText : Document → Story → (List Item → Type 0) → Type 0
HasText document story such = MatchOption (story_text document story) ⊥ such

-- there is an item at the range's begin, and its end is no further than the text's
abbrev pub HasRange : ℕ → ℕ → List Item → Type 0
HasRange from to text = (from < to) × (to ≤ length text)

-- its items; none where there is no such text
abbrev pub items_at : Document → Story → List Item
items_at document story = unwrap_or (story_text document story) []

-- the place of the first item with a mark, from a place on, or the end of the text
abbrev pub mark_place : List Item → ℕ → ℕ
mark_place text at = at + position_or_len (λ item. is_some item.mark) (drop at text)

-- the mark of the paragraph that holds the place
abbrev pub paragraph_mark_at : List Item → ℕ → Option Mark
paragraph_mark_at text at = option_and_then (λ item. item.mark) (slice_get text (mark_place text at))

-- the unit that the mark is on
abbrev pub mark_unit : List Item → ℕ → Option ℕ
mark_unit text at = option_map (λ item. item.unit) (slice_get text (mark_place text at))

-- the place of the first item that ends a section, from a place on, or the end of the text
abbrev pub section_place : List Item → ℕ → ℕ
section_place main at = at + position_or_len (λ item. is_some item.sect) (drop at main)

-- the properties of the section that holds the place
abbrev pub section_around : List Item → ℕ → Option Properties
section_around main at = option_and_then (λ item. item.sect) (slice_get main (section_place main at))

-- the number of the first note that is referred to from a place on
abbrev pub note_number : List Item → ℕ → ℕ
note_number main at = note_count (take at main)

-- the number of the first header text of the section that holds a place
abbrev pub head_number : List Item → ℕ → ℕ
head_number main at = heads_of_sections (section_count (take at main))
