-- Which places of a document a command may name.
use Rattle.std.specs.Prelude.{◌≡◌, ◌⊎◌, ℕ, ◌-◌, ◌<◌, ◌≤◌, List, Some, length, slice_get, IsSome, ⊤}
use Rattle.std.specs.Option.{option_and_then}
use Rattle.doc_bits.specs.declared.places.Story.{Story}
use Rattle.doc_bits.specs.declared.places.Story.TheVariants.{Main, Note as NoteText, Head as HeadText}
use Rattle.text_codes.specs.Paragraph.{paragraph_mark}
use Rattle.style_sheet.specs.Chain.{style_kind_at}
use Rattle.doc_model.specs.declared.item.Item.{Item}
use Rattle.doc_model.specs.declared.document.Document.{Document}
use Rattle.edit_script.specs.declared.commands.Command.{Command}
use Rattle.edit_script.specs.declared.commands.Command.TheVariants.{Insert, Erase, Char, Plain, Para, Style, Field}
use Rattle.edit_script.specs.declared.commands.Command.TheVariants.{Note, Split, Merge, Sect, Row, StyleChar}
use Rattle.edit_script.specs.declared.commands.Command.TheVariants.{StylePara, Bookmark, Unmark, Save}
pub use Rattle.doc_patch.specs.Places.{HasText, HasRange}
use Rattle.doc_patch.specs.Places.{mark_unit}
use Rattle.edit_ops.specs.Bookmarks.{bookmark_named}

-- the place is that of an item
abbrev pub HasPlace : ℕ → List Item → Type 0
HasPlace at text = at < length text

-- items may be put before the place: an item is there, or the text is an empty header text and the place is its begin
abbrev pub TakesText : Story → ℕ → List Item → Type 0
TakesText Main at text = at < length text
TakesText (NoteText number) at text = at < length text
TakesText (HeadText number) at text = (at < length text) ⊎ ((at ≡ 0) × (length text ≡ 0))

-- the paragraph that holds the place ends with a paragraph mark
abbrev pub EndsWithMark : ℕ → List Item → Type 0
EndsWithMark at text = (at < length text) × (mark_unit text at ≡ Some paragraph_mark)

-- a paragraph begins at the place
abbrev pub BeginsParagraph : ℕ → List Item → Type 0
BeginsParagraph at text =
    (at < length text) × ((at ≡ 0) ⊎ IsSome (option_and_then (λ item. item.mark) (slice_get text (at - 1))))

-- the command names places that are there
abbrev pub IsInRange : Document → Command → Type 0
IsInRange document (Insert story at text) = HasText document story (TakesText story at)
IsInRange document (Erase story from to) = HasText document story (HasRange from to)
IsInRange document (Char story from to set) = HasText document story (HasRange from to)
IsInRange document (Plain story from to) = HasText document story (HasRange from to)
IsInRange document (Para story at set) = HasText document story (HasPlace at)
IsInRange document (Style story at istd) = HasText document story (HasPlace at)
IsInRange document (Field story at type code result) = HasText document story (HasPlace at)
IsInRange document (Note at text) = HasPlace at document.main
IsInRange document (Split story at) = HasText document story (HasPlace at)
IsInRange document (Merge story at) = HasText document story (EndsWithMark at)
IsInRange document (Sect at new set) = HasPlace at document.main
IsInRange document (Row story at width cells) = HasText document story (BeginsParagraph at)
IsInRange document (StyleChar istd set) = 0 < style_kind_at document.sheet istd
IsInRange document (StylePara istd set) = style_kind_at document.sheet istd ≡ 1
IsInRange document (Bookmark name from to) = (from ≤ to) × (to ≤ length document.main)
IsInRange document (Unmark name) = IsSome (bookmark_named name document.bookmarks)
IsInRange document (Save full) = ⊤
