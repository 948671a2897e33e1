-- What each change of a document does to the whole text of a session and to the properties of its sections.
use Rattle.std.specs.Prelude.{◌≡◌, ℕ, ◌+◌, ◌<◌, ◌≤◌, List, length, take, Some, slice_get, slice_set}
use Rattle.std.specs.List.{splice}
use Rattle.doc_bits.specs.declared.places.Story.{Story}
use Rattle.doc_bits.specs.declared.places.Story.TheVariants.{Main, Note, Head}
use Rattle.document_bookmarks.specs.declared.bookmark_order.Bookmark.{Bookmark}
use Rattle.prop_map.specs.declared.modifiers.Modifier.{Modifier}
use Rattle.prop_map.specs.Settings.{Properties}
use Rattle.prop_map.specs.Overlay.{overlay}
use Rattle.piece_table.specs.Piece.{TextPiece}
use Rattle.doc_model.specs.declared.item.Item.{Item}
use Rattle.doc_model.specs.declared.document.Document.{Document}
use Rattle.doc_patch.specs.declared.changes.Change.TheVariants.{ModifyItems, SetSection, SetStyleCharacters}
use Rattle.doc_patch.specs.declared.changes.Change.TheVariants.{SetStyleParagraphs, SetBookmarks}
use Rattle.doc_patch.specs.Places.{story_text}
use Rattle.doc_patch.specs.Changes.{changed, changed_at, with_section}
use Rattle.save_laws.specs.Places.{PagedStream}
use Rattle.save_laws.specs.Plans.{Plan}
use Rattle.save_laws.specs.Slots.{StoryEnds, note_slots, document_slots}
use Rattle.save_laws.specs.FastSaves.{StandsInSession}
use Rattle.save_laws.specs.Sessions.{AreSlotsAfter}
use Rattle.session_text.specs.StoryMarks.{nth_text_begin}
use Rattle.session_text.specs.SessionText.{section_properties}

-- the place of the first item of a text in the whole text
abbrev pub text_begin : Document → StoryEnds → Story → ℕ
text_begin document ends Main = 0
text_begin document ends (Note number) = length document.main + nth_text_begin document.notes number
text_begin document ends (Head number) =
    length document.main + length (note_slots document ends) + nth_text_begin document.heads number

-- a modifier on the items of a range acts on their slots
abbrev pub ModifiersAct : Type 0
ModifiersAct =
    (document : Document) (ends : StoryEnds) (story : Story) (from to : ℕ) (by : Modifier) (text : List Item) →
    story_text document story ≡ Some text → from < to → to ≤ length text →
    let begin = text_begin document ends story in
    AreSlotsAfter by (begin + from) (begin + to) (document_slots document ends)
    (document_slots (changed (ModifyItems story from to by) document) ends)

-- how many sections end before a place
abbrev pub sections_before : List Item → ℕ → ℕ
sections_before main at = length (section_properties (take at main))

-- a splice of the main text is one of the properties of its sections
abbrev pub SectionsSplice : Type 0
SectionsSplice =
    (main fresh : List Item) (from to : ℕ) →
    section_properties (splice main from to fresh)
    ≡ splice (section_properties main) (sections_before main from) (sections_before main to) (section_properties fresh)

-- the places of pieces represent the text where properties of a section are set, and where a style changes
abbrev pub SectionsStay : Type 0
SectionsStay =
    (old : PagedStream) (plan : Plan) (pieces : List TextPiece) (document : Document) (ends : StoryEnds) (at : ℕ)
    (set : Properties) → StandsInSession old plan pieces document ends →
    StandsInSession old plan pieces (changed (SetSection at set) document) ends

pub record StylesStay : Type 0 where
  pub characters :
      (document : Document) (ends : StoryEnds) (istd : ℕ) (set : Properties) →
      document_slots (changed (SetStyleCharacters istd set) document) ends ≡ document_slots document ends
  pub paragraphs :
      (document : Document) (ends : StoryEnds) (istd : ℕ) (set : Properties) →
      document_slots (changed (SetStyleParagraphs istd set) document) ends ≡ document_slots document ends

-- and where bookmarks are set
abbrev pub BookmarksStay : Type 0
BookmarksStay =
    (document : Document) (ends : StoryEnds) (list : List Bookmark) →
    document_slots (changed (SetBookmarks list) document) ends ≡ document_slots document ends

-- no other section is set but the one that ends at the item
abbrev pub OneSectionIsSet : Type 0
OneSectionIsSet =
    (main : List Item) (at : ℕ) (item : Item) (set before : Properties) → slice_get main at ≡ Some item →
    item.sect ≡ Some before →
    section_properties (changed_at main at (with_section set))
    ≡ slice_set (section_properties main) (sections_before main at) (overlay set before)
