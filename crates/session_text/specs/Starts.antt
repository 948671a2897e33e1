-- What a session begins with, on a file that holds a document, and after a save: all text is in the stream, and all
-- properties of sections are written.
use Rattle.std.specs.Prelude.{◌≡◌, ℕ, List, map, Some}
use Rattle.doc_parts.specs.declared.lists.Sed.{Sed}
use Rattle.piece_table.specs.Piece.{TextPiece}
use Rattle.doc_model.specs.declared.item.Item.{Item}
use Rattle.doc_model.specs.declared.document.Document.{Document}
use Rattle.doc_model.specs.Collected.{sections_of}
use Rattle.save_laws.specs.Places.{PagedStream}
use Rattle.save_laws.specs.Plans.{Plan}
use Rattle.save_laws.specs.Slots.{StoryEnds}
use Rattle.save_laws.specs.Saves.{AreSavedSections, StandsForText}
use Rattle.save_laws.specs.FastSaves.{StandsInSession}
use Rattle.session_text.specs.SessionText.{section_properties, ArePlannedSections}

-- the text of a document that is saved is in a session on it, whatever is planned
abbrev pub SavedTextsStand : Type 0
SavedTextsStand =
    (stream : PagedStream) (plan : Plan) (pieces : List TextPiece) (document : Document) (ends : StoryEnds) →
    StandsForText stream pieces document ends → StandsInSession stream plan pieces document ends

-- the properties of sections by their items are those that are listed by CP
abbrev pub PropertiesAreListed : Type 0
PropertiesAreListed = (main : List Item) → section_properties main ≡ map (λ section. section.1) (sections_of main)

-- saved sections are planned ones, each with its place
abbrev pub SavedSectionsStand : Type 0
SavedSectionsStand =
    (wd : List ℕ) (seds : List Sed) (document : Document) →
    AreSavedSections (sections_of document.main) wd seds →
    ArePlannedSections wd (map (λ sed. Some sed.sepx) seds) document
