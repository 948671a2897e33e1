-- What a session has beside its document, and what it keeps: the text of the document by pieces, in the stream of the
-- last save and in added text, and the properties of its sections.
use Rattle.std.specs.Prelude.{◌≡◌, ℕ, ◌≤◌, List, length, All, Option, not, is_some}
use Rattle.std.specs.List.{filter_map, count_by}
use Rattle.std.specs.Option.{ForSome}
use Rattle.prop_map.specs.Settings.{Properties}
use Rattle.prop_map.specs.Modifiers.{no_modifier, printed_modifier}
use Rattle.piece_table.specs.Piece.{TextPiece, flat_pieces, total_length}
use Rattle.piece_table.specs.ClxRules.{FitsPages}
use Rattle.doc_model.specs.declared.item.Item.{Item}
use Rattle.doc_model.specs.declared.document.Document.{Document}
use Rattle.plain_doc.specs.RulesOfItems.{HasShortProperties}
use Rattle.doc_bits.specs.Together.{AreTogether}
use Rattle.save_laws.specs.Places.{PagedStream}
use Rattle.save_laws.specs.Slots.{document_slots}
use Rattle.save_laws.specs.Ends.{ends_of}
use Rattle.save_laws.specs.Saves.{HasPropertiesAt}
use Rattle.save_laws.specs.FastSaves.{StandsInSession}
use Rattle.session_text.specs.AddedText.{plan_of}
use Rattle.session_text.specs.declared.session_text.SessionText.{SessionText}

-- the properties of the sections of a main text
abbrev pub section_properties : List Item → List Properties
section_properties main = filter_map (λ item. item.sect) main

-- the properties of a section are at a place of the old stream, or they are still to be written
abbrev pub IsSectionPlan : List ℕ → Option ℕ → Properties → Type 0
IsSectionPlan wd place properties = ForSome place (λ fc. HasPropertiesAt wd fc properties)

-- each unit of the text of a document is in the stream of the last save or in added text, which begins behind that
-- stream; its page, or what is planned for it, and the modifier of its piece make the item at its CP
pub record IsSessionText (old : PagedStream) (document : Document) (text : SessionText) : Type 0 where
  pub places : StandsInSession old (plan_of text.added) text.pieces.pieces document (ends_of text.ends)
  pub short : All HasShortProperties text.added.items
  pub base : length old.wd ≤ text.added.base

-- the modifier of each unit can be printed
abbrev pub HaveFitModifiers : List TextPiece → Type 0
HaveFitModifiers pieces = All (λ place. FitsPages place.modifier) (flat_pieces pieces)

-- it does nothing
abbrev pub HaveNoModifiers : List TextPiece → Type 0
HaveNoModifiers pieces = All (λ place. place.modifier ≡ no_modifier) (flat_pieces pieces)

-- it is printed in so many bytes at most
abbrev pub HaveModifiersWithin : ℕ → List TextPiece → Type 0
HaveModifiersWithin most pieces = All (λ place. length (printed_modifier place.modifier) ≤ most) (flat_pieces pieces)

-- the pieces, the added text and the marks behind the stories are the same; memory may have been taken
pub record IsSameText (old new : SessionText) : Type 0 where
  pub pieces : new.pieces.pieces ≡ old.pieces.pieces
  pub added : new.added ≡ old.added
  pub ends : new.ends ≡ old.ends
  pub sections : new.sections ≡ old.sections

-- the sections have the properties of the document's
abbrev pub ArePlannedSections : List ℕ → List (Option ℕ) → Document → Type 0
ArePlannedSections wd places document = AreTogether (IsSectionPlan wd) places (section_properties document.main)

-- the sections whose properties are still to be written
abbrev pub unwritten_count : List (Option ℕ) → ℕ
unwritten_count places = count_by (λ place. not (is_some place)) places

-- the pieces have as many CPs as the whole text
abbrev pub TextCounted : Type 0
TextCounted =
    (old : PagedStream) (document : Document) (text : SessionText) → IsSessionText old document text →
    total_length text.pieces.pieces ≡ length (document_slots document (ends_of text.ends))
