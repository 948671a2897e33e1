-- The whole text of a saved document, one slot a CP, and which places of pieces may represent it.
use Rattle.std.specs.Prelude.{◌≡◌, ℕ, List, [], ◌∷◌, ◌++◌, length, map, Bool, if◌then◌else◌, IsSome}
use Rattle.piece_table.specs.Piece.{UnitPlace}
use Rattle.text_codes.specs.Paragraph.{paragraph_mark}
use Rattle.doc_model.specs.declared.item.Item.{Item}
use Rattle.doc_model.specs.declared.document.Document.{Document}
use Rattle.doc_model.specs.Collected.{joined_texts}
use Rattle.save_laws.specs.Places.{GivenUnit, given_of, IsGivenAfter}

-- an item of the document; a paragraph mark behind a story's last text; and the last CP, which nobody looks at
pub data Slot : Type 0 where
  shown : Item → Slot
  loose : Slot
  last : Slot

-- whether a mark is behind the notes, and behind the header texts
pub record StoryEnds : Type 0 where
  pub notes : Bool
  pub heads : Bool

-- a mark behind a story, where there is one
abbrev pub loose_if : Bool → List Slot
loose_if end = if end then loose ∷ [] else []

-- a story of texts
abbrev pub story_slots : List (List Item) → Bool → List Slot
story_slots texts end = map shown (joined_texts texts) ++ loose_if end

abbrev pub note_slots : Document → StoryEnds → List Slot
note_slots document ends = story_slots document.notes ends.notes

abbrev pub head_slots : Document → StoryEnds → List Slot
head_slots document ends = story_slots document.heads ends.heads

-- one more CP follows stories that are not empty
abbrev pub last_slots : List Slot → List Slot
last_slots [] = []
last_slots (slot ∷ slots) = last ∷ []

-- the main text, the notes, the header texts, and the last CP
unfoldable pub document_slots : Document → StoryEnds → List Slot
document_slots document ends =
    let notes = note_slots document ends in
    let heads = head_slots document ends in
    map shown document.main ++ (notes ++ (heads ++ last_slots (notes ++ heads)))

-- the counts of the three stories
abbrev pub story_counts : Document → StoryEnds → List ℕ
story_counts document ends =
    length document.main ∷ length (note_slots document ends) ∷ length (head_slots document ends) ∷ []

-- the place is given something of which its modifier makes this
pub record ReadsAfter (Gives : ℕ → Bool → GivenUnit → Type 0) (place : UnitPlace) (given : GivenUnit) : Type 0 where
  pub before : GivenUnit
  pub gives : Gives place.at place.wide before
  pub after : IsGivenAfter place.modifier before given

-- the place is given a paragraph mark, of any style and with any properties
pub record ReadsMark (Gives : ℕ → Bool → GivenUnit → Type 0) (place : UnitPlace) : Type 0 where
  pub given : GivenUnit
  pub unit : given.unit ≡ paragraph_mark
  pub marked : IsSome given.mark
  pub gives : Gives place.at place.wide given

-- the place is one for the slot
abbrev pub IsPlaceForSlot : (ℕ → Bool → Type 0) → (ℕ → Bool → GivenUnit → Type 0) → UnitPlace → Slot → Type 0
IsPlaceForSlot Stands Gives place (shown item) = ReadsAfter Gives place (given_of item)
IsPlaceForSlot Stands Gives place loose = ReadsMark Gives place
IsPlaceForSlot Stands Gives place last = Stands place.at place.wide
