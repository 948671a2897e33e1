-- The marks behind stories while texts change: a story has one from its first item on, up to its last, and the last CP
-- of the whole text is there while either story has slots. A story that has items before and after keeps its end.
use Rattle.std.specs.Prelude.{◌≡◌, ℕ, ◌+◌, ◌≤◌, List, [], ◌∷◌, ◌++◌, length, take, map, Bool, true, false}
use Rattle.std.specs.Prelude.{if◌then◌else◌, Some, slice_get, slice_set}
use Rattle.std.specs.List.{splice}
use Rattle.doc_model.specs.declared.item.Item.{Item}
use Rattle.doc_model.specs.declared.document.Document.{Document}
use Rattle.doc_model.specs.Collected.{joined_texts}
use Rattle.save_laws.specs.Slots.{Slot, shown, last, StoryEnds, loose_if, note_slots, head_slots, document_slots}

-- whether a mark is behind a story, once its items have changed
abbrev pub end_after : Bool → List Item → List Item → Bool
end_after end [] [] = end
end_after end [] (item ∷ items) = true
end_after end (old ∷ olds) [] = false
end_after end (old ∷ olds) (item ∷ items) = end

-- the last CP, where the other story has no slots
abbrev pub lone_last : List Slot → List Slot
lone_last [] = last ∷ []
lone_last (slot ∷ slots) = []

-- what is behind a story that has items, where the other story has these slots
abbrev pub closing_slots : Bool → List Slot → List Slot
closing_slots end other = loose_if end ++ lone_last other

-- the slots that come behind the first items of a story
abbrev pub marks_come : Bool → List Item → List Item → List Slot → List Slot
marks_come end [] [] other = []
marks_come end [] (item ∷ items) other = if end then [] else closing_slots true other
marks_come end (old ∷ olds) items other = []

-- how many CPs behind the last items of a story go with them
abbrev pub marks_go : Bool → List Item → List Item → List Slot → ℕ
marks_go end [] items other = 0
marks_go end (old ∷ olds) [] other = length (closing_slots end other)
marks_go end (old ∷ olds) (item ∷ items) other = 0

-- texts whose items, one after the other, are those of older ones but for a range
pub record AreSplicedTexts (old new : List (List Item)) (from to : ℕ) (fresh : List Item) : Type 0 where
  pub order : from ≤ to
  pub within : to ≤ length (joined_texts old)
  pub items : joined_texts new ≡ splice (joined_texts old) from to fresh

-- the ends of the stories, once the notes or the header texts are these
abbrev pub ends_with_notes : Document → StoryEnds → List (List Item) → StoryEnds
ends_with_notes document ends notes = record {
  notes = end_after ends.notes (joined_texts document.notes) (joined_texts notes);
  heads = ends.heads;
}

abbrev pub ends_with_heads : Document → StoryEnds → List (List Item) → StoryEnds
ends_with_heads document ends heads = record {
  notes = ends.notes;
  heads = end_after ends.heads (joined_texts document.heads) (joined_texts heads);
}

-- the whole text of the second document is that of the first, with slots in place of a range
pub record IsSplicedWhole
    (old : Document) (old_ends : StoryEnds) (new : Document) (new_ends : StoryEnds) (from to : ℕ) (fresh : List Slot) :
    Type 0 where
  pub order : from ≤ to
  pub within : to ≤ length (document_slots old old_ends)
  pub whole : document_slots new new_ends ≡ splice (document_slots old old_ends) from to fresh

-- a splice of the notes is one of the whole text, with the marks that come or go
abbrev pub NotesSplice : Type 0
NotesSplice =
    (document : Document) (ends : StoryEnds) (notes : List (List Item)) (from to : ℕ) (fresh : List Item) →
    AreSplicedTexts document.notes notes from to fresh →
    let items = joined_texts document.notes in
    let begin = length document.main in
    IsSplicedWhole document ends (record document { notes = notes }) (ends_with_notes document ends notes)
    (begin + from) (begin + (to + marks_go ends.notes items (joined_texts notes) (head_slots document ends)))
    (map shown fresh ++ marks_come ends.notes items (joined_texts notes) (head_slots document ends))

-- and so is one of the header texts
abbrev pub HeadsSplice : Type 0
HeadsSplice =
    (document : Document) (ends : StoryEnds) (heads : List (List Item)) (from to : ℕ) (fresh : List Item) →
    AreSplicedTexts document.heads heads from to fresh →
    let items = joined_texts document.heads in
    let begin = length document.main + length (note_slots document ends) in
    IsSplicedWhole document ends (record document { heads = heads }) (ends_with_heads document ends heads)
    (begin + from) (begin + (to + marks_go ends.heads items (joined_texts heads) (note_slots document ends)))
    (map shown fresh ++ marks_come ends.heads items (joined_texts heads) (note_slots document ends))

-- a splice of some of the texts is one of their items, from the begin of the first text to that of the next one
abbrev pub nth_text_begin : List (List Item) → ℕ → ℕ
nth_text_begin texts number = length (joined_texts (take number texts))

abbrev pub TextsSplice : Type 0
TextsSplice =
    (texts fresh : List (List Item)) (from to : ℕ) → from ≤ to → to ≤ length texts →
    AreSplicedTexts texts (splice texts from to fresh) (nth_text_begin texts from) (nth_text_begin texts to)
    (joined_texts fresh)

-- and so is a splice within one text
abbrev pub OneTextSplices : Type 0
OneTextSplices =
    (texts : List (List Item)) (number : ℕ) (text fresh : List Item) (from to : ℕ) →
    slice_get texts number ≡ Some text → from ≤ to → to ≤ length text →
    AreSplicedTexts texts (slice_set texts number (splice text from to fresh)) (nth_text_begin texts number + from)
    (nth_text_begin texts number + to) fresh
