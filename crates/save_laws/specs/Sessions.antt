-- How an edit changes the text of a session: places and slots are spliced alike, and a modifier acts on both.
use Rattle.std.specs.Prelude.{◌≡◌, ℕ, ◌≤◌, List, ◌++◌, length, map, take, drop, slice_range, ⊤}
use Rattle.std.specs.List.{AllZip, splice}
use Rattle.prop_map.specs.declared.modifiers.Modifier.{Modifier}
use Rattle.piece_table.specs.Piece.{UnitPlace}
use Rattle.piece_table.specs.Changes.{AreModified}
use Rattle.doc_model.specs.declared.item.Item.{Item}
use Rattle.doc_model.specs.declared.document.Document.{Document}
use Rattle.doc_bits.specs.Together.{AreTogether}
use Rattle.save_laws.specs.Places.{PagedStream, GivenUnit, given_of, IsGivenAfter}
use Rattle.save_laws.specs.Slots.{Slot, shown, loose, last, StoryEnds, IsPlaceForSlot, document_slots}
use Rattle.save_laws.specs.Plans.{Plan}
use Rattle.save_laws.specs.FastSaves.{StandsInEither, IsGivenBy}

-- an item after a modifier; the mark behind a story and the last CP stay as they are
abbrev pub IsSlotAfter : Modifier → Slot → Slot → Type 0
IsSlotAfter by (shown old) (shown new) = IsGivenAfter by (given_of old) (given_of new)
IsSlotAfter by (shown old) loose = ⊥
IsSlotAfter by (shown old) last = ⊥
IsSlotAfter by loose (shown new) = ⊥
IsSlotAfter by loose loose = ⊤
IsSlotAfter by loose last = ⊥
IsSlotAfter by last (shown new) = ⊥
IsSlotAfter by last loose = ⊥
IsSlotAfter by last last = ⊤

-- each slot of the range is what the modifier makes of it, and the others stay
pub record AreSlotsAfter (by : Modifier) (from to : ℕ) (old new : List Slot) : Type 0 where
  pub before : take from new ≡ take from old
  pub modified : AllZip (IsSlotAfter by) (slice_range old from to) (slice_range new from to)
  pub after : drop to new ≡ drop to old

-- places represent slots, in an old stream or in added text
abbrev pub StandInSession : PagedStream → Plan → List UnitPlace → List Slot → Type 0
StandInSession old plan places slots =
    AreTogether (IsPlaceForSlot (StandsInEither old plan) (IsGivenBy old plan)) places slots

-- places and slots that are spliced alike are together as before
abbrev pub SplicesStayTogether : Type 0
SplicesStayTogether =
    (old : PagedStream) (plan : Plan) (places fresh : List UnitPlace) (slots fresh_slots : List Slot) (from to : ℕ) →
    from ≤ to → to ≤ length places → StandInSession old plan places slots →
    StandInSession old plan fresh fresh_slots →
    StandInSession old plan (splice places from to fresh) (splice slots from to fresh_slots)

-- and so do places on which a modifier acts, and slots on which it acts
abbrev pub ModifiedStayTogether : Type 0
ModifiedStayTogether =
    (old : PagedStream) (plan : Plan) (by : Modifier) (from to : ℕ) (places made : List UnitPlace)
    (slots after : List Slot) → from ≤ to → to ≤ length places → StandInSession old plan places slots →
    AreModified by from to places made → AreSlotsAfter by from to slots after →
    StandInSession old plan made after

-- what is in the old stream or in the added text is there where more text is added
abbrev pub LongerPlansKeep : Type 0
LongerPlansKeep =
    (old : PagedStream) (base : ℕ) (added more : List GivenUnit) (places : List UnitPlace) (slots : List Slot) →
    StandInSession old (record { base = base; added = added }) places slots →
    StandInSession old (record { base = base; added = added ++ more }) places slots

-- a splice of the main text is one of the whole text
abbrev pub MainSplices : Type 0
MainSplices =
    (document : Document) (ends : StoryEnds) (from to : ℕ) (fresh : List Item) → from ≤ to →
    to ≤ length document.main →
    document_slots (record document { main = splice document.main from to fresh }) ends
    ≡ splice (document_slots document ends) from to (map shown fresh)
