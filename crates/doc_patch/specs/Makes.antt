-- When a change can be made.
use Rattle.std.specs.Prelude.{◌≡◌, ℕ, ◌+◌, ◌-◌, ◌^◌, ◌<◌, ◌≤◌, List, [], ◌∷◌, length, All, ⊤}
use Rattle.doc_bits.specs.declared.places.Story.{Story}
use Rattle.doc_bits.specs.declared.places.Story.TheVariants.{Main, Note, Head}
use Rattle.prop_map.specs.Formed.{IsPropertyMap, character_groups, paragraph_groups, section_groups}
use Rattle.prop_map.specs.Modifiers.{IsFormedModifier}
use Rattle.style_sheet.specs.Chain.{style_kind_at}
use Rattle.document_bookmarks.specs.declared.bookmark_order.Bookmark.{Bookmark}
use Rattle.doc_model.specs.declared.document.Document.{Document}
use Rattle.doc_patch.specs.declared.changes.Change.{Change}
use Rattle.doc_patch.specs.declared.changes.Change.TheVariants.{SpliceText, ModifyItems, SetSection, SpliceNotes}
use Rattle.doc_patch.specs.declared.changes.Change.TheVariants.{SpliceHeads, SetStyleCharacters, SetStyleParagraphs}
use Rattle.doc_patch.specs.declared.changes.Change.TheVariants.{SetBookmarks}
use Rattle.doc_patch.specs.Places.{HasText, HasRange}
use Rattle.doc_patch.specs.Changes.{changed}

-- the range is one of the list, and the list stays short
pub record CanSplice {A : Type 0} (from to : ℕ) (fresh entries : List A) : Type 0 where
  pub ordered : from ≤ to
  pub within : to ≤ length entries
  pub few : length entries + length fresh < 2 ^ 32 + (to - from)

-- no bookmark begins or ends behind a text of this length
pub record EndWithin (len : ℕ) (bookmarks : List Bookmark) : Type 0 where
  pub starts : All (λ b. b.from ≤ len) bookmarks
  pub ends : All (λ b. b.to ≤ len) bookmarks

-- the ends of the bookmarks can go with a splice of the text
abbrev pub CanFollow : Document → Story → Type 0
CanFollow document Main = EndWithin (length document.main) document.bookmarks
CanFollow document (Note number) = ⊤
CanFollow document (Head number) = ⊤

-- what it names is there, and its properties may be there
abbrev pub CanMake : Document → Change → Type 0
CanMake document (SpliceText story from to fresh) =
    HasText document story (CanSplice from to fresh) × CanFollow document story
CanMake document (ModifyItems story from to modifier) = HasText document story (HasRange from to) × IsFormedModifier
    modifier
CanMake document (SetSection at set) = (at < length document.main) × IsPropertyMap section_groups set
CanMake document (SpliceNotes from to fresh) = CanSplice from to fresh document.notes
CanMake document (SpliceHeads from to fresh) = CanSplice from to fresh document.heads
CanMake document (SetStyleCharacters istd set) = (0 < style_kind_at document.sheet istd) × IsPropertyMap
    character_groups set
CanMake document (SetStyleParagraphs istd set) = (style_kind_at document.sheet istd ≡ 1) × IsPropertyMap
    paragraph_groups set
CanMake document (SetBookmarks list) = ⊤

-- each of the changes can be made after those before it
abbrev pub CanMakeAll : List Change → Document → Type 0
CanMakeAll [] document = ⊤
CanMakeAll (change ∷ more) document = CanMake document change × CanMakeAll more (changed change document)

-- the range that it takes away is there
abbrev pub CanRemove : Document → Change → Type 0
CanRemove document (SpliceText story from to fresh) = from ≤ to
CanRemove document (ModifyItems story from to modifier) = ⊤
CanRemove document (SetSection at set) = ⊤
CanRemove document (SpliceNotes from to fresh) = (from ≤ to) × (to ≤ length document.notes)
CanRemove document (SpliceHeads from to fresh) = (from ≤ to) × (to ≤ length document.heads)
CanRemove document (SetStyleCharacters istd set) = ⊤
CanRemove document (SetStyleParagraphs istd set) = ⊤
CanRemove document (SetBookmarks list) = ⊤
