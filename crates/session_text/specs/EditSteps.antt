-- The changes of one command, as the text of a session takes them: a modifier alone, or items put in place of ranges,
-- one change after another. All numbers of a change are of the document before the command.
use Rattle.std.specs.Prelude.{◌≡◌, ◌⊎◌, ℕ, ◌+◌, ◌<◌, ◌≤◌, List, [], ◌∷◌, ◌++◌, length, All, Some, IsSome, slice_range}
use Rattle.std.specs.Prelude.{⊤}
use Rattle.std.specs.List.{sum_by}
use Rattle.doc_bits.specs.declared.places.Story.{Story}
use Rattle.doc_bits.specs.declared.places.Story.TheVariants.{Main, Note, Head}
use Rattle.doc_bits.specs.Together.{AreTogether}
use Rattle.prop_map.specs.declared.modifiers.Modifier.{Modifier}
use Rattle.prop_map.specs.Modifiers.{no_modifier, IsFormedModifier, printed_modifier}
use Rattle.doc_model.specs.declared.item.Item.{Item}
use Rattle.doc_model.specs.declared.document.Document.{Document}
use Rattle.doc_model.specs.Collected.{joined_texts}
use Rattle.plain_doc.specs.RulesOfItems.{HasShortProperties}
use Rattle.plain_doc.specs.RulesOfSheet.{item_count, most_items}
use Rattle.plain_doc.specs.Sound.{IsSound}
use Rattle.edit_script.specs.declared.commands.Command.{Command}
use Rattle.doc_patch.specs.declared.changes.Change.{Change}
use Rattle.doc_patch.specs.declared.changes.Change.TheVariants.{SpliceText, ModifyItems, SetSection, SpliceNotes}
use Rattle.doc_patch.specs.declared.changes.Change.TheVariants.{SpliceHeads, SetStyleCharacters, SetStyleParagraphs}
use Rattle.doc_patch.specs.declared.changes.Change.TheVariants.{SetBookmarks}
use Rattle.doc_patch.specs.Places.{story_text}
use Rattle.edit_ops.specs.Ranges.{HasRange}
use Rattle.doc_patch.specs.Changes.{changed, modified_item}
use Rattle.doc_patch.specs.Makes.{CanMake}
use Rattle.edit_ops.specs.Runs.{texts_put}
use Rattle.edit_ops.specs.Causes.{IsAcceptedEdit}
use Rattle.edit_ops.specs.Edits.{changes_of}
use Rattle.session_text.specs.AddedText.{marked_block}
use Rattle.session_text.specs.SessionText.{section_properties}

-- ---- a change that puts items, or takes some away, and one that does not touch the text

-- the change is no modifier
abbrev pub ActsOnNone : Change → Type 0
ActsOnNone (SpliceText story from to fresh) = ⊤
ActsOnNone (ModifyItems story from to by) = ⊥
ActsOnNone (SetSection at set) = ⊤
ActsOnNone (SpliceNotes from to fresh) = ⊤
ActsOnNone (SpliceHeads from to fresh) = ⊤
ActsOnNone (SetStyleCharacters istd set) = ⊤
ActsOnNone (SetStyleParagraphs istd set) = ⊤
ActsOnNone (SetBookmarks list) = ⊤

-- the texts that a change names are those that they were before the command
abbrev pub KeepsNamed : Document → Document → Change → Type 0
KeepsNamed document now (SpliceText Main from to fresh) = now.main ≡ document.main
KeepsNamed document now (SpliceText (Note number) from to fresh) = now.notes ≡ document.notes
KeepsNamed document now (SpliceText (Head number) from to fresh) = now.heads ≡ document.heads
KeepsNamed document now (ModifyItems story from to by) = ⊥
KeepsNamed document now (SetSection at set) = now.main ≡ document.main
KeepsNamed document now (SpliceNotes from to fresh) = now.notes ≡ document.notes
KeepsNamed document now (SpliceHeads from to fresh) = now.heads ≡ document.heads
KeepsNamed document now (SetStyleCharacters istd set) = ⊤
KeepsNamed document now (SetStyleParagraphs istd set) = ⊤
KeepsNamed document now (SetBookmarks list) = ⊤

-- the items that a change puts
abbrev pub items_put : Change → List Item
items_put change = joined_texts (texts_put change)

-- the change can be made of the document that those before it left; it puts items with short properties, and the
-- document
-- after it has not too many items
pub record IsPutStep (document now : Document) (change : Change) : Type 0 where
  pub can : CanMake now change
  pub named : KeepsNamed document now change
  pub few : item_count (changed change now) ≤ most_items
  pub short : All HasShortProperties (items_put change)

-- such changes, one after another
abbrev pub ArePutSteps : Document → Document → List Change → Type 0
ArePutSteps document now [] = ⊤
ArePutSteps document now (change ∷ more) =
    IsPutStep document now change × ArePutSteps document (changed change now) more

-- ---- a modifier

-- what a modifier makes of the item has short properties; one that sets marks acts on a mark
pub record IsShortAfter (by : Modifier) (item : Item) : Type 0 where
  pub short : HasShortProperties (modified_item by item)
  pub marked : (by.pap ≡ no_modifier.pap) ⊎ IsSome item.mark

-- the modifier acts on a range of a text
pub record IsActStep (document : Document) (story : Story) (from to : ℕ) (by : Modifier) : Type 0 where
  pub text : List Item
  pub there : story_text document story ≡ Some text
  pub range : HasRange from to text
  pub formed : IsFormedModifier by
  pub short : All (IsShortAfter by) (slice_range text from to)

abbrev pub ActsRight : Document → Change → Type 0
ActsRight document (SpliceText story from to fresh) = ⊥
ActsRight document (ModifyItems story from to by) = IsActStep document story from to by
ActsRight document (SetSection at set) = ⊥
ActsRight document (SpliceNotes from to fresh) = ⊥
ActsRight document (SpliceHeads from to fresh) = ⊥
ActsRight document (SetStyleCharacters istd set) = ⊥
ActsRight document (SetStyleParagraphs istd set) = ⊥
ActsRight document (SetBookmarks list) = ⊥

-- one modifier, and nothing else
abbrev pub IsLoneModifier : Document → List Change → Type 0
IsLoneModifier document [] = ⊥
IsLoneModifier document (change ∷ []) = ActsRight document change
IsLoneModifier document (change ∷ other ∷ more) = ⊥

-- ---- the changes of a command

abbrev pub AreEditSteps : Document → List Change → Type 0
AreEditSteps document changes = IsLoneModifier document changes ⊎ ArePutSteps document document changes

-- those of an accepted edit are such
abbrev pub CommandsAreSteps : Type 0
CommandsAreSteps =
    (document : Document) (command : Command) → IsSound document → IsAcceptedEdit document command →
    AreEditSteps document (changes_of document command)

-- ---- what they add

-- the change names a story that had no items before the command
abbrev pub NamesEmptyStory : Document → Change → Type 0
NamesEmptyStory document (SpliceText Main from to fresh) = ⊥
NamesEmptyStory document (SpliceText (Note number) from to fresh) = joined_texts document.notes ≡ []
NamesEmptyStory document (SpliceText (Head number) from to fresh) = joined_texts document.heads ≡ []
NamesEmptyStory document (ModifyItems story from to by) = ⊥
NamesEmptyStory document (SetSection at set) = ⊥
NamesEmptyStory document (SpliceNotes from to fresh) = joined_texts document.notes ≡ []
NamesEmptyStory document (SpliceHeads from to fresh) = joined_texts document.heads ≡ []
NamesEmptyStory document (SetStyleCharacters istd set) = ⊥
NamesEmptyStory document (SetStyleParagraphs istd set) = ⊥
NamesEmptyStory document (SetBookmarks list) = ⊥

-- the block of added text that a change is: the items that it puts, and behind them the marks that come with the first
-- items of a story
pub record IsBlockOf (document : Document) (change : Change) (block : List Item) : Type 0 where
  pub marks : ℕ
  pub few : marks ≤ 2
  pub first : 0 < marks → 0 < length (items_put change)
  pub empty : 0 < marks → NamesEmptyStory document change
  pub is : block ≡ marked_block (items_put change) marks

-- the added text has grown by a block a change
pub record HasGrownByBlocks (document : Document) (changes : List Change) (old new : List Item) : Type 0 where
  pub blocks : List (List Item)
  pub each : AreTogether (IsBlockOf document) changes blocks
  pub items : new ≡ old ++ joined_texts blocks

-- how many pieces a change adds at most: where it cuts, and for its block
abbrev pub block_pieces : List Item → ℕ
block_pieces [] = 0
block_pieces (item ∷ items) = 1

abbrev pub cut_count : Change → ℕ
cut_count (SpliceText story from to fresh) = 1
cut_count (ModifyItems story from to by) = 2
cut_count (SetSection at set) = 1
cut_count (SpliceNotes from to fresh) = 1
cut_count (SpliceHeads from to fresh) = 1
cut_count (SetStyleCharacters istd set) = 1
cut_count (SetStyleParagraphs istd set) = 1
cut_count (SetBookmarks list) = 1

abbrev pub pieces_added : Change → ℕ
pieces_added change = cut_count change + block_pieces (items_put change)

-- the bytes by which a printed modifier grows
abbrev pub growth_of : Change → ℕ
growth_of (SpliceText story from to fresh) = 0
growth_of (ModifyItems story from to by) = length (printed_modifier by)
growth_of (SetSection at set) = 0
growth_of (SpliceNotes from to fresh) = 0
growth_of (SpliceHeads from to fresh) = 0
growth_of (SetStyleCharacters istd set) = 0
growth_of (SetStyleParagraphs istd set) = 0
growth_of (SetBookmarks list) = 0

-- the sections whose properties are still to be written then
abbrev pub sections_put : Change → ℕ
sections_put (SpliceText story from to fresh) = length (section_properties fresh)
sections_put (ModifyItems story from to by) = 0
sections_put (SetSection at set) = 1
sections_put (SpliceNotes from to fresh) = 0
sections_put (SpliceHeads from to fresh) = 0
sections_put (SetStyleCharacters istd set) = 0
sections_put (SetStyleParagraphs istd set) = 0
sections_put (SetBookmarks list) = 0

-- a command adds four pieces at most
abbrev pub PiecesAreFew : Type 0
PiecesAreFew = (document : Document) (command : Command) → sum_by pieces_added (changes_of document command) ≤ 4
