-- The changes of a command as splices of pieces: a range of CPs each, the block of added text that is put there, and
-- the marks behind the stories after it.
use Rattle.std.specs.Prelude.{◌≡◌, ℕ, ◌+◌, ◌*◌, ◌-◌, ◌≤◌, List, [], ◌∷◌, ◌++◌, length, map, MatchOption}
use Rattle.std.specs.Prelude.{option_to_list, All, ⊤}
use Rattle.std.specs.List.{splice, fold}
use Rattle.doc_bits.specs.Together.{AreTogether}
use Rattle.piece_table.specs.Piece.{UnitPlace, IsPiece}
use Rattle.piece_table.specs.Changes.{fresh_places, fresh_units}
use Rattle.doc_model.specs.declared.item.Item.{Item}
use Rattle.doc_model.specs.declared.document.Document.{Document}
use Rattle.doc_model.specs.Collected.{joined_texts}
use Rattle.plain_doc.specs.RulesOfItems.{HasShortProperties}
use Rattle.doc_patch.specs.declared.changes.Change.{Change}
use Rattle.doc_patch.specs.Changes.{changed}
use Rattle.save_laws.specs.Slots.{Slot, document_slots}
use Rattle.save_laws.specs.Ends.{ends_of}
use Rattle.save_laws.specs.declared.ends.Ends.{Ends}
use Rattle.session_text.specs.AddedText.{IsAddedFor, added_piece}
use Rattle.session_text.specs.declared.added.Added.{Added}
use Rattle.session_text.specs.TextSteps.{IsSplicedText}
use Rattle.session_text.specs.EditSteps.{IsBlockOf}
use Rattle.session_text.specs.declared.session_text.TextSplice.{TextSplice}

-- ---- splices of pieces, one after another

-- the splice can be made of so many places
pub record CanPut (total : ℕ) (splice : TextSplice) : Type 0 where
  pub order : splice.from ≤ splice.to
  pub within : splice.to ≤ total
  pub block : MatchOption splice.block ⊤ IsPiece
  pub fits : total + fresh_units splice.block ≤ 500001 + (splice.to - splice.from)

abbrev pub CanPutAll : ℕ → List TextSplice → Type 0
CanPutAll total [] = ⊤
CanPutAll total (splice ∷ more) =
    CanPut total splice × CanPutAll (total + fresh_units splice.block - (splice.to - splice.from)) more

-- the places after a splice, and after all
abbrev pub places_after : List UnitPlace → TextSplice → List UnitPlace
places_after places one = splice places one.from one.to (fresh_places one.block)

abbrev pub all_places_after : List UnitPlace → List TextSplice → List UnitPlace
all_places_after places splices = fold places_after places splices

-- the pieces that a splice adds at most: one where it cuts, and one for its block
abbrev pub pieces_cut : TextSplice → ℕ
pieces_cut splice = 1 + length (option_to_list splice.block)

-- the marks behind the stories after all
abbrev pub ends_after_all : Ends → List TextSplice → Ends
ends_after_all ends splices = fold (λ now splice. splice.ends) ends splices

-- ---- a change, the block that it adds, and the splice that it is

pub record Put : Type 0 where
  pub change : Change
  pub block : List Item
  pub splice : TextSplice

-- after changes of the document, behind these added items, the block is put in place of the range, and makes the whole
-- text of the changed document
pub record IsPut
    (document : Document) (base : ℕ) (before : List Item) (now : Document) (ends : Ends) (put : Put) : Type 0 where
  pub slots : List Slot
  pub whole :
      IsSplicedText now (ends_of ends) (changed put.change now) (ends_of put.splice.ends) put.splice.from put.splice.to
      slots
  pub added : AreTogether IsAddedFor put.block slots
  pub piece : put.splice.block ≡ added_piece (base + 2 * length before) (length put.block)
  pub is_piece : MatchOption put.splice.block ⊤ IsPiece
  pub block_is : IsBlockOf document put.change put.block
  pub short : length (document_slots (changed put.change now) (ends_of put.splice.ends)) ≤ 500001

-- such puts, one after another
abbrev pub ArePuts : Document → ℕ → List Item → Document → Ends → List Put → Type 0
ArePuts document base before now ends [] = ⊤
ArePuts document base before now ends (put ∷ more) =
    IsPut document base before now ends put
    × ArePuts document base (before ++ put.block) (changed put.change now) put.splice.ends more

-- the changes are such puts, of these splices, and the added text has grown by their blocks
pub record HavePuts
    (document : Document) (ends : Ends) (changes : List Change) (old new : Added) (splices : List TextSplice) :
    Type 0 where
  pub puts : List Put
  pub changes_are : map (λ put. put.change) puts ≡ changes
  pub splices_are : map (λ put. put.splice) puts ≡ splices
  pub each : ArePuts document old.base old.items document ends puts
  pub items : new.items ≡ old.items ++ joined_texts (map (λ put. put.block) puts)
  pub short : All HasShortProperties old.items → All HasShortProperties new.items
