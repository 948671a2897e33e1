-- How few runs the commands of the generator add to the tables of a full save.
use Rattle.std.specs.Prelude.{◌≡◌, ℕ, ◌+◌, ◌≤◌, List, length, slice_get, Some}
use Rattle.doc_bits.specs.declared.places.Story.TheVariants.{Main}
use Rattle.prop_map.specs.Settings.{Properties}
use Rattle.prop_map.specs.Overlay.{without}
use Rattle.fkp_pages.specs.declared.kind.PageKind.{PageKind}
use Rattle.fkp_pages.specs.declared.kind.PageKind.TheVariants.{Chpx, Papx}
use Rattle.doc_model.specs.declared.item.Item.{Item}
use Rattle.doc_model.specs.declared.document.Document.{Document}
use Rattle.full_save.specs.WordDocument.{document_runs}
use Rattle.edit_script.specs.declared.commands.Command.TheVariants.{Insert, Char, Style, Split}
use Rattle.edit_ops.specs.Fresh.{special_codes}
use Rattle.edit_ops.specs.Edits.{document_after}

-- the runs that the tables of a full save have of a document
abbrev pub runs_of : PageKind → Document → ℕ
runs_of kind document = length (document_runs kind document)

-- the item is there, and is no special unit
pub record IsPlainAt (main : List Item) (at : ℕ) : Type 0 where
  pub item : Item
  pub here : slice_get main at ≡ Some item
  pub plain : without special_codes item.chp ≡ item.chp

-- an insertion takes the properties of the item at its place, so it adds no run of characters or of paragraphs; a split
-- adds one paragraph; a command that sets characters adds two runs of characters; one that names a style adds none
pub record EditsAddFewRuns : Type 0 where
  pub insertion :
      (kind : PageKind) (document : Document) (at : ℕ) (text : List ℕ) → IsPlainAt document.main at →
      runs_of kind (document_after document (Insert Main at text)) ≡ runs_of kind document
  pub split_characters :
      (document : Document) (at : ℕ) → IsPlainAt document.main at →
      runs_of Chpx (document_after document (Split Main at)) ≡ runs_of Chpx document
  pub split_paragraphs :
      (document : Document) (at : ℕ) → IsPlainAt document.main at →
      runs_of Papx (document_after document (Split Main at)) ≤ runs_of Papx document + 1
  pub characters :
      (document : Document) (from to : ℕ) (set : Properties) → from ≤ to →
      runs_of Chpx (document_after document (Char Main from to set)) ≤ runs_of Chpx document + 2
  pub paragraphs :
      (document : Document) (from to : ℕ) (set : Properties) → from ≤ to →
      runs_of Papx (document_after document (Char Main from to set)) ≡ runs_of Papx document
  pub style :
      (kind : PageKind) (document : Document) (at istd : ℕ) →
      runs_of kind (document_after document (Style Main at istd)) ≡ runs_of kind document
