-- What whoever edits a document keeps beside it, so that it can be saved behind the file that is there.
use Rattle.std.specs.Prelude.{◌≡◌, ℕ, ◌+◌, ◌*◌, ◌^◌, ◌<◌, ◌≤◌, List, length, All}
use Rattle.std.specs.Option.{ForSome}
use Rattle.doc_bits.specs.Number.{AreBytes}
use Rattle.doc_bits.specs.Together.{AreTogether}
use Rattle.cfb_layout.specs.Sectors.{units_for}
use Rattle.fib_form.specs.FibFields.{fib_fields}
use Rattle.piece_table.specs.Piece.{flat_pieces, ArePieces}
use Rattle.piece_table.specs.ClxRules.{FitsPages}
use Rattle.piece_table.specs.Printing.{IsPrintedClx}
use Rattle.doc_model.specs.declared.document.Document.{Document}
use Rattle.doc_model.specs.Collected.{sections_of}
use Rattle.plain_doc.specs.RulesOfItems.{HasShortProperties}
use Rattle.plain_doc.specs.Sound.{IsSound}
use Rattle.file_rules.specs.FileRules.{doc_source_of}
use Rattle.doc_read.specs.Holds.{HoldsDocument}
use Rattle.save_laws.specs.GivenFiles.{paged_stream_of}
use Rattle.save_laws.specs.Saves.{HasPropertiesAt}
use Rattle.save_laws.specs.FastSaves.{StandsInSession}
use Rattle.fast_save_layout.specs.Saves.{FastSave, plan_of}
use Rattle.fast_save_layout.specs.Appended.{added_page_count, fast_table}

-- the old file holds a document, which has what this one carries along; each unit of the text is in its
-- WordDocument
-- or in the added text, which begins at the next page; the properties of each section are there or are to be written;
-- and nothing is too large for the places in a file
pub record CanBeFastSaved (save : FastSave) : Type 0 where
  pub saved : Document
  pub bytes : AreBytes save.file
  pub held : HoldsDocument save.file saved
  pub contents : save.contents ≡ held.parts.contents
  pub fib : save.fib ≡ fib_fields held.parts.text.wd
  pub carried : save.document.carried ≡ saved.carried
  pub sound : IsSound save.document
  pub base : save.base ≡ 512 * units_for 512 (length held.parts.text.wd)
  pub text :
      StandsInSession (paged_stream_of (doc_source_of held.parts.text)) (plan_of save) save.pieces save.document
      save.ends
  pub short : All HasShortProperties save.added
  pub fit : All (λ place. FitsPages place.modifier) (flat_pieces save.pieces)
  pub sections :
      AreTogether (λ place section. ForSome place (λ fc. HasPropertiesAt held.parts.text.wd fc section.1))
      save.places (sections_of save.document.main)
  pub pieces : ArePieces save.pieces
  pub few : length save.pieces ≤ 16384
  pub few_added : length save.added ≤ 3600000
  pub room : save.base + 2 * length save.added + 512 * added_page_count save ≤ 2 ^ 28
  pub table : (clx : List ℕ) → IsPrintedClx save.pieces clx → length (fast_table save clx) < 2 ^ 31
