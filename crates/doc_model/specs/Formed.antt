-- Which documents are well formed. Every value of the type is.
use Rattle.std.specs.Prelude.{◌≡◌, ℕ, ◌^◌, ◌<◌, List, [], ◌∷◌, length, All}
use Rattle.doc_bits.specs.Number.{AreBytes}
use Rattle.fib_form.specs.FibFields.{IsKeptFlags}
use Rattle.cfb_streams.specs.Contents.{AreStreams, AreStored}
use Rattle.style_sheet.specs.Formed.{IsFormedSheet}
use Rattle.document_bookmarks.specs.Bookmarks.{HasFileNumbers}
use Rattle.doc_model.specs.declared.carried.Carried.{Carried}
use Rattle.doc_model.specs.declared.document.Document.{Document}
use Rattle.doc_model.specs.Document.{IsFormedText, AreFormedTexts}
use Rattle.doc_model.specs.Blank.{blank_document}
use Rattle.doc_model.specs.Carried.{ArePartsShort, AreListsWithLevels, AreCarriedStreams}

-- the parts of the table stream that are carried, in the order of their fields
abbrev pub carried_parts : Carried → List (List ℕ)
carried_parts carried =
    carried.fonts ∷ carried.dop ∷ carried.assoc ∷ carried.lst ∷ carried.levels ∷ carried.lfo ∷ []

-- what a well-formed document carries; its parts, its CLSID and its streams are bytes, and names have units of 16 bits
pub record IsFormedCarried (carried : Carried) : Type 0 where
  pub parts : ArePartsShort (carried_parts carried)
  pub bytes : All AreBytes (carried.clsid ∷ carried_parts carried)
  pub lists : AreListsWithLevels carried.lst carried.levels
  pub clsid : length carried.clsid ≡ 16
  pub languages : (carried.lid < 2 ^ 16) × (carried.lid_fe < 2 ^ 16)
  pub flags : IsKeptFlags carried.flags
  pub ordered : AreStreams carried.streams
  pub stored : AreStored carried.streams
  pub streams : AreCarriedStreams carried.streams

-- a well-formed document
pub record IsFormed (document : Document) : Type 0 where
  pub main : IsFormedText document.main
  pub notes : AreFormedTexts document.notes
  pub heads : AreFormedTexts document.heads
  pub sheet : IsFormedSheet document.sheet
  pub carried : IsFormedCarried document.carried
  pub bookmarks : All HasFileNumbers document.bookmarks

abbrev pub BlankIsFormed : Type 0
BlankIsFormed = IsFormed blank_document
