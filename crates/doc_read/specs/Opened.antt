-- What the reader hands out of an accepted file.
use Rattle.std.specs.Prelude.{◌≡◌, ℕ, List}
use Rattle.doc_bits.specs.declared.places.Where.TheVariants.{File}
use Rattle.doc_bits.specs.Rules.{Hold}
use Rattle.doc_bits.specs.Places.{rules_in}
use Rattle.cfb_streams.specs.Contents.{Contents}
use Rattle.cfb_streams.specs.Container.{container_rules, HasContents}
use Rattle.fib_form.specs.FibFields.{FibFields, fib_fields}
use Rattle.piece_table.specs.Piece.{TextPiece}
use Rattle.doc_model.specs.declared.document.Document.{Document}
use Rattle.plain_doc.specs.Sound.{IsSound}
use Rattle.file_rules.specs.PartRules.{PartLists, HasPartLists}
use Rattle.file_rules.specs.FileRules.{FileText, HasFileText, doc_source_of}
use Rattle.doc_read.specs.Holds.{IsDocumentFrom, HoldsDocument, IsAccepted}

pub record OpenedFile : Type 0 where
  pub document : Document
  pub fib : FibFields
  pub contents : Contents
  pub pieces : List TextPiece

-- the streams have a text, its FIB has these fields, and these are its pieces; and what the parts hold makes the
-- document
pub record IsFoundIn
    (contents : Contents) (document : Document) (fib : FibFields) (pieces : List TextPiece) : Type 0 where
  pub text : FileText
  pub has_text : HasFileText contents text
  pub lists : PartLists
  pub has_lists : HasPartLists (doc_source_of text) lists
  pub document_is : IsDocumentFrom contents text lists document
  pub fib_is : fib ≡ fib_fields text.wd
  pub pieces_are : pieces ≡ text.pieces

-- the document is that of these streams and of this text, by what its parts hold
pub record IsReadDocument (contents : Contents) (text : FileText) (document : Document) : Type 0 where
  pub lists : PartLists
  pub has_lists : HasPartLists (doc_source_of text) lists
  pub document_is : IsDocumentFrom contents text lists document

-- these are the streams of some file, whose container breaks no rule
pub record AreOfFile (contents : Contents) : Type 0 where
  pub file : List ℕ
  pub holds : Hold (rules_in File (container_rules file))
  pub has : HasContents file contents

-- the file breaks no rule, and holds the document, which is sound; the streams with the CLSID, the fields of the FIB
-- and the pieces are those of the parts that make this document
pub record IsOpened (file : List ℕ) (opened : OpenedFile) : Type 0 where
  pub accepted : IsAccepted file
  pub holds : HoldsDocument file opened.document
  pub sound : IsSound opened.document
  pub contents : opened.contents ≡ holds.parts.contents
  pub fib : opened.fib ≡ fib_fields holds.parts.text.wd
  pub pieces : opened.pieces ≡ holds.parts.text.pieces
