-- What a session begins with: on a file that is given, and after a full save.
use Rattle.std.specs.Prelude.{◌≡◌, ℕ, List, Option, Some, map}
use Rattle.doc_bits.specs.Number.{AreBytes}
use Rattle.doc_bits.specs.Rules.{Hold}
use Rattle.cfb_sectors.specs.Header.{sector_count}
use Rattle.cfb_streams.specs.Contents.{Contents}
use Rattle.fib_form.specs.FibFields.{FibFields, fib_fields}
use Rattle.doc_parts.specs.declared.lists.Sed.{Sed}
use Rattle.full_save.specs.WordDocument.{full_fib}
use Rattle.full_save.specs.Layout.{full_save_image}
use Rattle.file_rules.specs.FileRules.{file_rules}
use Rattle.doc_read.specs.Holds.{FileParts, HasFileParts, HoldsDocument, IsAccepted}
use Rattle.doc_read.specs.Opened.{OpenedFile, IsOpened}
use Rattle.fast_save.specs.Ledgers.{AreCountsOf, after_full}
use Rattle.fast_save.specs.Session.{SessionView, bin_length}

-- a file of bytes that is accepted, with what the reader hands out of it
pub record IsOpenFile (opened : OpenedFile) : Type 0 where
  pub file : List ℕ
  pub bytes : AreBytes file
  pub is : IsOpened file opened

-- the streams and the FIB of a file that breaks none of the rules 1 to 57
pub record IsReadFile (contents : Contents) (fib : FibFields) : Type 0 where
  pub file : List ℕ
  pub rules : Hold (file_rules file)
  pub parts : FileParts
  pub has : HasFileParts file parts
  pub contents_are : contents ≡ parts.contents
  pub fib_is : fib ≡ fib_fields parts.text.wd

-- where the properties of sections are, each at its fcSepx
abbrev pub written_places : List Sed → List (Option ℕ)
written_places seds = map (λ sed. Some sed.sepx) seds

-- the file is accepted and holds the document; the counts are those of its pieces, its sectors and its FIB, and so is
-- the number of quick saves
pub record IsStarted (file : List ℕ) (session : SessionView) : Type 0 where
  pub accepted : IsAccepted file
  pub bytes : session.bytes ≡ file
  pub holds : HoldsDocument file session.document
  pub counts :
      let text = holds.parts.text in
      AreCountsOf text.pieces (sector_count file) (bin_length (fib_fields text.wd)) session.counts
  pub quick_saves : session.quick_saves ≡ (fib_fields holds.parts.text.wd).quick_saves

-- after a full save the file is that of the document, and the counts are those of the file
abbrev pub session_after_full : SessionView → SessionView
session_after_full session = record {
  bytes = full_save_image session.document;
  document = session.document;
  counts = after_full (sector_count (full_save_image session.document)) (bin_length (full_fib session.document));
  quick_saves = 0;
}
