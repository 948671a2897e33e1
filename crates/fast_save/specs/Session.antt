-- A session: a document that is edited beside the pieces of its text, and the file that was given or last saved.
use Rattle.std.specs.Prelude.{◌≡◌, ℕ, ◌+◌, ◌*◌, ◌≤◌, false, List, length}
use Rattle.doc_bits.specs.Number.{AreBytes}
use Rattle.cfb_sectors.specs.Header.{sector_count}
use Rattle.cfb_layout.specs.Counts.{most_sectors}
use Rattle.cfb_layout.specs.Sectors.{units_for}
use Rattle.fib_form.specs.FibFields.{FibFields, fib_fields, listed_pair}
use Rattle.fib_form.specs.declared.table_parts.TablePart.TheVariants.{PlcfBteChpx, PlcfBtePapx}
use Rattle.fib_form.specs.TableParts.{pair_number}
use Rattle.piece_table.specs.Piece.{flat_pieces}
use Rattle.doc_model.specs.declared.document.Document.{Document}
use Rattle.plain_doc.specs.Sound.{IsSound}
use Rattle.file_rules.specs.FileRules.{doc_source_of}
use Rattle.doc_read.specs.Holds.{HoldsDocument, IsAccepted}
use Rattle.save_laws.specs.Places.{PagedStream}
use Rattle.save_laws.specs.GivenFiles.{paged_stream_of}
use Rattle.save_laws.specs.ByRuns.{AreBounded, text_ends}
use Rattle.save_laws.specs.Slots.{StoryEnds, document_slots, story_counts}
use Rattle.save_laws.specs.SharedPages.{page_bound}
use Rattle.session_text.specs.OldUnits.{OldUnitsAreBounded}
use Rattle.session_text.specs.SessionText.{IsSessionText, HaveFitModifiers, HaveNoModifiers, HaveModifiersWithin}
use Rattle.session_text.specs.SessionText.{ArePlannedSections, unwritten_count}
use Rattle.fast_save.specs.declared.ledgers.Counts.{Counts}
use Rattle.fast_save.specs.declared.parts.SessionParts.{SessionParts}

-- what contracts see: the file that was given or last saved, the document now, the counts, and how many fast saves in a
-- row made the file, by its FIB
pub record SessionView : Type 0 where
  pub bytes : List ℕ
  pub document : Document
  pub counts : Counts
  pub quick_saves : ℕ

-- the bytes of the two bin tables of a file, by its FIB
abbrev pub bin_length : FibFields → ℕ
bin_length fib = (listed_pair fib.pairs (pair_number PlcfBteChpx)).1 + (listed_pair fib.pairs (pair_number
    PlcfBtePapx)).1

-- where text may be added behind a stream of so many bytes: a page begins there
abbrev pub text_base : ℕ → ℕ
text_base len = 512 * units_for 512 len

-- WordDocument of a file with its bin tables
abbrev pub saved_stream : {file : List ℕ} {document : Document} → HoldsDocument file document → PagedStream
saved_stream held = paged_stream_of (doc_source_of held.parts.text)

-- each unit of the text of a file agrees with the runs of paragraphs at its place
abbrev pub IsBoundedFile : {file : List ℕ} {document : Document} → HoldsDocument file document → Type 0
IsBoundedFile {document = document} held =
    (ends : StoryEnds) → (fib_fields held.parts.text.wd).ccps ≡ story_counts document ends →
    AreBounded (saved_stream held) (flat_pieces held.parts.text.pieces) (text_ends (document_slots document ends))

-- the file is accepted, and holds what the session held at the last save or at the start; the document is sound, and
-- carries along what that one does; its text and its sections are in the file or are to be written, and where the
-- file is bounded the units that are in it are; the FIB and the streams are those of the file
pub record IsSession (file : List ℕ) (document : Document) (parts : SessionParts) : Type 0 where
  pub bytes : AreBytes file
  pub accepted : IsAccepted file
  pub saved : Document
  pub held : HoldsDocument file saved
  pub sound : IsSound document
  pub carried : document.carried ≡ saved.carried
  pub text : IsSessionText (saved_stream held) document parts.text
  pub bounded : IsBoundedFile held → OldUnitsAreBounded (saved_stream held) document parts.text
  pub fit : HaveFitModifiers parts.text.pieces.pieces
  pub sections : ArePlannedSections held.parts.text.wd parts.text.sections.items document
  pub base : parts.text.added.base ≡ text_base (length held.parts.text.wd)
  pub fib : parts.fib ≡ fib_fields held.parts.text.wd
  pub contents : parts.container ≡ held.parts.contents

-- none of the counts is less than what it counts: the pieces and their modifiers, the sectors of the file, the bytes of
-- its bin tables, the items that were added, the pages that their runs take at most, the bytes of both, and the
-- sections whose properties are still to be written
pub record IsSessionCounted (file : List ℕ) (parts : SessionParts) (counts : Counts) : Type 0 where
  pub pieces : length parts.text.pieces.pieces ≤ counts.pieces
  pub modified : counts.modified ≡ false → HaveNoModifiers parts.text.pieces.pieces
  pub printed : HaveModifiersWithin counts.printed parts.text.pieces.pieces
  pub sectors : sector_count file ≤ counts.sectors
  pub few : counts.sectors ≤ most_sectors
  pub bins : bin_length parts.fib ≤ counts.bin_bytes
  pub added : length parts.text.added.items ≤ counts.units + counts.runs
  pub pages : page_bound parts.text.added.items ≤ counts.runs
  pub text :
      2 * length parts.text.added.items + 512 * page_bound parts.text.added.items
      ≤ 2 * counts.units + 512 * counts.runs
  pub unwritten : unwritten_count parts.text.sections.items ≤ counts.sections
