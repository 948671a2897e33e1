-- A fast save: what it is made of, when it is refused, and the session after it.
use Rattle.std.specs.Prelude.{◌≡◌, ℕ, ◌+◌, ◌*◌, ◌<◌, ◌≤◌, List, length, true, false}
use Rattle.doc_bits.specs.Number.{AreBytes}
use Rattle.cfb_sectors.specs.Header.{sector_count}
use Rattle.cfb_streams.specs.Names.{wd_name}
use Rattle.cfb_streams.specs.Contents.{Contents}
use Rattle.cfb_in_place.specs.Change.{StreamChange}
use Rattle.cfb_in_place.specs.Contract.{IsSavedInPlace}
use Rattle.cfb_in_place.specs.InPlace.{StaysInPlace}
use Rattle.cfb_layout.specs.Counts.{most_sectors}
use Rattle.cfb_layout.specs.Sectors.{units_for}
use Rattle.fib_form.specs.FibFields.{fib_fields}
use Rattle.doc_model.specs.declared.document.Document.{Document}
use Rattle.plain_doc.specs.Sound.{IsSound}
use Rattle.full_save.specs.WordDocument.{table_stream}
use Rattle.doc_read.specs.Holds.{FileParts, HasFileParts, HoldsDocument, IsAccepted}
use Rattle.save_laws.specs.Ends.{ends_of}
use Rattle.save_laws.specs.Slots.{StoryEnds, story_counts}
use Rattle.save_laws.specs.KeptPages.{KeepsBytes}
use Rattle.save_laws.specs.Places.{fib_end}
use Rattle.save_laws.specs.FastSizes.{SaveCounts}
use Rattle.fast_save_layout.specs.Saves.{FastSave}
use Rattle.fast_save_layout.specs.AddedPages.{paragraph_bins, pages_behind}
use Rattle.session_text.specs.SessionText.{HaveNoModifiers, HaveModifiersWithin, unwritten_count}
use Rattle.fast_save.specs.declared.fast.FastFault.{FastFault}
use Rattle.fast_save.specs.declared.fast.FastFault.TheVariants.{Sixteenth, TooManyPieces, TooLarge, Memory}
use Rattle.fast_save.specs.declared.fast_parts.FastParts.{FastParts}
use Rattle.fast_save.specs.declared.ledgers.Counts.{Counts}
use Rattle.fast_save.specs.declared.parts.SessionParts.{SessionParts}
use Rattle.fast_save.specs.Ledgers.{modifier_bytes, sector_bound, after_fast, most_pieces_added}
use Rattle.fast_save.specs.Session.{SessionView, IsBoundedFile, IsSession, text_base, bin_length}
use Rattle.fast_save.specs.Started.{written_places}

-- ---- when it is refused

-- Profile: the most fast saves in a row
abbrev pub most_quick_saves : ℕ
most_quick_saves = 15

-- Profile: the most pieces of a fast save, before the pieces that one more edit adds
abbrev pub most_pieces : ℕ
most_pieces = 16384

-- the counts do not refuse it: fewer than fifteen quick saves in a row, few pieces, and few sectors
pub record IsWithinCounts (quick_saves : ℕ) (counts : Counts) (table_bytes : ℕ) : Type 0 where
  pub saves : quick_saves < most_quick_saves
  pub pieces : counts.pieces + most_pieces_added ≤ most_pieces
  pub sectors : sector_bound counts table_bytes ≤ most_sectors

-- there are too many pieces, with their number
pub record HasManyPieces (quick_saves : ℕ) (counts : Counts) (pieces : ℕ) : Type 0 where
  pub saves : quick_saves < most_quick_saves
  pub many : most_pieces < counts.pieces + most_pieces_added
  pub number : pieces ≡ counts.pieces

-- too many sectors are reckoned, with their number
pub record HasManySectors (quick_saves : ℕ) (counts : Counts) (table_bytes sectors : ℕ) : Type 0 where
  pub saves : quick_saves < most_quick_saves
  pub few : counts.pieces + most_pieces_added ≤ most_pieces
  pub many : most_sectors < sectors
  pub number : sectors ≡ sector_bound counts table_bytes

-- there were fifteen quick saves in a row; else too many pieces; else too many sectors. Want of memory is free
abbrev pub IsFastFault : ℕ → Counts → ℕ → FastFault → Type 0
IsFastFault quick_saves counts table_bytes (Sixteenth count) =
    (quick_saves ≡ most_quick_saves) × (count ≡ most_quick_saves)
IsFastFault quick_saves counts table_bytes (TooManyPieces pieces) = HasManyPieces quick_saves counts pieces
IsFastFault quick_saves counts table_bytes (TooLarge sectors) = HasManySectors quick_saves counts table_bytes sectors
IsFastFault quick_saves counts table_bytes Memory = Unit {0}

-- ---- what it is made of

-- the file that was given or last saved, the document, and what a session has beside it
abbrev pub save_in : List ℕ → Document → SessionParts → FastSave
save_in file document parts = record {
  file = file;
  fib = parts.fib;
  contents = parts.container;
  document = document;
  pieces = parts.text.pieces.pieces;
  ends = ends_of parts.text.ends;
  base = parts.text.added.base;
  added = parts.text.added.items;
  places = parts.text.sections.items;
}

-- the counts in the words of the bounds
abbrev pub save_counts : Counts → ℕ → SaveCounts
save_counts counts table_bytes = record {
  pieces = counts.pieces;
  prc_bytes = modifier_bytes counts;
  units = counts.units;
  runs = counts.runs;
  sections = counts.sections;
  table_bytes = table_bytes;
  sectors = counts.sectors;
  bin_bytes = counts.bin_bytes;
}

-- the pages that its text takes
abbrev pub written_pages : SessionParts → ℕ
written_pages parts =
    pages_behind (paragraph_bins parts.fib parts.container) parts.text.added.base parts.text.added.items

-- what a save needs of the counts: none is less than what it counts, where the pages are those that are written. So a
-- text may be written that has other items and the same document, if they are few enough
pub record IsCountedText (file : List ℕ) (parts : SessionParts) (counts : Counts) : Type 0 where
  pub pieces : length parts.text.pieces.pieces ≤ counts.pieces
  pub modified : counts.modified ≡ false → HaveNoModifiers parts.text.pieces.pieces
  pub printed : HaveModifiersWithin counts.printed parts.text.pieces.pieces
  pub sectors : sector_count file ≤ counts.sectors
  pub few : counts.sectors ≤ most_sectors
  pub bins : bin_length parts.fib ≤ counts.bin_bytes
  pub pages : 8 * written_pages parts ≤ 16 * counts.runs + 256
  pub text :
      512 * units_for 512 (2 * length parts.text.added.items) + 512 * written_pages parts
      ≤ 2 * counts.units + 512 * counts.runs + 1536
  pub unwritten : unwritten_count parts.text.sections.items ≤ counts.sections

-- a session on a file, whose counts do not refuse a fast save
pub record CanSaveFast (file : List ℕ) (document : Document) (parts : SessionParts) : Type 0 where
  pub counts : Counts
  pub session : IsSession file document parts
  pub counted : IsCountedText file parts counts
  pub judged : IsWithinCounts parts.fib.quick_saves counts (length (table_stream document))

-- ---- what a session has of the file after it

-- a file that is accepted and holds a sound document
pub record IsHeldFile (file : List ℕ) (document : Document) : Type 0 where
  pub accepted : IsAccepted file
  pub holds : HoldsDocument file document
  pub sound : IsSound document

-- where text may be added, whether marks are behind the stories, where the properties of sections are, the FIB and
-- the
-- streams
pub record AreFastParts {file : List ℕ} {document : Document} (holds : HoldsDocument file document)
    (parts : FastParts) :
    Type 0 where
  pub bytes : AreBytes file
  pub base : parts.base ≡ text_base (length holds.parts.text.wd)
  pub ends :
      (ends : StoryEnds) → (fib_fields holds.parts.text.wd).ccps ≡ story_counts document ends →
      ends_of parts.ends ≡ ends
  pub places : parts.places.items ≡ written_places holds.parts.lists.sections
  pub fib : parts.fib ≡ fib_fields holds.parts.text.wd
  pub contents : parts.container ≡ holds.parts.contents

-- WordDocument keeps the bytes of the old one behind its FIB, and is longer by no more than is reckoned; its FIB tells
-- of a fast save
pub record GrowsBehindFib (counts : Counts) (old new : List ℕ) : Type 0 where
  pub keeps : KeepsBytes old new
  pub grown : length new ≤ length old + 2048 + 2 * counts.units + 512 * counts.runs + 512 * counts.sections
  pub complex : (fib_fields new).complex ≡ true

-- the counts with the sectors of the file itself and the bytes of its own bin tables, in place of what they come to
-- at most
abbrev pub counts_over : (file wd : List ℕ) → Counts → Counts
counts_over file wd counts = record counts { sectors = sector_count file; bin_bytes = bin_length (fib_fields wd) }

-- a file with these streams is within what is reckoned: its table stream, the bytes of its bin tables, and its sectors
pub record IsWithinBounds (counts : Counts) (table_bytes : ℕ) (file wd stream : List ℕ) : Type 0 where
  pub table :
      length stream
      ≤ table_bytes + counts.bin_bytes + (12 + modifier_bytes counts) * counts.pieces + 16 * counts.runs + 4096
  pub bins : bin_length (fib_fields wd) ≤ counts.bin_bytes + 16 * counts.runs + 256
  pub sectors : sector_count file ≤ sector_bound counts table_bytes

-- a stream with sectors of its own stays in them: the first sectors of its chain are the old ones, as many as the old
-- bytes need, and each byte behind the FIB is where it stood in the file
abbrev pub KeepsSectors : List ℕ → List ℕ → List ℕ → Type 0
KeepsSectors old new wd = 4096 ≤ length wd → StaysInPlace wd_name (fib_end wd) old new wd

-- where that stream has sectors of its own, the file is the old one in whose own sectors it grew and the table stream was
-- written anew: each sector that is none of theirs, of the FAT's, of the directory's and of the mini FAT's is the old one
pub record IsInOwnSectors (old new : List ℕ) : Type 0 where
  pub contents : Contents
  pub change : StreamChange
  pub table : List ℕ
  pub saved : IsSavedInPlace old new contents change table

abbrev pub KeepsOtherSectors : List ℕ → List ℕ → List ℕ → Type 0
KeepsOtherSectors old new wd = 4096 ≤ length wd → IsInOwnSectors old new

-- the file of a fast save: the document is saved behind the old WordDocument, by the pieces that are there, with one
-- quick save more, and within what is reckoned over the old file
pub record IsFastFile {old : List ℕ} {document : Document} {parts : SessionParts}
    (can : CanSaveFast old document parts) (file : List ℕ) : Type 0 where
  pub held : IsHeldFile file document
  pub pieces : held.holds.parts.text.pieces ≡ parts.text.pieces.pieces
  pub quick_saves : (fib_fields held.holds.parts.text.wd).quick_saves ≡ parts.fib.quick_saves + 1
  pub behind : GrowsBehindFib can.counts can.session.held.parts.text.wd held.holds.parts.text.wd
  pub within :
      IsWithinBounds (counts_over old can.session.held.parts.text.wd can.counts) (length (table_stream document)) file
      held.holds.parts.text.wd held.holds.parts.text.table
  pub bounded : IsBoundedFile can.session.held → IsBoundedFile held.holds
  pub in_place : KeepsSectors old file can.session.held.parts.text.wd
  pub others : KeepsOtherSectors old file can.session.held.parts.text.wd

-- ---- the session after it

-- where the text of a file is bounded, that of the next one is
pub record StaysBounded (old : List ℕ) {new : List ℕ} {document : Document} (holds : HoldsDocument new document) :
    Type 0 where
  pub saved : Document
  pub held : HoldsDocument old saved
  pub stays : IsBoundedFile held → IsBoundedFile holds

-- the counts did not refuse it; the file is accepted and holds the document, behind the old WordDocument, and is within
-- what is reckoned over the old file; WordDocument stays in its sectors, and so do the other streams; there is one quick save more, as its FIB says,
-- and the counts are those after a fast save
pub record IsSavedFast (old new : SessionView) : Type 0 where
  pub judged : IsWithinCounts old.quick_saves old.counts (length (table_stream old.document))
  pub accepted : IsAccepted new.bytes
  pub holds : HoldsDocument new.bytes old.document
  pub document : new.document ≡ old.document
  pub quick_saves : new.quick_saves ≡ old.quick_saves + 1
  pub counts : new.counts ≡ after_fast (sector_bound old.counts (length (table_stream old.document))) old.counts
  pub before : FileParts
  pub has_before : HasFileParts old.bytes before
  pub behind : GrowsBehindFib old.counts before.text.wd holds.parts.text.wd
  pub count : (fib_fields holds.parts.text.wd).quick_saves ≡ old.quick_saves + 1
  pub within :
      IsWithinBounds (counts_over old.bytes before.text.wd old.counts) (length (table_stream old.document)) new.bytes
      holds.parts.text.wd holds.parts.text.table
  pub bounded : StaysBounded old.bytes holds
  pub in_place : KeepsSectors old.bytes new.bytes before.text.wd
  pub others : KeepsOtherSectors old.bytes new.bytes before.text.wd
