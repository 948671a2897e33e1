-- A saved document: what a WordDocument, a table stream and a container have to be, for any save, full or fast.
use Rattle.std.specs.Prelude.{◌≡◌, ◌≢◌, ℕ, ◌^◌, ◌<◌, ◌≤◌, List, length, map, Some, slice_get}
use Rattle.doc_bits.specs.Rules.{Hold}
use Rattle.sprm_table.specs.Sprm.{IsAcceptedList}
use Rattle.prop_map.specs.Settings.{Properties}
use Rattle.prop_map.specs.Formed.{section_groups}
use Rattle.cfb_streams.specs.Contents.{Contents, HasNamed}
use Rattle.cfb_streams.specs.Container.{container_rules, HasContents}
use Rattle.cfb_streams.specs.Names.{wd_name}
use Rattle.fib_form.specs.Fib.{fib_pair}
use Rattle.fib_form.specs.FibFields.{FibFields, fib_fields}
use Rattle.fib_form.specs.FibRules.{fib_rules}
use Rattle.fkp_pages.specs.Bin.{IsBinTable, bin_count}
use Rattle.piece_table.specs.Piece.{TextPiece, flat_pieces, ArePieces}
use Rattle.piece_table.specs.Printing.{IsPrintable, IsPrintedClx}
use Rattle.doc_parts.specs.declared.lists.Sed.{Sed}
use Rattle.doc_parts.specs.Sections.{HasSepx}
use Rattle.doc_model.specs.declared.document.Document.{Document}
use Rattle.doc_model.specs.Collected.{sections_of}
use Rattle.file_rules.specs.SectionRules.{sepx_list}
use Rattle.file_rules.specs.PartRules.{PartLists, HasPartLists}
use Rattle.file_rules.specs.FileRules.{FileText, HasFileText, table_stream_name, doc_source_of, contents_rules}
use Rattle.doc_read.specs.Sections.{IsSectionProperties}
use Rattle.doc_read.specs.CarriedParts.{carried_streams}
use Rattle.doc_read.specs.Holds.{IsDocumentFrom}
use Rattle.doc_bits.specs.Together.{AreTogether}
use Rattle.doc_model.specs.TextLists.{starts_from}
use Rattle.fib_form.specs.TableEntries.{TableEntry, IsPartAt}
use Rattle.full_save.specs.TableText.{table_entries}
use Rattle.save_laws.specs.Places.{PagedStream, StandsInside, GivesAt}
use Rattle.save_laws.specs.Slots.{StoryEnds, IsPlaceForSlot, document_slots, story_counts}

-- what a save may choose: the pieces, their Clx, WordDocument with its bin tables, the sections' places, and whether
-- marks are behind the notes and behind the header texts
pub record SavedText : Type 0 where
  pub pieces : List TextPiece
  pub clx : List ℕ
  pub stream : PagedStream
  pub seds : List Sed
  pub ends : StoryEnds

-- the parts of the table stream
abbrev pub saved_entries : Document → SavedText → List TableEntry
saved_entries document saved =
    table_entries document (record {
      counts = story_counts document saved.ends;
      seds = saved.seds;
      characters = saved.stream.characters;
      paragraphs = saved.stream.paragraphs;
      clx = saved.clx;
    })

-- the properties of a section are at this fcSepx, in a Sepx whose list has no fault
pub record HasPropertiesAt (wd : List ℕ) (fc : ℕ) (properties : Properties) : Type 0 where
  pub is : IsSectionProperties wd fc properties
  pub there : fc ≢ 0xFFFFFFFF → HasSepx wd fc
  pub accepted : fc ≢ 0xFFFFFFFF → IsAcceptedList (sepx_list wd fc) section_groups

-- the sections begin where those of the document do, and have their properties
pub record AreSavedSections (sections : List (ℕ × Properties)) (wd : List ℕ) (seds : List Sed) : Type 0 where
  pub starts : map (λ sed. sed.start) seds ≡ starts_from 0 sections
  pub properties : AreTogether (λ sed section. HasPropertiesAt wd sed.sepx section.1) seds sections

-- the table has a range at least
pub record HasRanges (bin : List ℕ) : Type 0 where
  pub table : IsBinTable bin
  pub some : 1 ≤ bin_count bin

-- the FIB has the languages and the flags of the document
pub record KeepsFields (document : Document) (fib : FibFields) : Type 0 where
  pub lid : document.carried.lid ≡ fib.kept.lid
  pub lid_fe : document.carried.lid_fe ≡ fib.kept.lid_fe
  pub flags : document.carried.flags ≡ fib.kept.flags

-- the places of WordDocument, CP by CP, represent the text of the document
abbrev pub StandsForText : PagedStream → List TextPiece → Document → StoryEnds → Type 0
StandsForText stream pieces document ends =
    AreTogether (IsPlaceForSlot (StandsInside stream) (GivesAt stream)) (flat_pieces pieces) (document_slots document
    ends)

-- the document is saved: the places of the pieces represent its text, their Clx is printed, sections have their Sepxes,
-- the FIB breaks no rule and has the counts and what is kept, each part of the table stream is where its pair says,
-- those of the bookmarks too, and the container has the two streams and what is carried along
pub record IsSavedAs (document : Document) (saved : SavedText) (table : List ℕ) (contents : Contents) : Type 0 where
  pub pieces : ArePieces saved.pieces
  pub printable : IsPrintable saved.pieces
  pub clx : IsPrintedClx saved.pieces saved.clx
  pub text : StandsForText saved.stream saved.pieces document saved.ends
  pub characters : HasRanges saved.stream.characters
  pub paragraphs : HasRanges saved.stream.paragraphs
  pub sections : AreSavedSections (sections_of document.main) saved.stream.wd saved.seds
  pub fib : Hold (fib_rules saved.stream.wd)
  pub counts : (fib_fields saved.stream.wd).ccps ≡ story_counts document saved.ends
  pub kept : KeepsFields document (fib_fields saved.stream.wd)
  pub parts :
      (k : ℕ) (part : TableEntry) → slice_get (saved_entries document saved) k ≡ Some part →
      IsPartAt table (fib_pair saved.stream.wd part.number) part
  pub wd_small : length saved.stream.wd < 2 ^ 32
  pub has_wd : HasNamed contents.streams wd_name saved.stream.wd
  pub has_table : HasNamed contents.streams (table_stream_name saved.stream.wd) table
  pub clsid : document.carried.clsid ≡ contents.clsid
  pub streams : document.carried.streams ≡ carried_streams contents.streams

-- the two streams and the pieces
abbrev pub file_text : SavedText → List ℕ → FileText
file_text saved table = record { wd = saved.stream.wd; table = table; pieces = saved.pieces }

-- the contents break no rule from 15 to 57 and hold the document, by this text
pub record IsHeldBy (document : Document) (text : FileText) (contents : Contents) : Type 0 where
  pub rules : Hold (contents_rules contents)
  pub has_text : HasFileText contents text
  pub lists : PartLists
  pub has_lists : HasPartLists (doc_source_of text) lists
  pub document_is : IsDocumentFrom contents text lists document

-- the file is a container that breaks no rule, and has the contents
pub record IsFileOfContents (file : List ℕ) (contents : Contents) : Type 0 where
  pub rules : Hold (container_rules file)
  pub has_contents : HasContents file contents
