-- What a session has over an old stream and added text, written behind the old stream.
use Rattle.std.specs.Prelude.{◌≡◌, ◌⊎◌, ℕ, ◌^◌, ◌<◌, List, length, map, Bool, Some, slice_get}
use Rattle.doc_bits.specs.Rules.{Hold}
use Rattle.cfb_streams.specs.Contents.{Contents, HasNamed}
use Rattle.cfb_streams.specs.Names.{wd_name}
use Rattle.fib_form.specs.Fib.{fib_pair}
use Rattle.fib_form.specs.FibFields.{fib_fields}
use Rattle.fib_form.specs.FibRules.{fib_rules}
use Rattle.piece_table.specs.Piece.{TextPiece, flat_pieces, ArePieces}
use Rattle.piece_table.specs.Printing.{IsPrintable, IsPrintedClx}
use Rattle.doc_model.specs.declared.document.Document.{Document}
use Rattle.doc_model.specs.Collected.{sections_of}
use Rattle.file_rules.specs.FileRules.{table_stream_name}
use Rattle.doc_read.specs.CarriedParts.{carried_streams}
use Rattle.doc_bits.specs.Together.{AreTogether}
use Rattle.doc_model.specs.TextLists.{starts_from}
use Rattle.fib_form.specs.TableEntries.{TableEntry, IsPartAt}
use Rattle.save_laws.specs.Places.{PagedStream, GivenUnit, StandsInside, GivesAt}
use Rattle.save_laws.specs.Slots.{StoryEnds, IsPlaceForSlot, document_slots, story_counts}
use Rattle.save_laws.specs.Saves.{SavedText, saved_entries, HasPropertiesAt, HasRanges, KeepsFields}
use Rattle.save_laws.specs.Plans.{Plan, StandsInPlan, IsPlannedUnit, IsWrittenPlan}
use Rattle.save_laws.specs.KeptPages.{KeepsPages}

-- the place is one of the old stream, or one of the added text
abbrev pub StandsInEither : PagedStream → Plan → ℕ → Bool → Type 0
StandsInEither old plan at wide = StandsInside old at wide ⊎ StandsInPlan plan at wide

-- the old stream gives this there, or it is planned
abbrev pub IsGivenBy : PagedStream → Plan → ℕ → Bool → GivenUnit → Type 0
IsGivenBy old plan at wide given = GivesAt old at wide given ⊎ IsPlannedUnit plan at wide given

-- the places of pieces, CP by CP, represent the text of a document, in the old stream or in the added text: what a
-- session keeps from edit to edit
abbrev pub StandsInSession : PagedStream → Plan → List TextPiece → Document → StoryEnds → Type 0
StandsInSession old plan pieces document ends =
    AreTogether (IsPlaceForSlot (StandsInEither old plan) (IsGivenBy old plan)) (flat_pieces pieces)
    (document_slots document ends)

-- the document is saved behind an old stream, with added text
pub record IsFastSaved
    (document : Document) (old : PagedStream) (plan : Plan) (saved : SavedText) (table : List ℕ) (contents : Contents) :
    Type 0 where
  pub text : StandsInSession old plan saved.pieces document saved.ends
  pub keeps : KeepsPages old saved.stream plan.base
  pub written : IsWrittenPlan plan saved.stream
  pub characters : HasRanges saved.stream.characters
  pub paragraphs : HasRanges saved.stream.paragraphs
  pub starts : map (λ sed. sed.start) saved.seds ≡ starts_from 0 (sections_of document.main)
  pub properties :
      AreTogether
      (λ sed section. HasPropertiesAt old.wd sed.sepx section.1 ⊎ HasPropertiesAt saved.stream.wd sed.sepx section.1)
      saved.seds (sections_of document.main)
  pub pieces : ArePieces saved.pieces
  pub printable : IsPrintable saved.pieces
  pub clx : IsPrintedClx saved.pieces saved.clx
  pub fib : Hold (fib_rules saved.stream.wd)
  pub counts : (fib_fields saved.stream.wd).ccps ≡ story_counts document saved.ends
  pub kept : KeepsFields document (fib_fields saved.stream.wd)
  pub parts :
      (k : ℕ) (part : TableEntry) → slice_get (saved_entries document saved) k ≡ Some part →
      IsPartAt table (fib_pair saved.stream.wd part.number) part
  pub wd_small : length saved.stream.wd < 2 ^ 32
  pub has_wd : HasNamed contents.streams wd_name saved.stream.wd
  pub has_table : HasNamed contents.streams (table_stream_name saved.stream.wd) table
  pub clsid : document.carried.clsid ≡ contents.clsid
  pub streams : document.carried.streams ≡ carried_streams contents.streams
