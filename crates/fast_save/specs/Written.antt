-- The text that a fast save writes: one that is written again, where it takes no more than is reckoned, or the text as
-- it was added.
use Rattle.std.specs.Prelude.{◌≡◌, ◌⊎◌, ℕ, ◌+◌, ◌*◌, ◌≤◌, List, length, Option, Some, None}
use Rattle.std.specs.Option.{option_map, unwrap_or}
use Rattle.cfb_layout.specs.Sectors.{units_for}
use Rattle.piece_table.specs.Piece.{PieceTable, TextPiece}
use Rattle.doc_model.specs.declared.document.Document.{Document}
use Rattle.full_save.specs.WordDocument.{table_stream}
use Rattle.session_text.specs.WrittenAgain.{IsWrittenAgain}
use Rattle.session_text.specs.declared.old_pieces.OldPieces.{OldPieces}
use Rattle.session_text.specs.declared.old_pieces.OldPieces.TheVariants.{Kept, Marking, Modified}
use Rattle.session_text.specs.declared.session_text.SessionText.{SessionText}
use Rattle.fast_save.specs.declared.ledgers.Counts.{Counts}
use Rattle.fast_save.specs.declared.parts.SessionParts.{SessionParts}
use Rattle.fast_save.specs.declared.written.WrittenFile.{WrittenFile}
use Rattle.fast_save.specs.Session.{IsSession}
use Rattle.fast_save.specs.Fast.{IsCountedText, IsWithinCounts, CanSaveFast, IsFastFile, written_pages}

-- what a session has, with another text
abbrev pub with_text : SessionParts → SessionText → SessionParts
with_text parts text = record parts { text = text }

-- the pages of the text and the bytes of its units are no more than is reckoned
pub record HasFewPages (parts : SessionParts) (counts : Counts) : Type 0 where
  pub pages : 8 * written_pages parts ≤ 16 * counts.runs + 256
  pub text :
      512 * units_for 512 (2 * length parts.text.added.items) + 512 * written_pages parts
      ≤ 2 * counts.units + 512 * counts.runs + 1536

-- the text is written again, and takes no more than is reckoned
pub record IsFitting (document : Document) (parts : SessionParts) (counts : Counts) (which : OldPieces)
    (text : SessionText) : Type 0 where
  pub again : IsWrittenAgain document which parts.text text
  pub few : HasFewPages (with_text parts text) counts

-- or it takes more
pub record IsTooMuch (document : Document) (parts : SessionParts) (counts : Counts) (which : OldPieces) : Type 0 where
  pub text : SessionText
  pub again : IsWrittenAgain document which parts.text text
  pub much : ¬ HasFewPages (with_text parts text) counts

-- added text and old pieces that set marks are written again; where that takes more than is reckoned, added text alone;
-- and where that does, too, the text stays as it was added
abbrev pub IsTextOfFewer : Document → SessionParts → Counts → Option SessionText → Type 0
IsTextOfFewer document parts counts None =
    IsTooMuch document parts counts Marking × IsTooMuch document parts counts Kept
IsTextOfFewer document parts counts (Some text) =
    IsFitting document parts counts Marking text
    ⊎ (IsTooMuch document parts counts Marking × IsFitting document parts counts Kept text)

-- added text and old pieces that have a modifier are written again, or fewer where that takes more than is reckoned
abbrev pub IsTextToWrite : Document → SessionParts → Counts → Option SessionText → Type 0
IsTextToWrite document parts counts None =
    IsTooMuch document parts counts Modified × IsTextOfFewer document parts counts None
IsTextToWrite document parts counts (Some text) =
    IsFitting document parts counts Modified text
    ⊎ (IsTooMuch document parts counts Modified × IsTextOfFewer document parts counts (Some text))

-- a session on a file, whose counts, which are these, do not refuse a fast save
pub record CanWrite (file : List ℕ) (document : Document) (parts : SessionParts) (counts : Counts) : Type 0 where
  pub session : IsSession file document parts
  pub counted : IsCountedText file parts counts
  pub judged : IsWithinCounts parts.fib.quick_saves counts (length (table_stream document))

abbrev pub can_save : {file : List ℕ} {document : Document} {parts : SessionParts} {counts : Counts} →
    CanWrite file document parts counts → CanSaveFast file document parts
can_save {counts = counts} can = record {
  counts = counts;
  session = can.session;
  counted = can.counted;
  judged = can.judged;
}

-- the pieces that are in place of others, if there are some
abbrev pub pieces_after : Option PieceTable → PieceTable → List TextPiece
pieces_after new old = (unwrap_or new old).pieces

-- the file behind an older one is that of the text that is to be written, whose pieces come with it where they are
-- other ones
pub record IsWrittenFile (file : List ℕ) (document : Document) (parts : SessionParts) (counts : Counts)
    (written : WrittenFile) : Type 0 where
  pub chosen : Option SessionText
  pub is : IsTextToWrite document parts counts chosen
  pub pieces : written.pieces ≡ option_map (λ text. text.pieces) chosen
  pub made :
      (can : CanSaveFast file document (with_text parts (unwrap_or chosen parts.text))) → IsFastFile can written.file
