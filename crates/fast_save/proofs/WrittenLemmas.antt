-- A session can be saved with its text written again: the new text is one of its document, and is counted.
use Rattle.std.specs.Prelude.{MatchOption}
use Rattle.std.specs.Option.{option_map, unwrap_or}
use Rattle.std.proofs.Common.{◌≡◌, ◌∙◌, refl, sym, ap, subst, inl, inr, ℕ, ◌+◌, ◌*◌, ◌^◌, ◌<◌, ◌≤◌}
use Rattle.std.proofs.Common.{List, length, Option, Some, None, arith}
use Rattle.cfb_streams.specs.Names.{wd_name}
use Rattle.fib_form.specs.FibFields.{fib_fields}
use Rattle.fkp_pages.specs.declared.kind.PageKind.TheVariants.{Papx}
use Rattle.piece_table.specs.Piece.{PieceTable, ArePieces, total_length}
use Rattle.doc_model.specs.declared.document.Document.{Document}
use Rattle.doc_model.specs.Document.{IsFormedText}
use Rattle.doc_model.specs.Formed.{IsFormed}
use Rattle.save_laws.specs.Ends.{ends_of}
use Rattle.save_laws.specs.Slots.{document_slots}
use Rattle.fast_save_layout.specs.AddedPages.{HasParagraphBins, HavePages}
use Rattle.fast_save_layout.proofs.Public.{Ready, paragraphs_within, paragraphs_named, old_table_is}
use Rattle.session_text.specs.SessionText.{ArePlannedSections, unwritten_count}
use Rattle.session_text.specs.WrittenAgain.{IsWrittenAgain}
use Rattle.session_text.specs.declared.old_pieces.OldPieces.{OldPieces}
use Rattle.session_text.specs.declared.old_pieces.OldPieces.TheVariants.{Kept, Marking, Modified}
use Rattle.session_text.specs.declared.session_text.SessionText.{SessionText}
use Rattle.session_text.proofs.Public.{sound_count, whole_length, text_counted}
use Rattle.fast_save.specs.declared.ledgers.Counts.{Counts}
use Rattle.fast_save.specs.declared.parts.SessionParts.{SessionParts}
use Rattle.fast_save.specs.Session.{IsSession, saved_stream}
use Rattle.fast_save.specs.Started.{IsReadFile}
use Rattle.fast_save.specs.Fast.{IsCountedText, CanSaveFast, save_in}
use Rattle.fast_save.specs.Written.{with_text, IsFitting, IsTooMuch, IsTextToWrite, IsTextOfFewer, CanWrite}
use Rattle.fast_save.specs.Written.{pieces_after}
use Rattle.fast_save.proofs.CanLemmas.{can_append}
use Rattle.fast_save.proofs.OpenLemmas.{named_short}

-- ---- the session with another text

session_again : (file : List ℕ) (document : Document) (parts : SessionParts) (which : OldPieces) (text : SessionText) →
    IsSession file document parts → IsWrittenAgain document which parts.text text →
    IsSession file document (with_text parts text)
session_again file document parts which text session again = record {
  bytes = session.bytes;
  accepted = session.accepted;
  saved = session.saved;
  held = session.held;
  sound = session.sound;
  carried = session.carried;
  text = again.text (saved_stream session.held) session.text;
  bounded = λ file_bounded. again.bounded (saved_stream session.held) (session.bounded file_bounded);
  fit = again.fit session.fit;
  sections =
      subst (λ (places : List (Option ℕ)). ArePlannedSections session.held.parts.text.wd places document)
      (sym again.beside.sections) session.sections;
  base = again.beside.base ∙ session.base;
  fib = session.fib;
  contents = session.contents;
}

counted_again : (file : List ℕ) (document : Document) (parts : SessionParts) (counts : Counts) (which : OldPieces)
    (text : SessionText) → IsCountedText file parts counts → IsFitting document parts counts which text →
    IsCountedText file (with_text parts text) counts
counted_again file document parts counts which text counted fits =
    let count = fits.again.count in
    let pieces = counted.pieces in
    record {
      pieces = omega (arith, count, pieces);
      modified = λ none. fits.again.modified (counted.modified none);
      printed = fits.again.printed counts.printed counted.printed;
      sectors = counted.sectors;
      few = counted.few;
      bins = counted.bins;
      pages = fits.few.pages;
      text = fits.few.text;
      unwritten =
          subst (λ (places : List (Option ℕ)). unwritten_count places ≤ counts.sections) (sym again_sections)
          counted.unwritten;
    }
  where
    again_sections : text.sections.items ≡ parts.text.sections.items
    again_sections = fits.again.beside.sections

-- ---- the text that is chosen

pub chosen_session : (file : List ℕ) (document : Document) (parts : SessionParts) (counts : Counts)
    (chosen : Option SessionText) → (can : CanWrite file document parts counts) →
    IsTextToWrite document parts counts chosen → IsSession file document (with_text parts (unwrap_or chosen parts.text))
chosen_session file document parts counts None can is = can.session
chosen_session file document parts counts (Some text) can (inl fits) =
    session_again file document parts Modified text can.session fits.again
chosen_session file document parts counts (Some text) can (inr (much, inl fits)) =
    session_again file document parts Marking text can.session fits.again
chosen_session file document parts counts (Some text) can (inr (much, inr (more, fits))) =
    session_again file document parts Kept text can.session fits.again

pub chosen_counted : (file : List ℕ) (document : Document) (parts : SessionParts) (counts : Counts)
    (chosen : Option SessionText) → (can : CanWrite file document parts counts) →
    IsTextToWrite document parts counts chosen →
    IsCountedText file (with_text parts (unwrap_or chosen parts.text)) counts
chosen_counted file document parts counts None can is = can.counted
chosen_counted file document parts counts (Some text) can (inl fits) =
    counted_again file document parts counts Modified text can.counted fits
chosen_counted file document parts counts (Some text) can (inr (much, inl fits)) =
    counted_again file document parts counts Marking text can.counted fits
chosen_counted file document parts counts (Some text) can (inr (much, inr (more, fits))) =
    counted_again file document parts counts Kept text can.counted fits

-- the session can be saved with it
abbrev pub can_written : (file : List ℕ) (document : Document) (parts : SessionParts) (counts : Counts)
    (chosen : Option SessionText) → CanWrite file document parts counts → IsTextToWrite document parts counts chosen →
    CanSaveFast file document (with_text parts (unwrap_or chosen parts.text))
can_written file document parts counts chosen can is = record {
  counts = counts;
  session = chosen_session file document parts counts chosen can is;
  counted = chosen_counted file document parts counts chosen can is;
  judged = can.judged;
}

-- added text alone is tried where both take too much
pub next_text : (document : Document) (parts : SessionParts) (counts : Counts) (text : Option SessionText) →
    IsTooMuch document parts counts Marking →
    MatchOption text (IsTooMuch document parts counts Kept) (IsFitting document parts counts Kept) →
    IsTextOfFewer document parts counts text
next_text document parts counts None much is = (much, is)
next_text document parts counts (Some text) much is = inr (much, is)

-- fewer old pieces are tried where those that have a modifier take too much
pub fewer_text : (document : Document) (parts : SessionParts) (counts : Counts) (text : Option SessionText) →
    IsTooMuch document parts counts Modified → IsTextOfFewer document parts counts text →
    IsTextToWrite document parts counts text
fewer_text document parts counts None much is = (much, is)
fewer_text document parts counts (Some text) much is = inr (much, is)

-- the pieces in place of the old ones are those of the text that was chosen
pub pieces_chosen : (chosen : Option SessionText) (new : Option PieceTable) (old : SessionText) →
    new ≡ option_map (λ text. text.pieces) chosen → pieces_after new old.pieces ≡ (unwrap_or chosen old).pieces.pieces
pieces_chosen None new old is = ap (λ (o : Option PieceTable). pieces_after o old.pieces) is
pieces_chosen (Some text) new old is = ap (λ (o : Option PieceTable). pieces_after o old.pieces) is

-- ---- there is room to write the text again

pub written_count : (file : List ℕ) (document : Document) (parts : SessionParts) → IsSession file document parts →
    total_length parts.text.pieces.pieces ≡ length (document_slots document (ends_of parts.text.ends))
written_count file document parts session =
    text_counted (saved_stream session.held) document parts.text session.text

pub written_few : (file : List ℕ) (document : Document) (parts : SessionParts) → IsSession file document parts →
    total_length parts.text.pieces.pieces ≤ 500001
written_few file document parts session =
    omega (
      arith,
      written_count file document parts session,
      whole_length document (ends_of parts.text.ends),
      sound_count document session.sound,
    )

written_small : (file : List ℕ) (document : Document) (parts : SessionParts) → IsSession file document parts →
    parts.text.added.base ≤ 7144448
written_small file document parts session =
    let held = session.held in
    let opened : IsReadFile held.parts.contents (fib_fields held.parts.text.wd) = record {
      file = file;
      rules = held.rules;
      parts = held.parts;
      has = held.has_parts;
      contents_are = refl;
      fib_is = refl;
    } in
    let short =
    named_short held.parts.contents (fib_fields held.parts.text.wd) opened wd_name held.parts.text.wd
    held.has_parts.has_text.has_wd in
    omega (arith, session.base, short)

pub written_room : (file : List ℕ) (document : Document) (parts : SessionParts) → IsSession file document parts →
    parts.text.added.base + 2 * total_length parts.text.pieces.pieces < 2 ^ 32
written_room file document parts session =
    omega (arith, written_small file document parts session, written_few file document parts session)

-- ---- the pages of the text before it is written

-- the file has a bin table of paragraphs
pub bins_there : (file : List ℕ) (document : Document) (parts : SessionParts) → CanSaveFast file document parts →
    IsFormed document →
    IsFormedText parts.text.added.items → ArePieces parts.text.pieces.pieces →
    HasParagraphBins parts.fib parts.container
bins_there file document parts can formed items pieces =
    let ready : Ready = record {
      save = save_in file document parts;
      can = can_append document parts can formed items pieces;
      formed = formed;
      items = items;
    } in
    record {
      within = paragraphs_within ready;
      named = paragraphs_named ready;
      table = old_table_is Papx ready;
    }

-- the new items can be on pages
pub pages_there : (file : List ℕ) (document : Document) (parts : SessionParts) (which : OldPieces) (text : SessionText) →
    IsSession file document parts → IsWrittenAgain document which parts.text text →
    HavePages text.added.base text.added.items
pages_there file document parts which text session again =
    let few = again.few in
    record {
      short = (again.text (saved_stream session.held) session.text).short;
      small =
          omega (
            arith,
            again.beside.base,
            few,
            written_small file document parts session,
            written_few file document parts session,
          );
    }
