-- The file of a full save is opened as what it was made of.
use Rattle.std.specs.Prelude.{ℕ, List, max}
use Rattle.std.proofs.Common.{◌≡◌, ◌∙◌, ◌^◌, ◌<◌, ◌≤◌, [], refl, sym, ap, subst, length}
use Rattle.std.proofs.Common.{arith}
use Rattle.std.proofs.lemmas.List.Elements.{All-nil, All-cons}
use Rattle.doc_bits.specs.Number.{AreBytes}
use Rattle.doc_bits.specs.Rules.{Hold, IsFirstOffset}
use Rattle.doc_bits.proofs.Public.{hold_or_first}
use Rattle.cfb_streams.specs.Contents.{Contents, HasNamed}
use Rattle.cfb_streams.specs.Container.{container_rules, HasContents}
use Rattle.cfb_streams.specs.Names.{wd_name}
use Rattle.cfb_streams.proofs.Public.{contents_unique}
use Rattle.fib_form.specs.FibFields.{FibFields, fib_fields, text_length}
use Rattle.fib_form.specs.FibRules.{fib_rules}
use Rattle.prop_map.specs.Modifiers.{no_modifier}
use Rattle.piece_table.specs.Piece.{TextPiece, one_piece, total_length}
use Rattle.piece_table.proofs.Public.{length-flat_pieces}
use Rattle.doc_model.specs.declared.document.Document.{Document}
use Rattle.full_save.specs.Text.{text_items}
use Rattle.full_save.specs.WordDocument.{wd_stream, table_stream, text_offset, full_fib}
use Rattle.full_save.specs.Layout.{full_save_image}
use Rattle.full_save.proofs.Public.{LaidOut, fib_read, few_items}
use Rattle.plain_doc.proofs.Public.{sound_is_valid}
use Rattle.fib_form.specs.declared.table_parts.TablePart.TheVariants.{Clx}
use Rattle.file_rules.specs.FileRules.{FileText, doc_source_of, table_stream_name}
use Rattle.file_rules.proofs.Public.{named_one}
use Rattle.doc_read.proofs.Public.{named_bytes, text_fits, part_bytes_are}
use Rattle.fast_save.specs.declared.ledgers.Counts.{Counts}
use Rattle.fast_save.specs.Laws.{IsSavable}
use Rattle.fast_save.specs.Ledgers.{AreCountsOf, AreUnmodified, longest_modifier, after_full}
use Rattle.fast_save.specs.Started.{IsOpenFile}
use Rattle.fast_save.proofs.FullFileLemmas.{full_saves_are_read, within}
use Rattle.fast_save.proofs.OpenLemmas.{container_holds, table_holds}
use Rattle.session_text.proofs.Public.{none_printed}

-- a FIB that breaks no rule has no fault
pub no_fib_fault : (wd : List ℕ) (rule place : ℕ) → Hold (fib_rules wd) → IsFirstOffset (fib_rules wd) rule place → ⊥
no_fib_fault wd rule place holds first =
    hold_or_first (λ a b. a ≤ b) (fib_rules wd) rule place (tt, (tt, (tt, (tt, (tt, (tt, (tt, (tt, tt)))))))) holds
    first

short_table : (document : Document) → IsSavable document → length (table_stream document) < 2 ^ 32
short_table document is = let most = within document is in omega (arith, most.table)

-- ---- the file of a full save

abbrev laid_out : (document : Document) → IsSavable document → LaidOut
laid_out document is = record {
  document = document;
  formed = is.formed;
  right = sound_is_valid document is.sound;
  short = short_table document is;
}

module _ (document : Document) (is : IsSavable document) (bytes : AreBytes (full_save_image document)) where
  abbrev pub image : List ℕ
  image = full_save_image document

  pub image_holds : Hold (container_rules image)
  image_holds = container_holds image (full_saves_are_read document is).holds.rules

  pub image_wd : (full_saves_are_read document is).holds.parts.text.wd ≡ wd_stream document
  image_wd = ap (λ (t : FileText). t.wd) (full_saves_are_read document is).text_is

  -- its FIB is that of the layout
  pub image_fib : Hold (fib_rules (wd_stream document))
  image_fib = (fib_read (laid_out document is)).rules

  pub image_fields : fib_fields (wd_stream document) ≡ full_fib document
  image_fields = (fib_read (laid_out document is)).fields

  -- its streams have the WordDocument of the layout
  pub image_has_wd : (contents : Contents) → HasContents image contents →
      HasNamed contents.streams wd_name (wd_stream document)
  image_has_wd contents has =
      let read = full_saves_are_read document is in
      let same : contents ≡ read.holds.parts.contents =
      contents_unique image contents read.holds.parts.contents has read.holds.has_parts.has_contents in
      let there : HasNamed contents.streams wd_name read.holds.parts.text.wd =
      subst (λ (c : Contents). HasNamed c.streams wd_name read.holds.parts.text.wd) (sym same)
      read.holds.has_parts.has_text.has_wd in
      subst (HasNamed contents.streams wd_name) image_wd there

  pub image_wd_is : (contents : Contents) (wd : List ℕ) → HasContents image contents →
      HasNamed contents.streams wd_name wd → wd ≡ wd_stream document
  image_wd_is contents wd has named =
      named_one image contents wd_name wd (wd_stream document) has named (image_has_wd contents has)

  -- the counts of its FIB are those of the text
  pub image_length : text_length (fib_fields (wd_stream document)).ccps ≡ length (text_items document)
  image_length =
      let read = full_saves_are_read document is in
      let parts = read.holds.parts in
      let has = read.holds.has_parts in
      let text = parts.text in
      let table =
      named_bytes image parts.contents (table_stream_name text.wd) text.table bytes has.has_contents
      has.has_text.has_table in
      let fits =
      text_fits text.wd text.table text.pieces (part_bytes_are (doc_source_of text) Clx table)
      (table_holds image parts read.holds.rules has) has.has_text.has_pieces in
      let pieces : text.pieces ≡ one_piece text_offset (length (text_items document)) =
      ap (λ (t : FileText). t.pieces) read.text_is in
      let total = length-flat_pieces text.pieces in
      let one = ap total_length pieces in
      let same = ap (λ (wd : List ℕ). text_length (fib_fields wd).ccps) image_wd in
      let all = fits.total in
      omega (arith, same, all, total, one)

  pub image_some : 1 ≤ length (text_items document)
  image_some = (few_items document (sound_is_valid document is.sound)).some

  -- it is opened as the streams that it has, the FIB of the layout, and one piece
  abbrev pub full_open : (fib : FibFields) (contents : Contents) (pieces : List TextPiece) → HasContents image
      contents →
      fib ≡ fib_fields (wd_stream document) → pieces ≡ one_piece text_offset (length (text_items document)) →
      IsOpenFile (record { document = document; fib = fib; contents = contents; pieces = pieces })
  full_open fib contents pieces has fib_is pieces_are =
      let read = full_saves_are_read document is in
      record {
        file = image;
        bytes = bytes;
        is = record {
          accepted = read.accepted;
          holds = read.holds;
          sound = is.sound;
          contents = contents_unique image contents read.holds.parts.contents has read.holds.has_parts.has_contents;
          fib = fib_is ∙ sym (ap (λ (wd : List ℕ). fib_fields wd) image_wd);
          pieces = pieces_are ∙ sym (ap (λ (t : FileText). t.pieces) read.text_is);
        };
      }

-- ---- its counts

pub full_quick_saves : (document : Document) → (full_fib document).quick_saves ≡ 0
unfolding full_fib
full_quick_saves document = refl

one_none : (at len : ℕ) → AreUnmodified (one_piece at len)
one_none at len =
    All-cons (λ (piece : TextPiece). piece.modifier ≡ no_modifier) _ [] refl
    (All-nil (λ (piece : TextPiece). piece.modifier ≡ no_modifier))

one_printed : (at len : ℕ) → longest_modifier (one_piece at len) ≡ 0
one_printed at len = ap (max 0) none_printed

pub counts_in_full : (at len sectors bin_bytes : ℕ) (counts : Counts) →
    AreCountsOf (one_piece at len) sectors bin_bytes counts → counts ≡ after_full sectors bin_bytes
counts_in_full at len sectors bin_bytes counts is =
    let modified = is.modified.1 (one_none at len) in
    let printed = is.printed ∙ one_printed at len in
    let pieces = is.pieces_are in
    λ i. record {
      pieces = pieces i;
      modified = modified i;
      printed = printed i;
      sectors = is.sectors_are i;
      bin_bytes = is.bin_bytes_are i;
      units = is.units i;
      sections = is.sections i;
      runs = is.runs i;
    }
