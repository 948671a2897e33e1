-- How large the full save of a small document is. It belongs to full_save.
use Rattle.std.proofs.Common.{◌≡◌, ◌∙◌, sym, ap, subst, ℕ, ◌+◌, ◌*◌, ◌/◌, ◌≤◌}
use Rattle.std.proofs.Common.{List, [], ◌∷◌, ◌++◌, length, arith, length-append}
use Rattle.std.specs.Prelude.{nat_lt}
use Rattle.std.proofs.Common.{ltb-true}
use Rattle.std.proofs.lemmas.Bool.{cond_both}
use Rattle.fkp_pages.specs.declared.kind.PageKind.{PageKind}
use Rattle.fkp_pages.specs.declared.kind.PageKind.TheVariants.{Chpx, Papx}
use Rattle.fkp_pages.specs.PageBytes.{last_fc}
use Rattle.fkp_pages.specs.InARow.{numbered_bins}
use Rattle.fkp_pages.proofs.Public.{length-printed_bin, length-numbered_bins}
use Rattle.cfb_streams.specs.Contents.{NamedBytes}
use Rattle.cfb_layout.specs.Sectors.{padded_to_unit}
use Rattle.cfb_layout.specs.Counts.{large_len, small_len, mini_counts, large_counts, sector_counts, sectors_needed}
use Rattle.cfb_layout.specs.Layout.{lengths_of}
use Rattle.cfb_layout.proofs.Public.{length-padded}
use Rattle.doc_model.specs.declared.document.Document.{Document}
use Rattle.doc_model.specs.Collected.{sections_of}
use Rattle.doc_model.specs.Formed.{IsFormed}
use Rattle.plain_doc.specs.RightDocument.{IsValidDocument}
use Rattle.plain_doc.proofs.Public.{sound_is_valid}
use Rattle.full_save.specs.Text.{text_items}
use Rattle.full_save.specs.Sections.{sepxes}
use Rattle.full_save.specs.Streams.{put_stream, saved_streams}
use Rattle.full_save.specs.WordDocument.{text_bytes, document_runs, document_pages, bin_table, wd_body, wd_stream}
use Rattle.full_save.specs.WordDocument.{table_stream, full_text, first_character_page, first_paragraph_page}
use Rattle.full_save.specs.Layout.{layout_streams}
use Rattle.full_save.proofs.Public.{whole_pages, length-pages, length-text, length-wd_stream}
use Rattle.edit_generator.specs.FewRuns.{runs_of}
use Rattle.edit_generator.specs.SmallSaves.{IsSmallDocument, HasSmallSave, SmallDocumentsHaveSmallSaves}

-- ---- the sectors of two streams

large_few : (len : ℕ) → large_len len ≤ len
large_few len = cond_both (nat_lt len 4096) 0 len (λ n. n ≤ len) (λ e. omega arith) (λ e. omega arith)

small_few : (len : ℕ) → small_len len ≤ 4095
small_few len = cond_both (nat_lt len 4096) len 0 (λ n. n ≤ 4095) (λ e. let less = ltb-true len 4096 e in
    omega (arith, less)) (λ e. omega arith)

two_streams : (one other : ℕ) → sectors_needed (one ∷ other ∷ []) ≤ 20 + ((one + 511) / 512 + (other + 511) / 512) +
    (18 + ((one + 511) / 512 + (other + 511) / 512) + 126) / 127
unfolding sectors_needed sector_counts large_counts mini_counts
two_streams one other =
    let a = large_few one in
    let b = large_few other in
    let c = small_few one in
    let d = small_few other in
    omega (arith, a, b, c, d)

layout_is : (table wd : List ℕ) (others : List NamedBytes) → others ≡ [] → lengths_of (saved_streams table wd others)
    ≡ length table ∷ length wd ∷ []
unfolding put_stream
layout_is table wd others none = ap (λ streams. lengths_of (saved_streams table wd streams)) none

-- ---- the parts of WordDocument

module _ (document : Document) (formed : IsFormed document) (right : IsValidDocument document)
    (small : IsSmallDocument document) where
  few_pages : (kind : PageKind) → length (document_pages kind document).starts ≤ runs_of kind document
  few_pages kind = (whole_pages kind document formed right).few

  short_body : length (wd_body document) ≤ 512 * ((2 * length (text_items document) + 511) / 512) + 512 * (1601 + 802)
      + 503
  unfolding wd_body
  short_body =
      let text = text_bytes document in
      let chp = (document_pages Chpx document).bytes in
      let pap = (document_pages Papx document).bytes in
      let sepx = sepxes (sections_of document.main) in
      let units = length-text document in
      let whole = length-padded 512 0 text (omega arith) in
      let a = length-append (padded_to_unit 512 0 text) (chp ++ (pap ++ sepx)) in
      let b = length-append chp (pap ++ sepx) in
      let c = length-append pap sepx in
      let chp_size = length-pages Chpx document formed right in
      let pap_size = length-pages Papx document formed right in
      let chp_pages = few_pages Chpx in
      let pap_pages = few_pages Papx in
      let chp_runs = small.characters in
      let pap_runs = small.paragraphs in
      let sections = small.sections in
      omega (arith, units, whole, a, b, c, chp_size, pap_size, chp_pages, pap_pages, chp_runs, pap_runs, sections)

  length-bin : (kind : PageKind) (number : ℕ) → length (bin_table kind (document_runs kind document) number) ≡ 4 + 8 *
      length (document_pages kind document).starts
  length-bin kind number =
      let starts = (document_pages kind document).starts in
      length-printed_bin (numbered_bins number starts) (last_fc (document_runs kind document))
      ∙ ap (λ n. 4 + 8 * n) (length-numbered_bins number starts)

  layout_lengths : lengths_of (layout_streams document) ≡ length (table_stream document) ∷ length (wd_stream document)
      ∷ []
  unfolding layout_streams
  layout_lengths = layout_is (table_stream document) (wd_stream document) document.carried.streams small.streams

  small_save : HasSmallSave document
  small_save =
      let wd = length-wd_stream document in
      let body = short_body in
      let items = small.items in
      let chp_pages = few_pages Chpx in
      let pap_pages = few_pages Papx in
      let chp_runs = small.characters in
      let pap_runs = small.paragraphs in
      let chp_bin = length-bin Chpx (first_character_page document) in
      let pap_bin = length-bin Papx (first_paragraph_page document) in
      let bins : length (full_text document).characters + length (full_text document).paragraphs ≤ 19232 =
      omega (arith, chp_bin, pap_bin, chp_pages, pap_pages, chp_runs, pap_runs) in
      let rest = small.table in
      let table : length (table_stream document) ≤ 19832 = omega (arith, bins, rest) in
      let short : length (wd_stream document) ≤ 1304300 + 1024 = omega (arith, wd, body, items) in
      let two = two_streams (length (table_stream document)) (length (wd_stream document)) in
      let needed : sectors_needed (length (table_stream document) ∷ length (wd_stream document) ∷ []) ≤ 2650 =
      omega (arith, two, table, short) in
      record {
        sectors = subst (λ lengths. sectors_needed lengths ≤ 2650) (sym layout_lengths) needed;
        bins = omega (arith, bins);
        table = omega (arith, table);
      }

pub small_saves : SmallDocumentsHaveSmallSaves
small_saves document formed sound small = small_save document formed (sound_is_valid document sound) small
