-- How long the streams are that are written, and that they are those of the file with two of them longer.
use Rattle.std.proofs.Common.{◌≡◌, ◌∙◌, sym, ap, subst, ℕ, ◌+◌, ◌*◌, ◌/◌, ◌<◌, ◌≤◌, Bool}
use Rattle.std.proofs.Common.{cond}
use Rattle.std.proofs.Common.{List, ◌++◌, length, drop, arith, length-append}
use Rattle.std.proofs.lemmas.List.{length-map, length-drop}
use Rattle.std.proofs.lemmas.Option.{same_Some}
use Rattle.std.proofs.Math.Nat.{mul-le-mul_left}
use Rattle.doc_bits.proofs.Public.{from_map, length-range}
use Rattle.doc_bits.specs.Together.{AreTogether}
use Rattle.doc_bits.specs.declared.places.Where.TheVariants.{File}
use Rattle.cfb_streams.specs.Contents.{Stream, NamedBytes, Contents, HasNamed}
use Rattle.cfb_streams.specs.Container.{container_rules, HasContents}
use Rattle.cfb_streams.specs.Names.{wd_name, table_name, is_same_name}
use Rattle.cfb_streams.proofs.Public.{same_name-is, same_name-false}
use Rattle.cfb_layout.specs.Sectors.{filled}
use Rattle.cfb_layout.proofs.Public.{length-filled}
use Rattle.fib_form.specs.Fib.{kept_pairs, form_size}
use Rattle.fib_form.specs.FibFields.{FibFields}
use Rattle.fib_form.specs.FibBytes.{written_fib}
use Rattle.fib_form.specs.declared.table_parts.TablePart.{TablePart}
use Rattle.fib_form.specs.declared.table_parts.TablePart.TheVariants.{PlcfBteChpx, PlcfBtePapx}
use Rattle.fib_form.proofs.Public.{length-written_fib}
use Rattle.fkp_pages.specs.declared.kind.PageKind.{PageKind}
use Rattle.fkp_pages.specs.declared.kind.PageKind.TheVariants.{Chpx, Papx}
use Rattle.piece_table.specs.Printing.{IsPrintedClx}
use Rattle.doc_model.specs.Collected.{sections_of}
use Rattle.file_rules.proofs.Public.{hold_out}
use Rattle.full_save.specs.WordDocument.{table_stream}
use Rattle.full_save.proofs.Public.{entries_are_pairs, table_allowed}
use Rattle.save_laws.specs.Saves.{IsFileOfContents}
use Rattle.save_laws.specs.SectorCounts.{TwoStreams, HasBytesAnew, AreAnew, lengths_of_two}
use Rattle.save_laws.specs.FastSizes.{SaveCounts, WrittenLengths, AreWithinCounts, AreAppended}
use Rattle.save_laws.specs.FastFiles.{AreFastStreams}
use Rattle.save_laws.proofs.Public.{longer_tables_are_short, clx_is_short, name_six, tables_are_short}
use Rattle.fast_save_layout.specs.Saves.{FastSave}
use Rattle.fast_save_layout.specs.OldParts.{named_pair, named_part, StaysWithin}
use Rattle.fast_save_layout.specs.PlannedSections.{planned_sepxes}
use Rattle.fast_save_layout.specs.RenewedStreams.{renewed_bytes, renewed_streams}
use Rattle.fast_save_layout.specs.Appended.{table_name_of, old_wd, old_table, old_bins, bins_end, added_pages}
use Rattle.fast_save_layout.specs.Appended.{first_page}
use Rattle.fast_save_layout.specs.Appended.{added_page_count, added_pages_end, added_bytes, fast_bin_table, fast_text}
use Rattle.fast_save_layout.specs.Appended.{fast_entries}
use Rattle.fast_save_layout.specs.Appended.{fast_table, fast_fib, fast_wd, fast_streams}
use Rattle.fast_save_layout.specs.KeptBins.{kept_bins}
use Rattle.fast_save_layout.specs.AppendedLengths.{bin_bytes_of, IsSaveCounted}
use Rattle.fast_save_layout.proofs.FilledTable.{table_parts, table_bare}
use Rattle.fast_save_layout.proofs.KeptBinLemmas.{kept_are_first}
use Rattle.fast_save_layout.proofs.ReadyLemmas.{Ready, ready, the_text, wd_is, table_is, old_table_is, base_is}
use Rattle.fast_save_layout.proofs.ReadyLemmas.{characters_within, paragraphs_within, characters_named}
use Rattle.fast_save_layout.proofs.ReadyLemmas.{paragraphs_named}
use Rattle.fast_save_layout.proofs.ReadyLemmas.{form_stays}
use Rattle.fast_save_layout.proofs.BodyLemmas.{text_and_pages, body_sizes, body_is}
use Rattle.fast_save_layout.proofs.WrittenLemmas.{sections_fit}
use Rattle.fast_save_layout.proofs.PlannedLemmas.{length-planned_seds}
use Rattle.fast_save_layout.proofs.RunLengths.{sepxes_are_counted}

-- ---- WordDocument

abbrev pub sepxes : Ready → List ℕ
sepxes r = planned_sepxes r.save.places (sections_of r.save.document.main)

pub length-added : (r : Ready) →
    length (added_bytes r.save)
    ≡ 512 * ((2 * length r.save.added + 511) / 512) + 512 * added_page_count r.save + length (sepxes r)
length-added r =
    let size = body_sizes r in
    omega (
      arith,
      ap length (body_is r.save),
      length-append (text_and_pages r.save) (sepxes r),
      size.text,
      size.all,
    )

fib_pairs_count : (save : FastSave) (clx : List ℕ) → length (fast_fib save clx).pairs ≡ kept_pairs
unfolding fast_fib
fib_pairs_count save clx =
    (entries_are_pairs (fast_entries save clx) (table_allowed save.document (fast_text save clx))).count

pub length-fast_wd : (r : Ready) (clx : List ℕ) →
    length (fast_wd r.save clx) ≡ r.save.base + length (added_bytes r.save)
unfolding fast_wd
length-fast_wd r clx =
    let base = base_is r in
    let long = base.long in
    let behind = base.behind in
    let fib = written_fib (fast_fib r.save clx) in
    let end = form_size r.save.fib.form in
    let rest = drop end (old_wd r.save) in
    let head : length fib ≡ end = length-written_fib (fast_fib r.save clx) (fib_pairs_count r.save clx)
    ∙ ap form_size (form_stays r.save clx) in
    let tail = length-drop end (old_wd r.save) in
    let both = length-append fib rest in
    let front = length-filled r.save.base 0 (fib ++ rest) (omega (arith, head, tail, both, long, behind)) in
    omega (arith, front, length-append (filled r.save.base 0 (fib ++ rest)) (added_bytes r.save))

-- ---- the bin tables

-- a table has the bytes that the FIB counts for it
named_length : (r : Ready) (part : TablePart) (bins : List ℕ) → StaysWithin r.save.fib (old_table r.save) part →
    named_part r.save.fib (old_table r.save) part ≡ bins → length bins ≡ (named_pair r.save.fib part).1
named_length r part bins within is =
    let pair = named_pair r.save.fib part in
    let long = length-range (old_table r.save) pair.0 (pair.0 + pair.1) within in
    omega (arith, long, ap length is)

old_bins_length : (r : Ready) →
    length (old_bins Chpx r.save) + length (old_bins Papx r.save) ≡ bin_bytes_of r.save.fib
old_bins_length r =
    omega (
      arith,
      named_length r PlcfBteChpx (old_bins Chpx r.save) (characters_within r) (characters_named r),
      named_length r PlcfBtePapx (old_bins Papx r.save) (paragraphs_within r) (paragraphs_named r),
    )

table_longer : (kind : PageKind) (r : Ready) →
    length (fast_bin_table kind r.save) ≤ length (old_bins kind r.save) + 8 * length (added_pages kind r.save).starts
unfolding fast_bin_table
table_longer kind r =
    let old = old_bins kind r.save in
    let are = old_table_is kind r in
    let kept = kept_are_first old r.save.base are in
    longer_tables_are_short old (kept_bins old r.save.base) (first_page kind r.save) (added_pages kind r.save).starts
    (bins_end kind r.save) are kept.few

abbrev pub new_bin_bytes : Ready → ℕ
new_bin_bytes r = length (fast_bin_table Chpx r.save) + length (fast_bin_table Papx r.save)

new_bins_length : (r : Ready) → new_bin_bytes r ≤ bin_bytes_of r.save.fib + 8 * added_page_count r.save
new_bins_length r = omega (arith, table_longer Chpx r, table_longer Papx r, old_bins_length r)

-- ---- the table stream

table_short : (r : Ready) (clx : List ℕ) →
    length (table_parts r.save clx) ≤ length (table_stream r.save.document) + new_bin_bytes r + length clx
table_short r clx =
    let save = r.save in
    let seds = length-planned_seds 0 (added_pages_end save) save.places (sections_of save.document.main)
    r.can.sections.len in
    let short = tables_are_short save.document (fast_text save clx) seds in
    omega (arith, short)

-- ---- what is written, and that it is counted

abbrev pub ready_of : (counts : SaveCounts) (save : FastSave) → IsSaveCounted counts save → Ready
ready_of counts save is = ready save is.can is.formed is.items

abbrev pub written_of : Ready → List ℕ → WrittenLengths
written_of r clx = record {
  units = length r.save.added;
  pages = added_page_count r.save;
  sepx_bytes = length (sepxes r);
  bin_bytes = new_bin_bytes r;
  clx_bytes = length clx;
}

pub is_counted : (counts : SaveCounts) (save : FastSave) (clx : List ℕ) (is : IsSaveCounted counts save) →
    IsPrintedClx save.pieces clx → AreWithinCounts counts (written_of (ready_of counts save is) clx)
is_counted counts save clx is printed =
    let r = ready_of counts save is in
    let text = is.text in
    let runs = is.runs in
    let sections = is.sections in
    let bins = is.bins in
    let sepx = sepxes_are_counted save.places (sections_of save.document.main)
    (λ k section here. (sections_fit r k section here).short) in
    let least = clx_is_short save.pieces clx counts.prc_bytes printed is.prcs in
    let most = mul-le-mul_left (12 + counts.prc_bytes) is.pieces in
    record {
      text = omega (arith, text);
      sepxes = omega (arith, sepx, sections);
      bins = omega (arith, new_bins_length r, bins, runs);
      clx = omega (arith, least, most);
    }

-- ---- the streams of the file again

abbrev pub streams_before : Ready → TwoStreams
streams_before r = record { wd = old_wd r.save; table = old_table r.save }

-- those of the save, before zeros are put behind the table stream
abbrev pub streams_after : Ready → List ℕ → TwoStreams
streams_after r clx = record { wd = fast_wd r.save clx; table = table_parts r.save clx }

pub file_of : (r : Ready) → IsFileOfContents r.save.file r.save.contents
file_of r = record {
  rules = hold_out File (container_rules r.save.file) r.can.held.rules.0;
  has_contents = subst (HasContents r.save.file) (sym r.can.contents) r.can.held.has_parts.has_contents;
}

pub has_wd : (r : Ready) → HasNamed r.save.contents.streams wd_name (old_wd r.save)
has_wd r =
    subst (λ (c : Contents). HasNamed c.streams wd_name (old_wd r.save)) (sym r.can.contents)
    (subst (HasNamed r.can.held.parts.contents.streams wd_name) (sym (wd_is r)) r.can.held.has_parts.has_text.has_wd)

pub has_table : (r : Ready) → HasNamed r.save.contents.streams (table_name_of r.save) (old_table r.save)
has_table r =
    let streams = r.can.held.parts.contents.streams in
    let named : HasNamed streams (table_name_of r.save) (the_text r).table =
    subst (λ (fib : FibFields). HasNamed streams (table_name fib.which_table) (the_text r).table) (sym r.can.fib)
    r.can.held.has_parts.has_text.has_table in
    subst (λ (c : Contents). HasNamed c.streams (table_name_of r.save) (old_table r.save)) (sym r.can.contents)
    (subst (HasNamed streams (table_name_of r.save)) (sym (table_is r)) named)

bytes_anew : (which : ℕ) (two : TwoStreams) (old : Stream) (new : NamedBytes) →
    renewed_bytes (table_name which) two.wd two.table old ≡ new.bytes → HasBytesAnew which two old new
bytes_anew which two old new is =
    let name = table_name which in
    let by_wd : Bool → List ℕ = λ b. cond b two.wd (cond (is_same_name old.name name) two.table old.bytes) in
    let by_table : Bool → List ℕ = λ b. cond b two.table old.bytes in
    record {
      wd_is = λ same. sym is ∙ ap by_wd ((same_name-is old.name wd_name).1 same);
      table_is = λ same.
          let other = sym (same_name-false old.name wd_name
          (λ wd. absurd (omega (arith, wd.long, same.long, name_six which)))) in
          sym is ∙ (ap by_wd other ∙ ap by_table ((same_name-is old.name name).1 same));
      own = λ no_wd no_table.
          sym is
          ∙ (ap by_wd (sym (same_name-false old.name wd_name no_wd))
          ∙ ap by_table (sym (same_name-false old.name name no_table)));
    }

-- where none are put there the streams are laid out anew
pub have_bytes : (r : Ready) (clx : List ℕ) → length (old_wd r.save) < 4096 →
    AreTogether (HasBytesAnew r.save.fib.which_table (streams_after r clx)) r.save.contents.streams
    (fast_streams r.save clx)
unfolding fast_streams renewed_streams
have_bytes r clx short =
    let which = r.save.fib.which_table in
    let streams = r.save.contents.streams in
    let two : TwoStreams = record { wd = fast_wd r.save clx; table = fast_table r.save clx } in
    let renewed : Stream → NamedBytes =
    λ stream. record { name = stream.name; bytes = renewed_bytes (table_name which) two.wd two.table stream } in
    subst
    (λ (table : List ℕ). AreTogether (HasBytesAnew which (record { wd = fast_wd r.save clx; table = table })) streams
    (fast_streams r.save clx)) (table_bare r.save clx short)
    (record {
      len = sym (length-map streams renewed);
      each = λ k old new here there.
          let found = from_map renewed streams k new there in
          let own : found.0 ≡ old = same_Some found.0 old (sym found.1.0 ∙ here) in
          bytes_anew which two old new
          (ap (λ (s : Stream). (renewed s).bytes) (sym own) ∙ ap (λ (n : NamedBytes). n.bytes) found.1.1);
    })

abbrev pub are_anew : (r : Ready) (clx : List ℕ) → length (old_wd r.save) < 4096 →
    AreAnew r.save.contents.streams (fast_streams r.save clx)
are_anew r clx short = record {
  which = r.save.fib.which_table;
  before = streams_before r;
  after = streams_after r clx;
  have = record { has_wd = has_wd r; has_table = has_table r };
  bytes = have_bytes r clx short;
}

pub are_appended : (counts : SaveCounts) (save : FastSave) (clx : List ℕ) (is : IsSaveCounted counts save) →
    AreAppended counts (written_of (ready_of counts save is) clx)
    (lengths_of_two (streams_before (ready_of counts save is)))
    (lengths_of_two (streams_after (ready_of counts save is) clx))
are_appended counts save clx is =
    let r = ready_of counts save is in
    let base = r.can.base in
    let old = ap length (wd_is r) in
    let table = is.table in
    record {
      wd_is = omega (arith, length-fast_wd r clx, length-added r, base, old);
      table_is = omega (arith, table_short r clx, table);
    }

abbrev pub are_fast_streams : (counts : SaveCounts) (save : FastSave) (clx : List ℕ) (is : IsSaveCounted counts save) →
    IsPrintedClx save.pieces clx → length (old_wd save) < 4096 →
    AreFastStreams save.file save.contents counts (fast_streams save clx)
are_fast_streams counts save clx is printed short =
    let r = ready_of counts save is in
    record {
      written = written_of r clx;
      file_of = file_of r;
      anew = are_anew r clx short;
      few = is.sectors;
      counted = is_counted counts save clx is printed;
      appended = are_appended counts save clx is;
    }
