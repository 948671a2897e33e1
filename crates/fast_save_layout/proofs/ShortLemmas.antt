-- The streams of a save are short, and its file has few sectors, by what is counted.
use Rattle.std.proofs.Common.{◌≡◌, ◌∙◌, refl, ap, inl, inr, ℕ, ◌<◌, ◌≤◌, List, length, arith}
use Rattle.std.proofs.lemmas.Bool.{cases_lt}
use Rattle.cfb_sectors.specs.Header.{sector_count}
use Rattle.cfb_streams.specs.Names.{wd_name}
use Rattle.cfb_layout.specs.Counts.{sectors_needed}
use Rattle.cfb_layout.specs.Layout.{lengths_of}
use Rattle.cfb_layout.proofs.Public.{no_file_shorter}
use Rattle.fib_form.specs.Fib.{fib_pair, kept_pairs}
use Rattle.fib_form.specs.FibFields.{fib_fields}
use Rattle.fib_form.specs.TableEntries.{entry, IsPartAt}
use Rattle.fib_form.specs.TableParts.{pair_number}
use Rattle.fib_form.specs.declared.table_parts.TablePart.{TablePart}
use Rattle.fib_form.specs.declared.table_parts.TablePart.TheVariants.{PlcfBteChpx, PlcfBtePapx}
use Rattle.fib_form.proofs.Public.{pair_at-fib_pairs}
use Rattle.fkp_pages.specs.declared.kind.PageKind.TheVariants.{Chpx, Papx}
use Rattle.piece_table.specs.Printing.{IsPrintedClx}
use Rattle.save_laws.specs.SectorCounts.{lengths_in, lengths_of_two}
use Rattle.save_laws.specs.FastSizes.{SaveCounts, reckoned_sectors}
use Rattle.save_laws.specs.FastFiles.{FitCounts}
use Rattle.save_laws.specs.FilesBehind.{AreBehind}
use Rattle.save_laws.proofs.Public.{named_streams_are_renewed, counts_bound_streams, fast_saves_fit, fast_streams_fit}
use Rattle.save_laws.proofs.Public.{saves_behind_are_few}
use Rattle.fast_save_layout.specs.Saves.{FastSave}
use Rattle.fast_save_layout.specs.OldParts.{named_pair}
use Rattle.fast_save_layout.specs.RenewedStreams.{chain_named}
use Rattle.fast_save_layout.specs.Appended.{old_wd, fast_bin_table, fast_table, fast_wd, fast_streams}
use Rattle.fast_save_layout.specs.Answers.{IsAppended, sectors_anew, sectors_in_place, sectors_of}
use Rattle.fast_save_layout.specs.AppendedLengths.{IsSaveCounted}
use Rattle.fast_save_layout.specs.AppendedLengths.{AppendedSavesAreShort, AppendedFilesAreShort, CountedSavesFit}
use Rattle.fast_save_layout.proofs.FilledTable.{table_within}
use Rattle.fast_save_layout.proofs.InPlaceLemmas.{chain_holds}
use Rattle.fast_save_layout.proofs.WrittenLemmas.{Made}
use Rattle.fast_save_layout.proofs.SavedLemmas.{streams_are, layout_is}
use Rattle.fast_save_layout.proofs.SavedInPlace.{anew_needs, in_place_needs, sectors_kept}
use Rattle.fast_save_layout.proofs.StreamLengths.{ready_of, written_of, is_counted, streams_before, streams_after}
use Rattle.fast_save_layout.proofs.StreamLengths.{file_of}
use Rattle.fast_save_layout.proofs.StreamLengths.{has_wd, are_appended, are_fast_streams}

-- ---- the sectors that are needed

few_anew : (counts : SaveCounts) (save : FastSave) (clx : List ℕ) → IsSaveCounted counts save →
    IsPrintedClx save.pieces clx → length (old_wd save) < 4096 → sectors_anew save clx ≤ reckoned_sectors counts
few_anew counts save clx is printed short =
    let fast = are_fast_streams counts save clx is printed short in
    let streams = fast_streams save clx in
    let renewed = named_streams_are_renewed save.file save.contents streams fast.file_of.has_contents fast.anew in
    let least : sectors_needed (lengths_in save.contents) ≤ counts.sectors =
    omega (arith, no_file_shorter save.file save.contents fast.file_of.rules fast.file_of.has_contents, fast.few) in
    let fits : FitCounts counts (lengths_of streams) =
    fast_saves_fit counts fast.written (lengths_of_two fast.anew.before) (lengths_of_two fast.anew.after)
    (lengths_in save.contents) (lengths_of streams) fast.counted fast.appended renewed least in
    fits.few

few_in_place : (counts : SaveCounts) (save : FastSave) (clx : List ℕ) → IsSaveCounted counts save →
    IsPrintedClx save.pieces clx → 4096 ≤ length (old_wd save) → sectors_in_place save clx ≤ reckoned_sectors counts
few_in_place counts save clx is printed long =
    let r = ready_of counts save is in
    let chain = length (chain_named save.contents.streams wd_name) in
    let behind : AreBehind chain (length (fast_table save clx)) (lengths_of_two (streams_before r)) (lengths_of_two
    (streams_after r clx)) = record {
      holds = chain_holds save.file save.contents (old_wd save) (file_of r).has_contents (has_wd r) long;
      filled = table_within save clx;
    } in
    saves_behind_are_few save.file chain (length (fast_table save clx)) counts (written_of r clx)
    (lengths_of_two (streams_before r)) (lengths_of_two (streams_after r clx)) (is_counted counts save clx is printed)
    (are_appended counts save clx is) behind is.sectors

sectors_are_few : (counts : SaveCounts) (save : FastSave) (clx : List ℕ) → IsSaveCounted counts save →
    IsPrintedClx save.pieces clx → sectors_of save clx ≤ reckoned_sectors counts
sectors_are_few counts save clx is printed = elim (cases_lt (length (old_wd save)) 4096) [
  | inl short ↦ omega (arith, anew_needs save clx short, few_anew counts save clx is printed short)
  | inr long ↦ omega (arith, in_place_needs save clx long, few_in_place counts save clx is printed long)
]

pub appended_saves_are_short : AppendedSavesAreShort
appended_saves_are_short counts save clx is printed =
    let r = ready_of counts save is in
    let bounded = counts_bound_streams counts (written_of r clx) (lengths_of_two (streams_before r))
    (lengths_of_two (streams_after r clx)) (is_counted counts save clx is printed) (are_appended counts save clx is) in
    let table = bounded.table_is in
    record {
      wd = bounded.wd_is;
      table = omega (arith, table, table_within save clx);
      bins = bounded.bins;
      sectors = sectors_are_few counts save clx is printed;
    }

pub counted_saves_fit : CountedSavesFit
counted_saves_fit counts save sectors is within needs =
    let few = sectors_are_few counts save needs.clx is needs.printed in
    let many = needs.many in
    let number = needs.number in
    absurd (omega (arith, few, many, number, within))

-- ---- the file

abbrev made_of : (counts : SaveCounts) (save : FastSave) (file : List ℕ) → IsSaveCounted counts save → IsAppended save
    file → Made
made_of counts save file is made = record {
  ready = ready_of counts save is;
  clx = made.clx;
  printed = made.printed;
  few_saves = made.few_saves;
}

few_written : (counts : SaveCounts) (save : FastSave) (file : List ℕ) (is : IsSaveCounted counts save)
    (made : IsAppended save file) → sector_count file ≤ reckoned_sectors counts
few_written counts save file is made =
    let m = made_of counts save file is made in
    let clx = made.clx in
    let streams = fast_streams save clx in
    elim made.written [
      | inl anew ↦
          let fit = fast_streams_fit save.file save.contents counts streams
          (are_fast_streams counts save clx is made.printed anew.short) in
          let few = fit.few save.contents.clsid (streams_are m) (layout_is m anew.fits) in
          omega (arith, few, ap sector_count anew.file_is)
      | inr kept ↦
          let few = few_in_place counts save clx is made.printed kept.long in
          let after = sectors_kept m file kept.in_place in
          omega (arith, few, after)
    ]

-- the pair of a part has the length of its bytes
pair_length : (save : FastSave) (file : List ℕ) (made : IsAppended save file) (part : TablePart) (bytes : List ℕ) →
    pair_number part < kept_pairs →
    IsPartAt (fast_table save made.clx) (fib_pair (fast_wd save made.clx) (pair_number part)) (entry (pair_number part)
    bytes) →
    (named_pair (fib_fields (fast_wd save made.clx)) part).1 ≡ length bytes
pair_length save file made part bytes below is =
    ap (λ (pair : ℕ × ℕ). pair.1) (pair_at-fib_pairs (fast_wd save made.clx) (pair_number part) below) ∙ is.len

pub appended_files_are_short : AppendedFilesAreShort
appended_files_are_short counts save file is made =
    let short = appended_saves_are_short counts save made.clx is made.printed in
    let chp = pair_length save file made PlcfBteChpx (fast_bin_table Chpx save) (omega arith)
    (made.saved.parts 5 (entry 12 (fast_bin_table Chpx save)) refl) in
    let pap = pair_length save file made PlcfBtePapx (fast_bin_table Papx save) (omega arith)
    (made.saved.parts 6 (entry 13 (fast_bin_table Papx save)) refl) in
    let bins = short.bins in
    record {
      sectors = few_written counts save file is made;
      bins = omega (arith, bins, chp, pap);
    }
