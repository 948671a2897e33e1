-- A table of old ranges and then of those of a row.
use Rattle.std.specs.Prelude.{slice_get, slice_index, ℕ, List}
use Rattle.std.proofs.Common.{◌≡◌, ◌∙◌, ◌++◌, ◌∷◌, ◌+◌, ◌^◌, ◌<◌, ◌≤◌, [], sym, ap, inl, inr, zero, suc, Some, length}
use Rattle.std.proofs.Common.{map, arith}
use Rattle.std.proofs.lemmas.Bool.{cases_lt}
use Rattle.std.proofs.lemmas.Option.{same_Some, none-some}
use Rattle.std.proofs.lemmas.List.{length-append}
use Rattle.doc_bits.proofs.Public.{there_is}
use Rattle.doc_bits.specs.Plc.{plc_cp}
use Rattle.fkp_pages.specs.Bin.{ArePrintableBins, printed_bin, bin_fcs, IsBinPage}
use Rattle.fkp_pages.proofs.PrintedBinLemmas.{printed_table, printed_fc, printed_page, printed_count}
use Rattle.fkp_pages.specs.declared.lists.Bin.{Bin}
use Rattle.fkp_pages.specs.PageBytes.{last_fc}
use Rattle.fkp_pages.specs.Rows.{row_bins, KeepsRanges, AreRangesBefore, LongerTablesNameBoth}
use Rattle.fkp_pages.proofs.RowTableLemmas.{table_of_row}

-- ---- the fcs and the pages of joined ranges

pub fc_before : (old new : List Bin) (end k : ℕ) (bin : Bin) → slice_get old k ≡ Some bin →
    slice_index (bin_fcs (old ++ new) end) k ≡ bin.first
fc_before (bin ∷ old) new end zero it here = ap (λ (b : Bin). b.first) (same_Some bin it here)
fc_before (bin ∷ old) new end (suc k) it here = fc_before old new end k it here
fc_before [] new end k it here = absurd (none-some it here)

page_before : (old new : List Bin) (k : ℕ) (bin : Bin) → slice_get old k ≡ Some bin →
    slice_index (map (λ bin. bin.page) (old ++ new)) k ≡ bin.page
page_before (bin ∷ old) new zero it here = ap (λ (b : Bin). b.page) (same_Some bin it here)
page_before (bin ∷ old) new (suc k) it here = page_before old new k it here
page_before [] new k it here = absurd (none-some it here)

pub fc_behind : (old new : List Bin) (end k : ℕ) →
    slice_index (bin_fcs (old ++ new) end) (length old + k) ≡ slice_index (bin_fcs new end) k
fc_behind [] new end k = let e : 0 + k ≡ k = omega arith in ap (slice_index (bin_fcs new end)) e
fc_behind (bin ∷ old) new end k =
    let e : length (bin ∷ old) + k ≡ suc (length old + k) = omega arith in
    ap (slice_index (bin_fcs (bin ∷ (old ++ new)) end)) e ∙ fc_behind old new end k

page_behind : (old new : List Bin) (k : ℕ) →
    slice_index (map (λ bin. bin.page) (old ++ new)) (length old + k) ≡ slice_index (map (λ bin. bin.page) new) k
page_behind [] new k = let e : 0 + k ≡ k = omega arith in ap (slice_index (map (λ bin. bin.page) new)) e
page_behind (bin ∷ old) new k =
    let e : length (bin ∷ old) + k ≡ suc (length old + k) = omega arith in
    ap (slice_index (map (λ bin. bin.page) (bin ∷ (old ++ new)))) e ∙ page_behind old new k

-- ---- the longer table

pub ranges_kept : (old : List ℕ) (bins more : List Bin) (end before : ℕ) → AreRangesBefore old before bins →
    ArePrintableBins (bins ++ more) end → end < 2 ^ 32 → before ≤ slice_index (bin_fcs more end) 0 →
    KeepsRanges old (printed_bin (bins ++ more) end) before
ranges_kept old bins more end before ranges printable small begins =
    let all = bins ++ more in
    let table = printed_bin all end in
    let many = length-append bins more in
    let count = printed_count all end in
    let fc : (k : ℕ) → k < length bins → plc_cp table k ≡ plc_cp old k = λ k below.
    let found = there_is bins k below in
    printed_fc all end k printable small (omega (arith, below, many))
    ∙ (fc_before bins more end k found.0 found.1 ∙ (ranges.each k found.0 found.1).0) in
    record {
      count = length bins;
      fewer = ranges.fewer;
      there = omega (arith, many, count);
      first = fc;
      page = λ k below.
          let found = there_is bins k below in
          printed_page all end k printable (omega (arith, below, many))
          ∙ (page_before bins more k found.0 found.1 ∙ (ranges.each k found.0 found.1).1);
      ends = λ k below. elim (cases_lt (k + 1) (length bins)) [
        | inl inner ↦ let same = fc (k + 1) inner in inl (omega (arith, same))
        | inr outer ↦
            let at : k + 1 ≡ length bins + 0 = omega (arith, below, outer) in
            let here : plc_cp table (k + 1) ≡ slice_index (bin_fcs more end) 0 =
            printed_fc all end (k + 1) printable small (omega (arith, below, many))
            ∙ (ap (slice_index (bin_fcs all end)) at ∙ fc_behind bins more end 0) in
            inr (omega (arith, here, begins))
      ];
      all = ranges.all;
    }

row_named : (bins more : List Bin) (end : ℕ) → ArePrintableBins (bins ++ more) end → ArePrintableBins more end →
    end < 2 ^ 32 → (fc number : ℕ) → IsBinPage (printed_bin more end) fc number →
    IsBinPage (printed_bin (bins ++ more) end) fc number
row_named bins more end printable own small fc number page =
    let all = bins ++ more in
    let k = page.entry in
    let many = length-append bins more in
    let count = printed_count all end in
    let own_count = printed_count more end in
    let below : k < length more = omega (arith, page.range.below, own_count) in
    let from = page.range.from in
    let to = page.range.to in
    let first = printed_fc more end k own small (omega (arith, below)) in
    let next = printed_fc more end (k + 1) own small (omega (arith, below)) in
    let all_first = printed_fc all end (length bins + k) printable small (omega (arith, below, many))
    ∙ fc_behind bins more end k in
    let at : length bins + k + 1 ≡ length bins + (k + 1) = omega arith in
    let all_next =
    printed_fc all end (length bins + k + 1) printable small (omega (arith, below, many))
    ∙ (ap (slice_index (bin_fcs all end)) at ∙ fc_behind bins more end (k + 1)) in
    record {
      entry = length bins + k;
      range = record {
        below = omega (arith, below, many, count);
        from = omega (arith, from, first, all_first);
        to = omega (arith, to, next, all_next);
      };
      page =
          page.page ∙ (printed_page more end k own below
          ∙ (sym (page_behind bins more k)
          ∙ sym (printed_page all end (length bins + k) printable (omega (arith, below, many)))));
    }

pub longer_tables_name_both : LongerTablesNameBoth
longer_tables_name_both kind wd runs first before old bins row ranges printable begins =
    let own = table_of_row kind wd runs first row in
    let end = last_fc runs in
    let more = row_bins row in
    let table = printed_table (bins ++ more) end printable own.small in
    let some = printable.some in
    let count = printed_count (bins ++ more) end in
    record {
      table = table.table;
      some = omega (arith, some, count);
      keeps = ranges_kept old bins more end before ranges printable own.small begins;
      names = row_named bins more end printable own.printable own.small;
    }
