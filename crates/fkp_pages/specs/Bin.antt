-- [MS-DOC] PlcBteChpx, PlcBtePapx: a Plc of fcs, whose entries name the pages. Its fcs ascend.
use Rattle.std.specs.Prelude.{◌≡◌, ℕ, ◌+◌, ◌-◌, ◌*◌, ◌/◌, ◌%◌, ◌<◌, ◌≤◌, ◌^◌, List, [], ◌∷◌, ◌++◌, length, map}
use Rattle.std.specs.Prelude.{slice_index, slice_range}
use Rattle.std.specs.List.{All, flat_map}
use Rattle.doc_bits.specs.Number.{u32_at, number_bytes}
use Rattle.doc_bits.specs.Plc.{IsPlcOf, plc_cp}
use Rattle.fkp_pages.specs.declared.lists.Bin.{Bin}
use Rattle.fkp_pages.specs.declared.bin_table.BinRange.{BinRange}

-- the number of ranges
abbrev pub bin_count : List ℕ → ℕ
bin_count bin = (length bin - 4) / 8

-- a Plc with entries of 4 bytes, whose fcs ascend
pub record IsBinTable (bin : List ℕ) : Type 0 where
  pub table : IsPlcOf bin 4 (bin_count bin)
  pub ascend : (k : ℕ) → k < bin_count bin → plc_cp bin k < plc_cp bin (k + 1)

-- [MS-DOC] PnFkpChpx, PnFkpPapx: the low 22 bits number a page
abbrev pub page_number : List ℕ → ℕ → ℕ
page_number bin k = u32_at bin (4 * (bin_count bin + 1) + 4 * k) % 2 ^ 22

-- a range reaches from its fc to before the next one
pub record IsBinRange (bin : List ℕ) (fc k : ℕ) : Type 0 where
  pub below : k < bin_count bin
  pub from : plc_cp bin k ≤ fc
  pub to : fc < plc_cp bin (k + 1)

-- the page whose range holds the place
pub record IsBinPage (bin : List ℕ) (fc number : ℕ) : Type 0 where
  pub entry : ℕ
  pub range : IsBinRange bin fc entry
  pub page : number ≡ page_number bin entry

-- the range that holds the place, with its fcs and its page
pub record HasBinRange (bin : List ℕ) (fc : ℕ) (range : BinRange) : Type 0 where
  pub entry : ℕ
  pub holds : IsBinRange bin fc entry
  pub from : range.from ≡ plc_cp bin entry
  pub to : range.to ≡ plc_cp bin (entry + 1)
  pub page : range.page ≡ page_number bin entry

-- no range holds the place
abbrev pub HasNoBin : List ℕ → ℕ → Type 0
HasNoBin bin fc = (k : ℕ) → ¬ (IsBinRange bin fc k)

-- [MS-DOC] a page is at 512 times its number in the stream `WordDocument`
abbrev pub page_at : List ℕ → ℕ → List ℕ
page_at wd number = slice_range wd (512 * number) (512 * number + 512)

-- the fcs of a table of these ranges, of which the last one ends at `end`
abbrev pub bin_fcs : List Bin → ℕ → List ℕ
bin_fcs bins end = map (λ bin. bin.first) bins ++ end ∷ []

-- the table as it is printed: the fcs and then the numbers of the pages
abbrev pub printed_bin : List Bin → ℕ → List ℕ
printed_bin bins end =
    flat_map (number_bytes 4) (bin_fcs bins end) ++ flat_map (number_bytes 4) (map (λ bin. bin.page) bins)

-- ranges that a bin table can have
pub record ArePrintableBins (bins : List Bin) (end : ℕ) : Type 0 where
  pub some : 0 < length bins
  pub ascend : (k : ℕ) → k < length bins → slice_index (bin_fcs bins end) k < slice_index (bin_fcs bins end) (k + 1)
  pub pages : All (λ bin. bin.page < 2 ^ 22) bins

-- the bytes are a bin table, and at each place of a range they name the page of the range
pub record IsBinTableOf (bins : List Bin) (end : ℕ) (bytes : List ℕ) : Type 0 where
  pub table : IsBinTable bytes
  pub count : bin_count bytes ≡ length bins
  pub fcs : (k : ℕ) → k ≤ length bins → plc_cp bytes k ≡ slice_index (bin_fcs bins end) k
  pub found :
      (k fc : ℕ) → k < length bins →
      slice_index (bin_fcs bins end) k ≤ fc → fc < slice_index (bin_fcs bins end) (k + 1) →
      IsBinPage bytes fc (slice_index (map (λ bin. bin.page) bins) k)
