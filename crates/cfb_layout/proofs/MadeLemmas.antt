-- The canonical container is an image.
use Rattle.std.proofs.Common.{◌≡◌, inl, inr, ℕ, ◌+◌, ◌*◌, ◌^◌, ◌<◌, ◌≤◌, List, ◌++◌, length, take, replicate}
use Rattle.std.proofs.Common.{slice_index, slice_index_or, sum, refl, ap, ◌∙◌, arith}
use Rattle.std.specs.List.{flat_map, range_with_len}
use Rattle.std.proofs.lemmas.Bool.{cases_lt}
use Rattle.std.proofs.lemmas.List.{get_or_append_left}
use Rattle.std.proofs.lemmas.List.FromFn.{length-range_with_len, get_or-range_with_len}
use Rattle.doc_bits.specs.Number.{number_at, number_bytes, u32_at}
use Rattle.doc_bits.specs.Rules.{Hold}
use Rattle.doc_bits.proofs.Public.{number_at-after, number_at-before}
use Rattle.cfb_streams.specs.Contents.{NamedBytes, AreStreams}
use Rattle.cfb_sectors.specs.Opening.{signature}
use Rattle.cfb_streams.specs.Container.{container_rules, HasContents}
use Rattle.cfb_layout.specs.Sectors.{units_for, padded_to_unit, chains_from, table_bytes, free_sector, fat_sector_mark}
use Rattle.cfb_layout.specs.Fields.{fields_bytes}
use Rattle.cfb_layout.specs.Counts.{mini_counts, sector_counts, fat_count, first_sector}
use Rattle.cfb_layout.specs.Entries.{entry_bytes}
use Rattle.cfb_layout.specs.Layout.{lengths_of, no_stream, large_part, mini_stream, fat, directory_entry}
use Rattle.cfb_layout.specs.Layout.{directory_bytes, parts, header_fields, fat_numbers, header_bytes, compound_file}
use Rattle.cfb_layout.specs.Layout.{contents_of}
use Rattle.cfb_layout.specs.Laws.{AreLayoutStreams}
use Rattle.cfb_layout.proofs.BytesLemmas.{blocks_at, entry_at, field_at, padded_at, filled_at, length-padded}
use Rattle.cfb_layout.proofs.SectorLemmas.{length-chains_from, chains_below}
use Rattle.cfb_layout.proofs.CountLemmas.{length-sector_counts, counts_mini_fat, counts_directory, sectors-needed}
use Rattle.cfb_layout.proofs.CountLemmas.{length-lengths_of}
use Rattle.cfb_layout.proofs.SectorLemmas.{start_room}
use Rattle.cfb_layout.proofs.EntryLemmas.{length-entry_bytes, entry_reads}
use Rattle.cfb_layout.proofs.FileLemmas.{entries_whole, fats_few, length-fields, length-header_bytes}
use Rattle.cfb_layout.proofs.FileLemmas.{length-compound_file, length-fat_numbers, part_stream, part_behind}
use Rattle.cfb_layout.proofs.FileLemmas.{length-table_bytes, length-directory_bytes, length-fat, file_at, file_number}
use Rattle.cfb_layout.proofs.FileLemmas.{start_all}
use Rattle.cfb_layout.proofs.Image.{IsEntryAt, IsHeaderOf, HasTables, IsImage, part_place}
use Rattle.cfb_layout.proofs.PartLemmas.{large_whole, large_empty}
use Rattle.cfb_layout.proofs.ImageStreams.{image_contents}
use Rattle.cfb_layout.proofs.ImageAccepted.{image_holds}
use Rattle.cfb_layout.proofs.WritableLemmas.{first_below, bounded, entry_writable}

-- the entries of the directory
made_entry : (streams : List NamedBytes) (clsid : List ℕ) (k : ℕ) → AreStreams streams → AreLayoutStreams streams clsid
    →
    k < 4 * slice_index (sector_counts (lengths_of streams)) (length (lengths_of streams) + 2) →
    IsEntryAt (compound_file streams clsid) (directory_entry streams clsid k) (part_place (sector_counts
    (lengths_of streams)) (length (lengths_of streams) + 2) + 128 * k)
unfolding directory_bytes
made_entry streams clsid k are lay low =
    let lengths = lengths_of streams in
    let counts = sector_counts lengths in
    let n = length-lengths_of streams in
    let i = length lengths + 2 in
    let count = counts_directory lengths in
    let many = ap (λ m. units_for 4 (m + 1)) n in
    let part = part_behind streams clsid i 2 refl in
    let len = length-directory_bytes streams clsid are lay.clsid_len in
    let size = ap length part in
    let file = compound_file streams clsid in
    let all = length-compound_file streams clsid are lay in
    let c = length-sector_counts lengths in
    let room = start_room counts i (omega arith) in
    let whole : (j : ℕ) → length (entry_bytes (directory_entry streams clsid j)) ≡ 128 = λ j. length-entry_bytes
    (directory_entry streams clsid j) (entries_whole streams clsid j are lay.clsid_len) in
    let same : 0 + k ≡ k = omega arith in
    entry_reads file (directory_entry streams clsid k) (part_place counts i + 128 * k)
    (record {
      room = omega arith;
      bytes = λ x h.
          let place : part_place counts i + 128 * k + x ≡ part_place counts i + (128 * k + x) = omega arith in
          ap (λ p. slice_index file p) place
          ∙ (file_at streams clsid i (128 * k + x) are lay (omega arith) (omega arith)
          ∙ (ap (λ xs. slice_index xs (128 * k + x)) part
          ∙ (blocks_at (λ j. entry_bytes (directory_entry streams clsid j)) 128 0 (4 * units_for 4 (length streams +
          1)) k x (128 * k + x) whole (omega arith) h refl
          ∙ ap (λ j. slice_index (entry_bytes (directory_entry streams clsid j)) x) same)));
    })
    (entry_writable streams clsid k are lay)

-- an entry of a table in sectors
table_number : (entries : List ℕ) (s : ℕ) → s < length entries → slice_index entries s < 2 ^ 32 →
    number_at (table_bytes entries) (4 * s) 4 ≡ slice_index entries s
table_number entries s h low =
    let len = length-padded 128 free_sector entries (omega arith) in
    let here = padded_at 128 free_sector entries s h in
    entry_at 4 (padded_to_unit 128 free_sector entries) s (4 * s) (omega arith) (omega arith) refl ∙ here

-- the FAT and the mini FAT
fat_front : (lengths : List ℕ) (s : ℕ) → s < sum (sector_counts lengths) → slice_index (fat lengths) s ≡ slice_index
    (chains_from 0 (sector_counts lengths)) s
unfolding fat
fat_front lengths s h =
    let len = length-chains_from 0 (sector_counts lengths) in
    get_or_append_left (chains_from 0 (sector_counts lengths)) (replicate (fat_count lengths) fat_sector_mark) 0 s
    (omega arith)

made_tables : (streams : List NamedBytes) (clsid : List ℕ) → AreStreams streams → AreLayoutStreams streams clsid →
    HasTables (compound_file streams clsid) (lengths_of streams)
made_tables streams clsid are lay =
    let lengths = lengths_of streams in
    let counts = sector_counts lengths in
    let minis = mini_counts lengths in
    let n = length-lengths_of streams in
    let b = bounded lengths lay.fits in
    let sectors = b.sectors in
    let few = b.minis in
    let file = compound_file streams clsid in
    record {
      fat = λ s h.
          let i = length lengths + 3 in
          let part = part_behind streams clsid i 3 refl in
          let len = length-fat lengths in
          let size = ap length part ∙ length-table_bytes (fat lengths) in
          let start = start_all lengths in
          let place : 512 * (1 + sum counts) + 4 * s ≡ part_place counts i + 4 * s = omega arith in
          let low = chains_below 0 counts s (omega arith) in
          let front = fat_front lengths s h in
          ap (λ p. u32_at file p) place
          ∙ (file_number streams clsid i (4 * s) 4 are lay (omega arith) (omega arith)
          ∙ (ap (λ xs. number_at xs (4 * s) 4) part ∙ (table_number (fat lengths) s (omega arith) (omega arith) ∙
          front)));
      mini_fat = λ s h.
          let i = length lengths + 1 in
          let part = part_behind streams clsid i 1 refl in
          let len = length-chains_from 0 minis in
          let size = ap length part ∙ length-table_bytes (chains_from 0 minis) in
          let low = chains_below 0 minis s (omega arith) in
          file_number streams clsid i (4 * s) 4 are lay (omega arith) (omega arith)
          ∙ (ap (λ xs. number_at xs (4 * s) 4) part ∙ table_number (chains_from 0 minis) s (omega arith) low);
    }

-- a number of the header
header_number : (streams : List NamedBytes) (clsid : List ℕ) (at width : ℕ) → AreLayoutStreams streams clsid →
    at + width ≤ 504 → number_at (compound_file streams clsid) (8 + at) width ≡ number_at (fields_bytes (header_fields
    (lengths_of streams)) ++ flat_map (number_bytes 4) (fat_numbers 109 (lengths_of streams))) at width
unfolding compound_file header_bytes
header_number streams clsid at width lay room =
    let lengths = lengths_of streams in
    let len = length-header_bytes lengths lay.fits in
    number_at-before (header_bytes lengths) (flat_map (λ part. part) (parts streams clsid)) (8 + at) width (omega arith)
    ∙ number_at-after signature (fields_bytes (header_fields lengths) ++ flat_map (number_bytes 4) (fat_numbers 109
    lengths)) at width

field_number : (streams : List NamedBytes) (clsid : List ℕ) (at width : ℕ) → AreLayoutStreams streams clsid →
    at + width ≤ 68 → number_at (compound_file streams clsid) (8 + at) width ≡ number_at (fields_bytes (header_fields
    (lengths_of streams))) at width
field_number streams clsid at width lay room =
    let lengths = lengths_of streams in
    let len = length-fields lengths in
    header_number streams clsid at width lay (omega arith)
    ∙ number_at-before (fields_bytes (header_fields lengths)) (flat_map (number_bytes 4) (fat_numbers 109 lengths)) at
    width (omega arith)

list_number : (streams : List NamedBytes) (clsid : List ℕ) (k : ℕ) → AreLayoutStreams streams clsid →
    k < fat_count (lengths_of streams) → u32_at (compound_file streams clsid) (76 + 4 * k) ≡ sum (sector_counts
    (lengths_of streams)) + k
unfolding fat_numbers
list_number streams clsid k lay h =
    let lengths = lengths_of streams in
    let numbers = fat_numbers 109 lengths in
    let few = fats_few lengths lay.fits in
    let count = length-fat_numbers lengths lay.fits in
    let len = length-fields lengths in
    let run = length-range_with_len (sum (sector_counts lengths)) (fat_count lengths) in
    let all = (bounded lengths lay.fits).sectors in
    let at : slice_index numbers k ≡ sum (sector_counts lengths) + k =
    filled_at 109 free_sector (range_with_len (sum (sector_counts lengths)) (fat_count lengths)) k (omega arith)
    ∙ get_or-range_with_len (sum (sector_counts lengths)) (fat_count lengths) k 0 h in
    let first : 76 + 4 * k ≡ 8 + (68 + 4 * k) = omega arith in
    let second : 68 + 4 * k ≡ length (fields_bytes (header_fields lengths)) + 4 * k = omega arith in
    ap (λ p. u32_at (compound_file streams clsid) p) first
    ∙ (header_number streams clsid (68 + 4 * k) 4 lay (omega arith)
    ∙ (ap (λ p. u32_at (fields_bytes (header_fields lengths) ++ flat_map (number_bytes 4) numbers) p) second
    ∙ (number_at-after (fields_bytes (header_fields lengths)) (flat_map (number_bytes 4) numbers) (4 * k) 4
    ∙ (entry_at 4 numbers k (4 * k) (omega arith) (omega arith) refl ∙ at))))

signed : (streams : List NamedBytes) (clsid : List ℕ) → take 8 (compound_file streams clsid) ≡ signature
unfolding compound_file header_bytes
signed streams clsid = refl

made_header : (streams : List NamedBytes) (clsid : List ℕ) → AreStreams streams → AreLayoutStreams streams clsid →
    IsHeaderOf (compound_file streams clsid) (lengths_of streams)
made_header streams clsid are lay =
    let lengths = lengths_of streams in
    let counts = sector_counts lengths in
    let fields = header_fields lengths in
    let len = length-compound_file streams clsid are lay in
    let all = sectors-needed lengths in
    let b = bounded lengths lay.fits in
    let sectors = b.sectors in
    let minis = b.minis in
    let count = counts_mini_fat lengths in
    let up : (at width : ℕ) → at + width ≤ 68 → number_at (compound_file streams clsid) (8 + at) width ≡ number_at
    (fields_bytes fields) at width = λ at width room. field_number streams clsid at width lay room in
    let fats_low : fat_count lengths < 256 ^ 4 = omega arith in
    let directory_low : first_sector counts (length lengths + 2) < 256 ^ 4 = let h = first_below counts
    (length lengths + 2) (omega arith) in omega arith in
    let mini_low : first_sector counts (length lengths + 1) < 256 ^ 4 = let h = first_below counts (length lengths +
    1) (omega arith) in omega arith in
    let minis_low : slice_index counts (length lengths + 1) < 256 ^ 4 = omega arith in
    record {
      len = omega arith;
      signed = signed streams clsid;
      version = up 18 2 (omega arith) ∙ field_at fields 5 18 (omega arith) refl (omega arith);
      order = up 20 2 (omega arith) ∙ field_at fields 6 20 (omega arith) refl (omega arith);
      shift = up 22 2 (omega arith) ∙ field_at fields 7 22 (omega arith) refl (omega arith);
      mini_shift = up 24 2 (omega arith) ∙ field_at fields 8 24 (omega arith) refl (omega arith);
      fats = up 36 4 (omega arith) ∙ field_at fields 12 36 (omega arith) refl fats_low;
      directory = up 40 4 (omega arith) ∙ field_at fields 13 40 (omega arith) refl directory_low;
      cutoff = up 48 4 (omega arith) ∙ field_at fields 15 48 (omega arith) refl (omega arith);
      mini_fat = up 52 4 (omega arith) ∙ field_at fields 16 52 (omega arith) refl mini_low;
      mini_fats = up 56 4 (omega arith) ∙ field_at fields 17 56 (omega arith) refl minis_low;
      difats = up 64 4 (omega arith) ∙ field_at fields 19 64 (omega arith) refl (omega arith);
      fat_list = λ k h. list_number streams clsid k lay h;
    }

-- the streams' bytes and the mini stream's
made_large : (streams : List NamedBytes) (clsid : List ℕ) (i x : ℕ) → AreStreams streams → AreLayoutStreams streams
    clsid →
    i < length streams → x < length (large_part (slice_index_or streams i no_stream).bytes) →
    slice_index (compound_file streams clsid) (part_place (sector_counts (lengths_of streams)) i + x) ≡ slice_index
    (slice_index_or streams i no_stream).bytes x
made_large streams clsid i x are lay low less =
    let bytes = (slice_index_or streams i no_stream).bytes in
    let part = part_stream streams clsid i low in
    let size = ap length part ∙ length-padded 512 0 (large_part bytes) (omega arith) in
    file_at streams clsid i x are lay (omega arith) (omega arith)
    ∙ (ap (λ xs. slice_index xs x) part
    ∙ (padded_at 512 0 (large_part bytes) x less
    ∙ elim (cases_lt (length bytes) 4096) as (λ _. slice_index (large_part bytes) x ≡ slice_index bytes x) [
      | inl small ↦ let none = ap length (large_empty bytes small) in absurd (omega arith)
      | inr large ↦ ap (λ xs. slice_index xs x) (large_whole bytes large)
    ]))

made_small : (streams : List NamedBytes) (clsid : List ℕ) (x : ℕ) → AreStreams streams → AreLayoutStreams streams clsid
    →
    x < length (mini_stream streams) → slice_index (compound_file streams clsid) (part_place (sector_counts
    (lengths_of streams)) (length (lengths_of streams)) + x) ≡ slice_index (mini_stream streams) x
made_small streams clsid x are lay less =
    let lengths = lengths_of streams in
    let n = length-lengths_of streams in
    let part = part_behind streams clsid (length lengths) 0 (omega arith) in
    let size = ap length part ∙ length-padded 512 0 (mini_stream streams) (omega arith) in
    file_at streams clsid (length lengths) x are lay (omega arith) (omega arith)
    ∙ (ap (λ xs. slice_index xs x) part ∙ padded_at 512 0 (mini_stream streams) x less)

pub made_image : (streams : List NamedBytes) (clsid : List ℕ) → AreStreams streams → AreLayoutStreams streams clsid →
    IsImage (compound_file streams clsid) streams clsid
made_image streams clsid are lay = record {
  header = made_header streams clsid are lay;
  tables = made_tables streams clsid are lay;
  entries = λ k h. made_entry streams clsid k are lay h;
  large = λ i x low less. made_large streams clsid i x are lay low less;
  small = λ x less. made_small streams clsid x are lay less;
}

-- so it is accepted, and read as it was laid out
pub file_holds : (streams : List NamedBytes) (clsid : List ℕ) → AreStreams streams → AreLayoutStreams streams clsid →
    Hold (container_rules (compound_file streams clsid))
file_holds streams clsid are lay = image_holds (compound_file streams clsid) streams clsid (made_image streams clsid
    are lay) are lay

pub file_contents : (streams : List NamedBytes) (clsid : List ℕ) → AreStreams streams → AreLayoutStreams streams clsid →
    HasContents (compound_file streams clsid) (contents_of streams clsid)
file_contents streams clsid are lay = image_contents (compound_file streams clsid) streams clsid (made_image streams
    clsid are lay) are lay
