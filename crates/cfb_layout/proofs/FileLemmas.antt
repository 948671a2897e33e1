-- The canonical container by its parts.
use Rattle.std.proofs.Common.{◌≡◌, inl, inr, ℕ, zero, suc, ◌+◌, ◌-◌, ◌*◌, ◌<◌, ◌≤◌, ltb, List, [], ◌∷◌, ◌++◌, length}
use Rattle.std.proofs.Common.{map, replicate, get_or, slice_index, slice_index_or, sum, refl, ap, ◌∙◌, arith}
use Rattle.std.proofs.Common.{length-append}
use Rattle.std.specs.List.{flat_map, range_with_len}
use Rattle.std.proofs.lemmas.Bool.{cases_lt, cases_eq, ltb-true, cond_both}
use Rattle.std.proofs.lemmas.List.{get_or_append_left, get_or-append_right, get_or-map, length-map, length-replicate}
use Rattle.std.proofs.lemmas.List.{take-append-le, take_all}
use Rattle.std.proofs.lemmas.List.Sums.{sum_by_push}
use Rattle.std.proofs.lemmas.List.FromFn.{length-range_with_len}
use Rattle.std.proofs.lemmas.Option.{slice_get-get_or}
use Rattle.doc_bits.specs.Number.{number_at, number_bytes}
use Rattle.doc_bits.proofs.Public.{number_at-same}
use Rattle.cfb_streams.specs.Contents.{NamedBytes, AreStreams}
use Rattle.cfb_sectors.specs.Opening.{signature}
use Rattle.cfb_layout.specs.Sectors.{units_for, padded_to_unit, chains_from, chain_start, table_bytes, free_sector}
use Rattle.cfb_layout.specs.Sectors.{fat_sector_mark}
use Rattle.cfb_layout.specs.Fields.{fields_bytes}
use Rattle.cfb_layout.specs.Counts.{mini_counts, sector_counts, fat_count, Fits, large_len}
use Rattle.cfb_layout.specs.Entries.{entry_bytes, unused_entry, no_clsid, root_name}
use Rattle.cfb_layout.specs.Layout.{lengths_of, no_stream, large_part, mini_stream, fat, directory_entry}
use Rattle.cfb_layout.specs.Layout.{directory_bytes, stream_entry, parts, header_fields, fat_numbers, header_bytes}
use Rattle.cfb_layout.specs.Layout.{compound_file}
use Rattle.cfb_layout.specs.Laws.{AreLayoutStreams}
use Rattle.cfb_layout.proofs.BytesLemmas.{HaveCounts, length-parts, parts_at, length-blocks, length-table}
use Rattle.cfb_layout.proofs.BytesLemmas.{length-padded, length-filled, length-fields_bytes}
use Rattle.cfb_layout.proofs.SectorLemmas.{length-chains_from}
use Rattle.cfb_layout.proofs.CountLemmas.{length-sector_counts, counts_stream, counts_mini_stream, counts_mini_fat}
use Rattle.cfb_layout.proofs.CountLemmas.{counts_directory, sectors-needed, length-lengths_of, lengths_at}
use Rattle.cfb_layout.proofs.EntryLemmas.{IsWhole, length-entry_bytes}
use Rattle.cfb_layout.proofs.Image.{part_place}
use Rattle.cfb_layout.proofs.PartLemmas.{length-large_part, length-mini_stream}
use Rattle.cfb_layout.proofs.ImageSharing.{all_counts}

-- there are at most 109 FAT sectors
pub fats_few : (lengths : List ℕ) → Fits lengths → fat_count lengths ≤ 109
fats_few lengths fits = let all = sectors-needed lengths in omega arith

pub length-no_clsid : length no_clsid ≡ 16
unfolding no_clsid
length-no_clsid = length-replicate {A = ℕ} 16 0

pub length-root_name : length root_name ≡ 10
unfolding root_name
length-root_name = refl

-- each entry has 128 bytes
pub entries_whole : (streams : List NamedBytes) (clsid : List ℕ) (k : ℕ) → AreStreams streams → length clsid ≡ 16 →
    IsWhole (directory_entry streams clsid k)
entries_whole streams clsid zero are len =
    let root = length-root_name in
    record { few = omega arith; clsid = len }
entries_whole streams clsid (suc i) are len =
    cond_both (ltb i (length streams)) (stream_entry (lengths_of streams) i (slice_index_or streams i no_stream))
    unused_entry IsWhole
    (λ is.
    let low = ltb-true i (length streams) is in
    let short = are.short i (slice_index_or streams i no_stream) (slice_get-get_or streams i no_stream low) in
    record { few = omega arith; clsid = length-no_clsid })
    (λ is. record { few = omega arith; clsid = length-no_clsid })

-- the parts behind the streams
abbrev pub parts_behind : List NamedBytes → List ℕ → List (List ℕ)
parts_behind streams clsid =
    padded_to_unit 512 0 (mini_stream streams)
    ∷ (table_bytes (chains_from 0 (mini_counts (lengths_of streams))) ∷ (directory_bytes streams clsid ∷ (table_bytes
    (fat (lengths_of streams)) ∷ [])))

pub part_stream : (streams : List NamedBytes) (clsid : List ℕ) (i : ℕ) → i < length streams →
    get_or (parts streams clsid) i [] ≡ padded_to_unit 512 0 (large_part (slice_index_or streams i no_stream).bytes)
unfolding parts
part_stream streams clsid i h =
    let len = length-map streams (λ stream. padded_to_unit 512 0 (large_part stream.bytes)) in
    get_or_append_left (map (λ stream. padded_to_unit 512 0 (large_part stream.bytes)) streams) (parts_behind streams
    clsid)
    [] i (omega arith)
    ∙ get_or-map (λ stream. padded_to_unit 512 0 (large_part stream.bytes)) streams i no_stream [] h

pub part_behind : (streams : List NamedBytes) (clsid : List ℕ) (i j : ℕ) → i ≡ length (lengths_of streams) + j →
    get_or (parts streams clsid) i [] ≡ get_or (parts_behind streams clsid) j []
unfolding parts
part_behind streams clsid i j e =
    let n = length-lengths_of streams in
    let len = length-map streams (λ stream. padded_to_unit 512 0 (large_part stream.bytes)) in
    let rest : i - length streams ≡ j = omega arith in
    get_or-append_right (map (λ stream. padded_to_unit 512 0 (large_part stream.bytes)) streams) (parts_behind streams
    clsid)
    (length streams) i [] len (omega arith)
    ∙ ap (λ k. get_or (parts_behind streams clsid) k []) rest

pub length-all_parts : (streams : List NamedBytes) (clsid : List ℕ) → length (parts streams clsid) ≡ length streams + 4
unfolding parts
length-all_parts streams clsid =
    let len = length-map streams (λ stream. padded_to_unit 512 0 (large_part stream.bytes)) in
    let all = length-append (map (λ stream. padded_to_unit 512 0 (large_part stream.bytes)) streams) (parts_behind
    streams
    clsid) in
    omega arith

pub length-fat : (lengths : List ℕ) → length (fat lengths) ≡ sum (sector_counts lengths) + fat_count lengths
unfolding fat
length-fat lengths =
    let a = length-append (chains_from 0 (sector_counts lengths)) (replicate (fat_count lengths) fat_sector_mark) in
    let b = length-chains_from 0 (sector_counts lengths) in
    let c = length-replicate (fat_count lengths) fat_sector_mark in
    omega arith

-- a table takes whole sectors
pub length-table_bytes : (entries : List ℕ) → length (table_bytes entries) ≡ 512 * units_for 128 (length entries)
length-table_bytes entries =
    let a = length-table 4 (padded_to_unit 128 free_sector entries) in
    let b = length-padded 128 free_sector entries (omega arith) in
    omega arith

pub length-directory_bytes : (streams : List NamedBytes) (clsid : List ℕ) → AreStreams streams → length clsid ≡ 16 →
    length (directory_bytes streams clsid) ≡ 512 * units_for 4 (length streams + 1)
unfolding directory_bytes
length-directory_bytes streams clsid are len =
    let blocks = length-blocks (λ k. entry_bytes (directory_entry streams clsid k)) 128 0 (4 * units_for 4
    (length streams + 1)) (λ k. length-entry_bytes (directory_entry streams clsid k) (entries_whole streams clsid
    k are len)) in
    omega arith

-- the counts of all parts
all_at : (lengths : List ℕ) (i : ℕ) → i < length lengths + 3 → slice_index (all_counts lengths) i ≡ slice_index
    (sector_counts lengths) i
all_at lengths i h = get_or_append_left (sector_counts lengths) (fat_count lengths ∷ []) 0 i
    (let len = length-sector_counts lengths in omega arith)

all_last : (lengths : List ℕ) → slice_index (all_counts lengths) (length lengths + 3) ≡ fat_count lengths
all_last lengths =
    let len = length-sector_counts lengths in
    let none : length lengths + 3 - length (sector_counts lengths) ≡ 0 = omega arith in
    get_or-append_right (sector_counts lengths) (fat_count lengths ∷ []) (length (sector_counts lengths))
    (length lengths + 3) 0 refl (omega arith)
    ∙ ap (λ k. slice_index (fat_count lengths ∷ []) k) none

-- the length of the i-th part
length-part : (streams : List NamedBytes) (clsid : List ℕ) (i : ℕ) → AreStreams streams → length clsid ≡ 16 →
    i < length streams + 4 → length (get_or (parts streams clsid) i []) ≡ 512 * slice_index
    (all_counts (lengths_of streams)) i
length-part streams clsid i are len h =
    let lengths = lengths_of streams in
    let n = length-lengths_of streams in
    elim (cases_lt i (length streams)) [
      | inl low ↦
          let bytes = (slice_index_or streams i no_stream).bytes in
          let part = ap length (part_stream streams clsid i low) in
          let size = length-padded 512 0 (large_part bytes) (omega arith) in
          let large = ap (λ m. units_for 512 m) (length-large_part bytes) in
          let here = ap (λ m. units_for 512 (large_len m)) (lengths_at streams i low) in
          let count = all_at lengths i (omega arith) ∙ counts_stream lengths i (omega arith) in
          omega arith
      | inr high ↦ elim (cases_eq i (length streams)) [
        | inl e ↦
            let place : i ≡ length lengths + 0 = omega arith in
            let part = ap length (part_behind streams clsid i 0 place) in
            let size = length-padded 512 0 (mini_stream streams) (omega arith) in
            let stored = ap (λ m. units_for 512 m) (length-mini_stream streams) in
            let same : i ≡ length lengths = omega arith in
            let count = ap (λ k. slice_index (all_counts lengths) k) same ∙ (all_at lengths (length lengths)
            (omega arith) ∙ counts_mini_stream lengths) in
            omega arith
        | inr apart ↦ elim (cases_eq i (length streams + 1)) [
          | inl e ↦
              let place : i ≡ length lengths + 1 = omega arith in
              let part = ap length (part_behind streams clsid i 1 place) in
              let size = length-table_bytes (chains_from 0 (mini_counts lengths)) in
              let entries = ap (λ m. units_for 128 m) (length-chains_from 0 (mini_counts lengths)) in
              let count = ap (λ k. slice_index (all_counts lengths) k) place ∙ (all_at lengths (length lengths + 1)
              (omega arith) ∙ counts_mini_fat lengths) in
              omega arith
          | inr further ↦ elim (cases_eq i (length streams + 2)) [
            | inl e ↦
                let place : i ≡ length lengths + 2 = omega arith in
                let part = ap length (part_behind streams clsid i 2 place) in
                let size = length-directory_bytes streams clsid are len in
                let entries = ap (λ m. units_for 4 (m + 1)) n in
                let count = ap (λ k. slice_index (all_counts lengths) k) place ∙ (all_at lengths (length lengths + 2)
                (omega arith) ∙ counts_directory lengths) in
                omega arith
            | inr last ↦
                let place : i ≡ length lengths + 3 = omega arith in
                let part = ap length (part_behind streams clsid i 3 place) in
                let size = length-table_bytes (fat lengths) in
                let entries = ap (λ m. units_for 128 m) (length-fat lengths) in
                let count = ap (λ k. slice_index (all_counts lengths) k) place ∙ all_last lengths in
                omega arith
          ]
        ]
      ]
    ]

pub file_parts : (streams : List NamedBytes) (clsid : List ℕ) → AreStreams streams → length clsid ≡ 16 →
    HaveCounts (λ part. part) 512 (all_counts (lengths_of streams)) (parts streams clsid) []
file_parts streams clsid are len =
    let lengths = lengths_of streams in
    let n = length-lengths_of streams in
    let all = length-all_parts streams clsid in
    let c = length-sector_counts lengths in
    let d = length-append (sector_counts lengths) (fat_count lengths ∷ []) in
    record { len = omega arith; each = λ i h. length-part streams clsid i are len (omega arith) }

-- the FAT starts behind all other parts
pub start_all : (lengths : List ℕ) → chain_start (sector_counts lengths) (length lengths + 3) ≡ sum (sector_counts
    lengths)
start_all lengths = ap sum (take_all (length lengths + 3) (sector_counts lengths) (let len = length-sector_counts
    lengths in omega arith))

-- the header has 512 bytes
pub length-fields : (lengths : List ℕ) → length (fields_bytes (header_fields lengths)) ≡ 68
length-fields lengths = length-fields_bytes (header_fields lengths)

pub length-fat_numbers : (lengths : List ℕ) → Fits lengths → length (fat_numbers 109 lengths) ≡ 109
unfolding fat_numbers
length-fat_numbers lengths fits =
    let few = fats_few lengths fits in
    let run = length-range_with_len (sum (sector_counts lengths)) (fat_count lengths) in
    length-filled 109 free_sector (range_with_len (sum (sector_counts lengths)) (fat_count lengths)) (omega arith)

pub length-header_bytes : (lengths : List ℕ) → Fits lengths → length (header_bytes lengths) ≡ 512
unfolding header_bytes
length-header_bytes lengths fits =
    let fields = length-fields lengths in
    let numbers = length-fat_numbers lengths fits in
    let table = length-table 4 (fat_numbers 109 lengths) in
    let a = length-append signature (fields_bytes (header_fields lengths) ++ flat_map (number_bytes 4) (fat_numbers
    109 lengths)) in
    let b = length-append (fields_bytes (header_fields lengths)) (flat_map (number_bytes 4) (fat_numbers 109 lengths))
    in
    omega arith

-- all sectors
pub length-compound_file : (streams : List NamedBytes) (clsid : List ℕ) → AreStreams streams → AreLayoutStreams streams
    clsid → length (compound_file streams clsid) ≡ 512 * (1 + (sum (sector_counts (lengths_of streams)) + fat_count
    (lengths_of streams)))
unfolding compound_file
length-compound_file streams clsid are lay =
    let lengths = lengths_of streams in
    let header = length-header_bytes lengths lay.fits in
    let body = length-parts (λ part. part) 512 (all_counts lengths) (parts streams clsid) [] (file_parts streams clsid
    are lay.clsid_len) in
    let all = sum_by_push (λ (x : ℕ). x) (sector_counts lengths) (fat_count lengths) in
    let a = length-append (header_bytes lengths) (flat_map (λ part. part) (parts streams clsid)) in
    omega arith

-- a byte of the i-th part
pub file_at : (streams : List NamedBytes) (clsid : List ℕ) (i x : ℕ) → AreStreams streams → AreLayoutStreams streams
    clsid →
    i < length streams + 4 → x < length (get_or (parts streams clsid) i []) → slice_index (compound_file streams
    clsid) (part_place (sector_counts (lengths_of streams)) i + x) ≡ slice_index (get_or (parts streams clsid) i []) x
unfolding compound_file
file_at streams clsid i x are lay low less =
    let lengths = lengths_of streams in
    let counts = sector_counts lengths in
    let n = length-lengths_of streams in
    let c = length-sector_counts lengths in
    let header = length-header_bytes lengths lay.fits in
    let start = ap sum (take-append-le i counts (fat_count lengths ∷ []) (omega arith)) in
    let len = length-all_parts streams clsid in
    get_or-append_right (header_bytes lengths) (flat_map (λ part. part) (parts streams clsid)) 512 (part_place counts
    i + x) 0 header (omega arith)
    ∙ parts_at (λ part. part) 512 (all_counts lengths) (parts streams clsid) [] i x (part_place counts i + x - 512)
    (file_parts streams clsid are lay.clsid_len) (omega arith) less (omega arith)

-- a number of the i-th part
pub file_number : (streams : List NamedBytes) (clsid : List ℕ) (i offset width : ℕ) → AreStreams streams →
    AreLayoutStreams streams clsid → i < length streams + 4 → offset + width ≤ length (get_or (parts streams clsid) i
    []) →
    number_at (compound_file streams clsid) (part_place (sector_counts (lengths_of streams)) i + offset) width ≡
    number_at (get_or (parts streams clsid) i []) offset width
file_number streams clsid i offset width are lay low room =
    let counts = sector_counts (lengths_of streams) in
    number_at-same (compound_file streams clsid) (get_or (parts streams clsid) i []) (part_place counts i + offset)
    offset width (λ j h.
    let place : part_place counts i + offset + j ≡ part_place counts i + (offset + j) = omega arith in
    ap (λ k. slice_index (compound_file streams clsid) k) place ∙ file_at streams clsid i (offset + j) are lay low
    (omega arith))
