-- The chains of an image: the parts that have a sector, by the FAT, and the streams in the mini stream.
use Rattle.std.proofs.Common.{◌≡◌, ℕ, ◌+◌, ◌*◌, ◌/◌, ◌<◌, ◌≤◌, ltb, List, length, slice_index, sum, sym, ap, ◌∙◌}
use Rattle.std.proofs.Common.{subst, arith}
use Rattle.std.specs.List.{range_with_len}
use Rattle.std.proofs.lemmas.Bool.{lt-ltb, cond-true}
use Rattle.std.proofs.lemmas.List.FromFn.{length-range_with_len, get_or-range_with_len}
use Rattle.doc_bits.specs.Number.{u32_at}
use Rattle.cfb_sectors.specs.SectorChain.{end_of_chain, HasSector, IsSectorChain}
use Rattle.cfb_sectors.specs.Header.{sector_count, fat_sectors, table_place, valid_below}
use Rattle.cfb_sectors.specs.Chain.{Table, ChainHead, fat_table, mini_table, HoldsChain}
use Rattle.cfb_directory.specs.Reach.{entry_place}
use Rattle.cfb_sectors.proofs.Public.{fat_sectors-at}
use Rattle.cfb_layout.specs.Sectors.{chains_from, chain_start}
use Rattle.cfb_layout.specs.Counts.{mini_counts, sector_counts, fat_count, sectors_needed, Fits, first_sector}
use Rattle.cfb_layout.proofs.SectorLemmas.{start_room, chains_chain, IsIn}
use Rattle.cfb_layout.proofs.CountLemmas.{length-sector_counts, length-mini_counts, counts_mini_stream}
use Rattle.cfb_layout.proofs.CountLemmas.{counts_mini_fat, sectors-needed}
use Rattle.cfb_layout.proofs.Image.{IsHeaderOf, HasTables, part_place}

-- the sectors of the i-th part
abbrev pub sectors_of : List ℕ → ℕ → List ℕ
sectors_of counts i = range_with_len (chain_start counts i) (slice_index counts i)

pub first_some : (counts : List ℕ) (i : ℕ) → 0 < slice_index counts i → first_sector counts i ≡ chain_start counts i
first_some counts i h = cond-true (ltb 0 (slice_index counts i)) (chain_start counts i) end_of_chain
    (lt-ltb 0 (slice_index counts i) h)

-- a sector of a row
pub run_sector : (start count s : ℕ) → HasSector (range_with_len start count) s → (start ≤ s) × (s < start + count)
run_sector start count s has =
    let len = length-range_with_len start count in
    let inside = has.inside in
    let here = has.here in
    let at = get_or-range_with_len start count has.index 0 (omega arith) in
    (omega arith, omega arith)

pub part_sector : (counts : List ℕ) (i s : ℕ) → HasSector (sectors_of counts i) s → IsIn counts i s
part_sector counts i s has =
    let r = run_sector (chain_start counts i) (slice_index counts i) s has in
    record { from = r.0; below = r.1 }

-- how many sectors there are, and how many are valid
pub image_sectors : (file lengths : List ℕ) → IsHeaderOf file lengths → sector_count file ≡ sectors_needed lengths
image_sectors file lengths h = let len = h.len in omega arith

pub image_valid : (file lengths : List ℕ) → IsHeaderOf file lengths → valid_below file ≡ sectors_needed lengths
image_valid file lengths h =
    let sectors = image_sectors file lengths h in
    let fats = h.fats in
    let all = sectors-needed lengths in
    omega arith

-- an entry of the FAT
pub fat_entry : (file lengths : List ℕ) (s : ℕ) → IsHeaderOf file lengths → HasTables file lengths →
    s < sum (sector_counts lengths) → (fat_table file).entry s ≡ slice_index (chains_from 0 (sector_counts lengths)) s
fat_entry file lengths s h t low =
    let fats = h.fats in
    let inside : s / 128 < fat_count lengths = omega arith in
    let sector : slice_index (fat_sectors file) (s / 128) ≡ sum (sector_counts lengths) + s / 128 =
    fat_sectors-at file (s / 128) (omega arith) ∙ h.fat_list (s / 128) inside in
    let place : table_place (λ k. slice_index (fat_sectors file) k) s ≡ 512 * (1 + sum (sector_counts lengths)) + 4 *
    s = omega arith in
    ap (λ k. u32_at file k) place ∙ t.fat s low

-- the chain of a part that has a sector
pub part_holds : (file lengths : List ℕ) (i : ℕ) (head : ChainHead) → IsHeaderOf file lengths → HasTables file lengths →
    Fits lengths → i < length lengths + 3 → 0 < slice_index (sector_counts lengths) i → head.start ≡ first_sector
    (sector_counts lengths) i → head.size ≤ slice_index (sector_counts lengths) i * head.unit →
    HoldsChain (fat_table file) head (sectors_of (sector_counts lengths) i)
part_holds file lengths i head h t fits low some start size =
    let counts = sector_counts lengths in
    let valid = image_valid file lengths h in
    let all = sectors-needed lengths in
    let len = length-sector_counts lengths in
    let run = length-range_with_len (chain_start counts i) (slice_index counts i) in
    let first : head.start ≡ chain_start counts i = start ∙ first_some counts i some in
    let chain = chains_chain (fat_table file).entry (fat_table file).valid 0 (chain_start counts i) counts i
    (λ s t2 less e. let same : t2 ≡ s = omega arith in ap (λ k. (fat_table file).entry k) same ∙ fat_entry file
    lengths s h t less)
    (omega arith) (omega arith) some (omega arith) in
    record {
      range = omega arith;
      chain = subst (λ s. IsSectorChain (fat_table file).entry (fat_table file).valid s (sectors_of counts i))
          (sym first) chain;
      enough = subst (λ n. head.size ≤ n * head.unit) (sym run) size;
    }

-- the mini FAT's sectors, and how many mini sectors are valid
abbrev pub mini_sectors : List ℕ → List ℕ
mini_sectors lengths = sectors_of (sector_counts lengths) (length lengths + 1)

abbrev pub mini_table_at : List ℕ → List ℕ → Table
mini_table_at file lengths = mini_table file (mini_sectors lengths) (64 * sum (mini_counts lengths))

pub mini_valid : (file lengths : List ℕ) → (mini_table_at file lengths).valid ≡ sum (mini_counts lengths)
mini_valid file lengths =
    let counts = sector_counts lengths in
    let run = length-range_with_len (chain_start counts (length lengths + 1)) (slice_index counts (length lengths + 1))
    in
    let count = counts_mini_fat lengths in
    omega arith

pub mini_entry : (file lengths : List ℕ) (s : ℕ) → HasTables file lengths → s < sum (mini_counts lengths) →
    (mini_table_at file lengths).entry s ≡ slice_index (chains_from 0 (mini_counts lengths)) s
mini_entry file lengths s t low =
    let counts = sector_counts lengths in
    let count = counts_mini_fat lengths in
    let sector : slice_index (mini_sectors lengths) (s / 128) ≡ chain_start counts (length lengths + 1) + s / 128 =
    get_or-range_with_len (chain_start counts (length lengths + 1)) (slice_index counts (length lengths + 1)) (s / 128)
    0
    (omega arith) in
    let place : table_place (λ k. slice_index (mini_sectors lengths) k) s ≡ part_place counts (length lengths + 1) + 4
    * s = omega arith in
    ap (λ k. u32_at file k) place ∙ t.mini_fat s low

-- the mini chain of a stream that has a mini sector
pub mini_holds : (file lengths : List ℕ) (i : ℕ) (head : ChainHead) → HasTables file lengths → Fits lengths →
    i < length lengths → 0 < slice_index (mini_counts lengths) i → head.start ≡ first_sector (mini_counts lengths) i →
    head.size ≤ slice_index (mini_counts lengths) i * head.unit → HoldsChain (mini_table_at file lengths) head
    (sectors_of (mini_counts lengths) i)
mini_holds file lengths i head t fits low some start size =
    let counts = mini_counts lengths in
    let valid = mini_valid file lengths in
    let all = sectors-needed lengths in
    let len = length-mini_counts lengths in
    let room = start_room (sector_counts lengths) (length lengths) (let n = length-sector_counts lengths in
    omega arith) in
    let stream = counts_mini_stream lengths in
    let run = length-range_with_len (chain_start counts i) (slice_index counts i) in
    let first : head.start ≡ chain_start counts i = start ∙ first_some counts i some in
    let chain = chains_chain (mini_table_at file lengths).entry (mini_table_at file lengths).valid 0 (chain_start counts
    i) counts i
    (λ s t2 less e. let same : t2 ≡ s = omega arith in ap (λ k. (mini_table_at file lengths).entry k) same ∙
    mini_entry file lengths s t less)
    (omega arith) (omega arith) some (omega arith) in
    record {
      range = omega arith;
      chain = subst (λ s. IsSectorChain (mini_table_at file lengths).entry (mini_table_at file lengths).valid s
          (sectors_of counts i)) (sym first) chain;
      enough = subst (λ n. head.size ≤ n * head.unit) (sym run) size;
    }

-- where an entry of the directory is
pub entry_here : (lengths : List ℕ) (k : ℕ) → k < 4 * slice_index (sector_counts lengths) (length lengths + 2) →
    entry_place (sectors_of (sector_counts lengths) (length lengths + 2)) k ≡ part_place (sector_counts lengths)
    (length lengths + 2) + 128 * k
entry_here lengths k low =
    let counts = sector_counts lengths in
    let at = get_or-range_with_len (chain_start counts (length lengths + 2)) (slice_index counts (length lengths + 2))
    (k / 4) 0 (omega arith) in
    omega arith
