-- No accepted file has fewer sectors than the canonical container of its streams: its parts have no sector in common.
use Rattle.std.proofs.Common.{inl, inr, ℕ, ◌+◌, ◌*◌, ◌<◌, ◌≤◌, List, ◌∷◌, ◌++◌, length, slice_index, sum, sym, ap}
use Rattle.std.proofs.Common.{subst, arith, length-append}
use Rattle.std.proofs.lemmas.List.{length-map, take_all}
use Rattle.cfb_sectors.specs.Header.{sector_count, fat_sector_count, fat_sectors, valid_below}
use Rattle.cfb_sectors.specs.Chain.{fat_table}
use Rattle.cfb_streams.specs.Contents.{Contents}
use Rattle.cfb_directory.specs.Reach.{entry_place, directory_head, IsLinkedEntry}
use Rattle.cfb_streams.specs.StreamRules.{of_fat, of_directory, of_mini_fat, of_mini_stream, of_stream, IsMiniFat}
use Rattle.cfb_streams.specs.StreamRules.{IsMiniStream, mini_table_of, mini_fat_head}
use Rattle.cfb_directory.specs.StreamEntries.{stream_head}
use Rattle.cfb_streams.specs.Container.{HasContents}
use Rattle.cfb_sectors.proofs.Public.{length-fat_sectors, fat_apart}
use Rattle.cfb_directory.proofs.Public.{reached_there}
use Rattle.cfb_layout.specs.Sectors.{units_for}
use Rattle.cfb_layout.specs.Counts.{mini_counts, large_counts, sector_counts}
use Rattle.cfb_layout.specs.Laws.{NoFileIsShorter}
use Rattle.cfb_layout.proofs.CountLemmas.{length-mini_counts, sectors-needed}
use Rattle.cfb_layout.proofs.RunLemmas.{IsRun, run_short, has_either, run_join, run_zero}
use Rattle.cfb_layout.proofs.HeldLemmas.{IsAccepted, accepted, owners_apart, chain_run, entries_apart, lengths_in}
use Rattle.cfb_layout.proofs.HeldLemmas.{length-large_counts, sum_counts, gathered_large, gathered_small}
use Rattle.cfb_streams.proofs.Public.{stored_room}

-- the mini FAT's and the mini stream's sectors
mini_fat_run : (file sectors : List ℕ) → IsMiniFat file sectors → IsRun (fat_table file).valid sectors
mini_fat_run file sectors is = elim is [
  | inl none ↦ subst (λ xs. IsRun (fat_table file).valid xs) (sym none.1) (record {
    within = λ i h. absurd (omega
        arith);
    distinct = λ i j less h. absurd (omega arith);
  })
  | inr some ↦ chain_run (fat_table file) (mini_fat_head file) sectors some.1
]

mini_stream_run : (file directory sectors : List ℕ) → IsMiniStream file directory sectors →
    IsRun (fat_table file).valid sectors
mini_stream_run file directory sectors is = elim is [
  | inl none ↦ subst (λ xs. IsRun (fat_table file).valid xs) (sym none.1) (record {
    within = λ i h. absurd (omega
        arith);
    distinct = λ i j less h. absurd (omega arith);
  })
  | inr some ↦ chain_run (fat_table file) (stream_head file 512 (entry_place directory 0)) sectors some.1
]

-- the directory has an entry for the root and one for each stream
directory_room : (file : List ℕ) (contents : Contents) (has : HasContents file contents) → length contents.streams + 1
    ≤ 4 * length has.parts.directory
directory_room file contents has =
    let n = has.streams.len in
    let some = has.directory.holds.chain.path.some in
    let there : (i : ℕ) → i < length has.entries → IsLinkedEntry has.parts.directory (slice_index has.entries i) = λ i
    h.
    reached_there file has.parts.directory (has.lists.sound i h).reached in
    let run = run_zero (4 * length has.parts.directory) has.entries
    (record { within = λ i h. (there i h).1; distinct = λ i j less h. entries_apart file contents has i j less h })
    (omega arith) (λ i h. (there i h).0) in
    let short = run_short (4 * length has.parts.directory) (0 ∷ has.entries) run in
    omega arith

-- the sectors of all parts
all_sectors : (file : List ℕ) (contents : Contents) (has : HasContents file contents) → IsAccepted file has.parts →
    fat_sector_count file + length has.parts.directory + length has.parts.mini_fat + length has.parts.mini_stream +
    sum (large_counts (lengths_in contents)) ≤ valid_below file
all_sectors file contents has ok =
    let valid = valid_below file in
    let fats = fat_sectors file in
    let parts = has.parts in
    let g = gathered_large file contents has ok in
    let fat_len = length-fat_sectors file in
    let fat_ok = fat_apart file ok.fat in
    let fat_run : IsRun valid fats = record { within = fat_ok.inside; distinct = fat_ok.distinct } in
    let directory_run = chain_run (fat_table file) (directory_head file) parts.directory has.directory.holds in
    let a = run_join valid fats parts.directory fat_run directory_run (λ s x y. owners_apart file parts of_fat
    of_directory s ok (λ e. cc) x y) in
    let b = run_join valid (fats ++ parts.directory) parts.mini_fat a (mini_fat_run file parts.mini_fat has.mini_fat)
    (λ s x y. elim (has_either fats parts.directory s x) [
      | inl f ↦ owners_apart file parts of_fat of_mini_fat s ok (λ e. cc) f y
      | inr d ↦ owners_apart file parts of_directory of_mini_fat s ok (λ e. cc) d y
    ]) in
    let c = run_join valid ((fats ++ parts.directory) ++ parts.mini_fat) parts.mini_stream b (mini_stream_run file
    parts.directory parts.mini_stream has.mini_stream) (λ s x y. elim (has_either (fats ++ parts.directory)
    parts.mini_fat s x) [
      | inl more ↦ elim (has_either fats parts.directory s more) [
        | inl f ↦ owners_apart file parts of_fat of_mini_stream s ok (λ e. cc) f y
        | inr d ↦ owners_apart file parts of_directory of_mini_stream s ok (λ e. cc) d y
      ]
      | inr m ↦ owners_apart file parts of_mini_fat of_mini_stream s ok (λ e. cc) m y
    ]) in
    let d = run_join valid (((fats ++ parts.directory) ++ parts.mini_fat) ++ parts.mini_stream) g.sectors c g.run
    (λ s x y.
    let w = g.owned s y in
    let entry = slice_index has.entries w.0 in
    let large = w.1.1.1 in
    elim (has_either ((fats ++ parts.directory) ++ parts.mini_fat) parts.mini_stream s x) [
      | inl most ↦ elim (has_either (fats ++ parts.directory) parts.mini_fat s most) [
        | inl more ↦ elim (has_either fats parts.directory s more) [
          | inl f ↦ owners_apart file parts of_fat (of_stream entry) s ok (λ e. cc) f large
          | inr k ↦ owners_apart file parts of_directory (of_stream entry) s ok (λ e. cc) k large
        ]
        | inr m ↦ owners_apart file parts of_mini_fat (of_stream entry) s ok (λ e. cc) m large
      ]
      | inr m ↦ owners_apart file parts of_mini_stream (of_stream entry) s ok (λ e. cc) m large
    ]) in
    let short = run_short valid ((((fats ++ parts.directory) ++ parts.mini_fat) ++ parts.mini_stream) ++ g.sectors) d in
    let l1 = length-append fats parts.directory in
    let l2 = length-append (fats ++ parts.directory) parts.mini_fat in
    let l3 = length-append ((fats ++ parts.directory) ++ parts.mini_fat) parts.mini_stream in
    let l4 = length-append (((fats ++ parts.directory) ++ parts.mini_fat) ++ parts.mini_stream) g.sectors in
    let enough = g.enough in
    let len = length-large_counts (lengths_in contents) in
    let same = length-map contents.streams (λ stream. length stream.bytes) in
    let whole = ap sum (take_all (length contents.streams) (large_counts (lengths_in contents)) (omega arith)) in
    omega arith

-- the mini sectors of all streams
all_minis : (file : List ℕ) (contents : Contents) (has : HasContents file contents) → IsAccepted file has.parts →
    sum (mini_counts (lengths_in contents)) ≤ (mini_table_of file has.parts.directory has.parts.mini_fat).valid
all_minis file contents has ok =
    let g = gathered_small file contents has ok in
    let short = run_short (mini_table_of file has.parts.directory has.parts.mini_fat).valid g.sectors g.run in
    let enough = g.enough in
    let len = length-mini_counts (lengths_in contents) in
    let same = length-map contents.streams (λ stream. length stream.bytes) in
    let whole = ap sum (take_all (length contents.streams) (mini_counts (lengths_in contents)) (omega arith)) in
    omega arith

-- sectors that fit a FAT fit the least one
least_sectors : (needed rest fat count : ℕ) → needed ≤ rest → rest + fat ≤ 128 * fat → rest + fat ≤ count →
    needed + units_for 127 needed ≤ count
least_sectors needed rest fat count a b c = omega arith

pub no_file_shorter : NoFileIsShorter
no_file_shorter file contents hold has =
    let ok = accepted file contents hold has in
    let lengths = lengths_in contents in
    let parts = has.parts in
    let all = all_sectors file contents has ok in
    let minis = all_minis file contents has ok in
    let directory = directory_room file contents has in
    let stored = stored_room file parts.directory parts.mini_stream has.mini_stream in
    let same = length-map contents.streams (λ stream. length stream.bytes) in
    let total = sum_counts lengths in
    let needed = sectors-needed lengths in
    let mini_stream_count : units_for 512 (64 * sum (mini_counts lengths)) ≤ length parts.mini_stream = omega arith in
    let mini_fat_count : units_for 128 (sum (mini_counts lengths)) ≤ length parts.mini_fat = omega arith in
    let directory_count : units_for 4 (length lengths + 1) ≤ length parts.directory = omega arith in
    let rest = length parts.directory + length parts.mini_fat + length parts.mini_stream + sum (large_counts lengths) in
    let fits = least_sectors (sum (sector_counts lengths)) rest (fat_sector_count file) (sector_count file)
    (omega arith) (omega arith) (omega arith) in
    omega arith
