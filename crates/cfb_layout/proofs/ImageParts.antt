-- The parts of an image that have chains, and the chains of its streams.
use Rattle.std.proofs.Common.{◌≡◌, inl, inr, ℕ, ◌+◌, ◌<◌, ◌≤◌, ltb, List, length, slice_index, sum, sym, ap, ◌∙◌}
use Rattle.std.proofs.Common.{subst, arith}
use Rattle.std.specs.List.{range_with_len}
use Rattle.std.proofs.lemmas.Bool.{cases_eq, lt-ltb, le-ltb, cond-true, cond-false}
use Rattle.cfb_sectors.specs.Chain.{fat_table, mini_table, HoldsChain}
use Rattle.cfb_streams.specs.Contents.{NamedBytes}
use Rattle.cfb_directory.specs.Directory.{entry_stream_size}
use Rattle.cfb_directory.specs.Reach.{directory_head, IsDirectory}
use Rattle.cfb_streams.specs.StreamRules.{Parts, IsMiniFat, IsMiniStream, mini_fat_head, mini_table_of}
use Rattle.cfb_directory.specs.StreamEntries.{stream_head}
use Rattle.cfb_layout.specs.Sectors.{units_for, chain_start}
use Rattle.cfb_layout.specs.Counts.{mini_counts, sector_counts, first_sector}
use Rattle.cfb_layout.specs.Layout.{lengths_of}
use Rattle.cfb_layout.specs.Laws.{AreLayoutStreams}
use Rattle.cfb_layout.proofs.CountLemmas.{minis_at, counts_stream, counts_mini_stream, counts_directory}
use Rattle.cfb_layout.proofs.CountLemmas.{length-lengths_of, lengths_at}
use Rattle.cfb_layout.proofs.Image.{IsImage}
use Rattle.cfb_layout.proofs.ImageChains.{sectors_of, part_holds, mini_sectors, mini_holds}
use Rattle.cfb_layout.proofs.ImageTree.{directory_of, place_in, length-directory_of, image_entry, image_stream}
use Rattle.cfb_layout.proofs.PartLemmas.{large_is, small_is}

-- the parts of the file
abbrev pub parts_of : List NamedBytes → Parts
parts_of streams = record {
  directory = directory_of streams;
  mini_fat = mini_sectors (lengths_of streams);
  mini_stream = sectors_of (sector_counts (lengths_of streams)) (length (lengths_of streams));
}

pub image_directory : (file : List ℕ) (streams : List NamedBytes) (clsid : List ℕ) → IsImage file streams clsid →
    AreLayoutStreams streams clsid → IsDirectory file (directory_of streams)
image_directory file streams clsid im lay =
    let lengths = lengths_of streams in
    let count = counts_directory lengths in
    let n = length-lengths_of streams in
    let len = length-directory_of streams in
    let few = lay.few in
    record {
      holds = part_holds file lengths (length lengths + 2) (directory_head file) im.header im.tables lay.fits
          (omega arith) (omega arith) im.header.directory (omega arith);
      short = omega arith;
    }

pub image_mini_fat : (file : List ℕ) (streams : List NamedBytes) (clsid : List ℕ) → IsImage file streams clsid →
    AreLayoutStreams streams clsid → IsMiniFat file (mini_sectors (lengths_of streams))
image_mini_fat file streams clsid im lay =
    let lengths = lengths_of streams in
    let counts = sector_counts lengths in
    let fats = im.header.mini_fats in
    elim (cases_eq (slice_index counts (length lengths + 1)) 0) [
      | inl none ↦ inl (fats ∙ none, ap (λ m. range_with_len (chain_start counts (length lengths + 1)) m) none)
      | inr some ↦ inr (
        λ e. some (sym fats ∙ e),
        part_holds file lengths (length lengths + 1) (mini_fat_head file)
            im.header im.tables lay.fits (omega arith) (omega arith) im.header.mini_fat (omega arith),
      )
    ]

pub image_mini_stream : (file : List ℕ) (streams : List NamedBytes) (clsid : List ℕ) → IsImage file streams clsid →
    AreLayoutStreams streams clsid → IsMiniStream file (directory_of streams) (parts_of streams).mini_stream
image_mini_stream file streams clsid im lay =
    let lengths = lengths_of streams in
    let counts = sector_counts lengths in
    let root = image_entry file streams clsid 0 im (omega arith) in
    let size = root.size in
    let count = counts_mini_stream lengths in
    elim (cases_eq (sum (mini_counts lengths)) 0) [
      | inl none ↦
          let zero_count : slice_index counts (length lengths) ≡ 0 = omega arith in
          inl (omega arith, ap (λ m. range_with_len (chain_start counts (length lengths)) m) zero_count)
      | inr some ↦ inr (
        λ e. some (omega arith),
        part_holds file lengths (length lengths) (stream_head file 512
            (place_in streams 0)) im.header im.tables lay.fits (omega arith) (omega arith) root.start (omega arith),
      )
    ]

-- the chain of a stream that has sectors of its own
pub large_holds : (file : List ℕ) (streams : List NamedBytes) (clsid : List ℕ) (i k : ℕ) → IsImage file streams
    clsid → AreLayoutStreams streams clsid → i < length streams → k ≡ i + 1 → 4096 ≤ entry_stream_size file (place_in
    streams k) →
    HoldsChain (fat_table file) (stream_head file 512 (place_in streams k)) (sectors_of (sector_counts
    (lengths_of streams)) i)
large_holds file streams clsid i k im lay low is large =
    let lengths = lengths_of streams in
    let n = length-lengths_of streams in
    let e = image_stream file streams clsid i k im low is in
    let size = e.size in
    let here = lengths_at streams i low in
    let len = large_is (slice_index lengths i) (omega arith) in
    let count = counts_stream lengths i (omega arith) ∙ ap (λ m. units_for 512 m) len in
    let start = e.start ∙ cond-false (ltb (slice_index lengths i) 4096) (first_sector (mini_counts lengths) i)
    (first_sector (sector_counts lengths) i) (le-ltb (slice_index lengths i) 4096 (omega arith)) in
    part_holds file lengths i (stream_head file 512 (place_in streams k)) im.header im.tables lay.fits (omega arith)
    (omega arith) start (omega arith)

-- the mini chain of a shorter one
pub small_holds : (file : List ℕ) (streams : List NamedBytes) (clsid : List ℕ) (i k : ℕ) → IsImage file streams
    clsid → AreLayoutStreams streams clsid → i < length streams → k ≡ i + 1 → 0 < entry_stream_size file (place_in
    streams k) →
    entry_stream_size file (place_in streams k) < 4096 → HoldsChain (mini_table_of file (directory_of streams)
    (mini_sectors
    (lengths_of streams))) (stream_head file 64 (place_in streams k)) (sectors_of (mini_counts (lengths_of streams)) i)
small_holds file streams clsid i k im lay low is some small =
    let lengths = lengths_of streams in
    let n = length-lengths_of streams in
    let root = image_entry file streams clsid 0 im (omega arith) in
    let e = image_stream file streams clsid i k im low is in
    let size = e.size in
    let here = lengths_at streams i low in
    let len = small_is (slice_index lengths i) (omega arith) in
    let count = minis_at lengths i (omega arith) ∙ ap (λ m. units_for 64 m) len in
    let start = e.start ∙ cond-true (ltb (slice_index lengths i) 4096) (first_sector (mini_counts lengths) i)
    (first_sector (sector_counts lengths) i) (lt-ltb (slice_index lengths i) 4096 (omega arith)) in
    let holds = mini_holds file lengths i (stream_head file 64 (place_in streams k)) im.tables lay.fits (omega arith)
    (omega arith) start (omega arith) in
    subst (λ m. HoldsChain (mini_table file (mini_sectors lengths) m) (stream_head file 64 (place_in streams k))
    (sectors_of (mini_counts lengths) i)) (sym root.size) holds
