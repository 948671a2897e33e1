-- The rules 1 to 13 hold of an image.
use Rattle.std.proofs.Common.{inl, inr, ℕ, ◌+◌, ◌-◌, ◌≤◌, List, length, sum, ap, arith}
use Rattle.doc_bits.specs.Number.{u32_at}
use Rattle.doc_bits.specs.Rules.{Nowhere}
use Rattle.cfb_sectors.specs.Opening.{BreaksLength}
use Rattle.cfb_sectors.specs.HeaderRules.{BreaksHeader, BreaksFat}
use Rattle.cfb_sectors.specs.Chain.{fat_table}
use Rattle.cfb_streams.specs.Contents.{NamedBytes}
use Rattle.cfb_directory.specs.Reach.{BreaksDirectory, directory_head}
use Rattle.cfb_streams.specs.StreamRules.{BreaksMiniFat, BreaksMiniStream, BreaksStream, mini_fat_head, mini_table_of}
use Rattle.cfb_directory.specs.StreamEntries.{stream_head}
use Rattle.cfb_sectors.proofs.Public.{holds_none, full_unique, chain_full}
use Rattle.cfb_layout.specs.Counts.{mini_counts, sector_counts, Fits}
use Rattle.cfb_layout.specs.Layout.{lengths_of}
use Rattle.cfb_layout.specs.Laws.{AreLayoutStreams}
use Rattle.cfb_layout.proofs.SectorLemmas.{start_room}
use Rattle.cfb_layout.proofs.CountLemmas.{length-sector_counts, counts_directory, sectors-needed}
use Rattle.cfb_layout.proofs.Image.{IsHeaderOf, IsImage}
use Rattle.cfb_layout.proofs.ImageChains.{sectors_of, image_valid, mini_sectors}
use Rattle.cfb_layout.proofs.ImageTree.{directory_of, place_in, reached_only}
use Rattle.cfb_layout.proofs.ImageParts.{parts_of, image_directory, image_mini_fat, image_mini_stream, large_holds}
use Rattle.cfb_layout.proofs.ImageParts.{small_holds}

-- there are two sectors at least
two_sectors : (lengths : List ℕ) → 1 ≤ sum (sector_counts lengths)
two_sectors lengths =
    let len = length-sector_counts lengths in
    let room = start_room (sector_counts lengths) (length lengths + 2) (omega arith) in
    let count = counts_directory lengths in
    omega arith

-- rule 1
pub length_holds : (file lengths : List ℕ) → IsHeaderOf file lengths → Fits lengths → Nowhere (BreaksLength file)
length_holds file lengths h fits = λ p b.
    let len = h.len in
    let all = sectors-needed lengths in
    let some = two_sectors lengths in
    elim b.wrong [
      | inl odd ↦ odd (omega arith)
      | inr size ↦ elim size [ inl low ↦ omega arith | inr high ↦ omega arith ]
    ]

-- rule 3
pub header_holds : (file lengths : List ℕ) → IsHeaderOf file lengths → Nowhere (BreaksHeader file)
header_holds file lengths h = λ p b. elim b [
  | inl version ↦ version.1 h.version
  | inr rest ↦ elim rest [
    | inl order ↦ order.1 h.order
    | inr more ↦ elim more [
      | inl shift ↦ shift.1 h.shift
      | inr last ↦ elim last [ inl mini ↦ mini.1 h.mini_shift | inr cutoff ↦ cutoff.1 h.cutoff ]
    ]
  ]
]

-- rule 5
pub fat_holds : (file lengths : List ℕ) → IsHeaderOf file lengths → Fits lengths → Nowhere (BreaksFat file)
fat_holds file lengths h fits = λ p b.
    let fats = h.fats in
    let all = sectors-needed lengths in
    let some = two_sectors lengths in
    let valid = image_valid file lengths h in
    elim b [
      | inl count ↦ elim count.1 [ inl none ↦ omega arith | inr many ↦ omega arith ]
      | inr listed ↦
          let k = listed.entry in
          let low = listed.below in
          let here = h.fat_list k (omega arith) in
          elim listed.broken.wrong [
            | inl outside ↦ omega arith
            | inr before ↦
                let less = before.below in
                let same = before.same in
                let there = h.fat_list before.earlier (omega arith) in
                omega arith
          ]
    ]

-- rule 6
pub directory_holds : (file : List ℕ) (streams : List NamedBytes) (clsid : List ℕ) → IsImage file streams clsid →
    AreLayoutStreams streams clsid → Nowhere (BreaksDirectory file)
directory_holds file streams clsid im lay = λ p b.
    let is = image_directory file streams clsid im lay in
    elim b [
      | inl many ↦
          let table = fat_table file in
          let same = full_unique table.entry table.valid (u32_at file 48) (directory_of streams) many.sectors
          (chain_full table.entry table.valid (u32_at file 48) (directory_of streams) is.holds.range
          is.holds.chain) many.full in
          let len = ap length same in
          let more = many.long in
          let short = is.short in omega arith
      | inr broken ↦ holds_none (fat_table file) (directory_head file) (directory_of streams) is.holds p broken
    ]

-- rule 11
pub mini_fat_holds : (file : List ℕ) (streams : List NamedBytes) (clsid : List ℕ) → IsImage file streams clsid →
    AreLayoutStreams streams clsid → Nowhere (BreaksMiniFat file)
mini_fat_holds file streams clsid im lay = λ p b. elim (image_mini_fat file streams clsid im lay) [
  | inl none ↦ b.there none.0
  | inr some ↦ holds_none (fat_table file) (mini_fat_head file) (mini_sectors (lengths_of streams)) some.1 p b.broken
]

-- rule 12
pub mini_stream_holds : (file : List ℕ) (streams : List NamedBytes) (clsid : List ℕ) → IsImage file streams clsid →
    AreLayoutStreams streams clsid → Nowhere (BreaksMiniStream file (directory_of streams))
mini_stream_holds file streams clsid im lay = λ p b. elim (image_mini_stream file streams clsid im lay) [
  | inl none ↦ b.there none.0
  | inr some ↦ holds_none (fat_table file) (stream_head file 512 (place_in streams 0)) (parts_of streams).mini_stream
      some.1 p b.broken
]

-- rule 13
pub streams_hold : (file : List ℕ) (streams : List NamedBytes) (clsid : List ℕ) → IsImage file streams clsid →
    AreLayoutStreams streams clsid → Nowhere (BreaksStream file (directory_of streams) (mini_sectors (lengths_of
    streams)))
streams_hold file streams clsid im lay = λ p b.
    let k = b.entry in
    let w = reached_only file streams clsid k im lay.few b.reached in
    let from = w.from in
    let below = w.below in
    elim b.broken [
      | inl large ↦
          holds_none (fat_table file) (stream_head file 512 (place_in streams k)) (sectors_of (sector_counts
          (lengths_of streams)) (k - 1))
          (large_holds file streams clsid (k - 1) k im lay (omega arith) (omega arith) large.is_large.large) p
          large.broken
      | inr small ↦
          holds_none (mini_table_of file (directory_of streams) (mini_sectors (lengths_of streams))) (stream_head file
          64 (place_in streams k)) (sectors_of (mini_counts (lengths_of streams)) (k - 1))
          (small_holds file streams clsid (k - 1) k im lay (omega arith) (omega arith) small.is_small.some
          small.is_small.small) p small.broken
    ]
