-- The bytes of the streams of an image, and what is read.
use Rattle.std.proofs.Common.{◌≡◌, inl, inr, ℕ, ◌+◌, ◌-◌, ◌*◌, ◌<◌, ◌≤◌, ltb, List, Some, None, length, map, take}
use Rattle.std.proofs.Common.{drop, slice_index, slice_index_or, sym, ap, ◌∙◌, subst, arith, length-take, length-drop}
use Rattle.std.specs.List.{flat_map, range_with_len}
use Rattle.std.proofs.lemmas.Bool.{cases_lt, cases_eq, lt-ltb, le-ltb, cond-true, cond-false}
use Rattle.std.proofs.lemmas.List.{take-take, get_or-take, get_or-drop, nil_from_length}
use Rattle.std.proofs.lemmas.Option.{get_or_from_slice_get, slice_get_within}
use Rattle.std.proofs.lemmas.List.FromFn.{length-range_with_len, get_or-range_with_len, length-map-range_with_len}
use Rattle.std.proofs.lemmas.List.FromFn.{get_or-map-range_with_len}
use Rattle.cfb_sectors.specs.Header.{sector_bytes}
use Rattle.cfb_streams.specs.Contents.{NamedBytes, AreStreams}
use Rattle.cfb_directory.specs.Directory.{entry_stream_size}
use Rattle.cfb_directory.specs.Order.{ListsStreams}
use Rattle.cfb_directory.specs.StreamEntries.{IsStreamEntry}
use Rattle.cfb_streams.specs.Container.{mini_bytes, IsStreamOf, HasContents}
use Rattle.cfb_layout.specs.Sectors.{units_for, chain_start}
use Rattle.cfb_layout.specs.Tree.{all_entries}
use Rattle.cfb_layout.specs.Counts.{mini_counts, sector_counts}
use Rattle.cfb_layout.specs.Layout.{lengths_of, no_stream, mini_stream, stream_at, contents_of}
use Rattle.cfb_layout.specs.Laws.{AreLayoutStreams}
use Rattle.cfb_layout.proofs.SectorLemmas.{start_room}
use Rattle.cfb_layout.proofs.BytesLemmas.{run_bytes, range_is}
use Rattle.cfb_layout.proofs.CountLemmas.{length-sector_counts, length-mini_counts, minis_at, counts_stream}
use Rattle.cfb_layout.proofs.CountLemmas.{counts_mini_stream, sectors-needed, length-lengths_of, lengths_at}
use Rattle.cfb_layout.proofs.TreeLemmas.{IsWithin}
use Rattle.cfb_layout.proofs.Image.{IsImage, part_place}
use Rattle.cfb_layout.proofs.ImageChains.{sectors_of}
use Rattle.cfb_layout.proofs.ImageTree.{directory_of, place_in, image_entry, image_stream, image_node, reached_only}
use Rattle.cfb_layout.proofs.ImageTree.{reached_each}
use Rattle.cfb_layout.proofs.ImageNames.{image_name, image_order}
use Rattle.cfb_layout.proofs.PartLemmas.{large_is, small_is, large_whole, small_whole, length-mini_stream}
use Rattle.cfb_layout.proofs.PartLemmas.{mini_stream_at}
use Rattle.cfb_layout.proofs.ImageParts.{parts_of, image_directory, image_mini_fat, image_mini_stream, large_holds}
use Rattle.cfb_layout.proofs.ImageParts.{small_holds}

-- the bytes of a part are those of its sectors
long_bytes : (file : List ℕ) (streams : List NamedBytes) (clsid : List ℕ) (i : ℕ) → IsImage file streams clsid →
    i < length streams → 4096 ≤ length (slice_index_or streams i no_stream).bytes →
    (slice_index_or streams i no_stream).bytes ≡ take (length (slice_index_or streams i no_stream).bytes)
    (flat_map (sector_bytes 512 512 file) (sectors_of (sector_counts (lengths_of streams)) i))
long_bytes file streams clsid i im low large =
    let lengths = lengths_of streams in
    let counts = sector_counts lengths in
    let bytes = (slice_index_or streams i no_stream).bytes in
    let start = chain_start counts i in
    let count = slice_index counts i in
    let at = 512 + start * 512 in
    let n = length-lengths_of streams in
    let here = lengths_at streams i low in
    let len = large_is (slice_index lengths i) (omega arith) in
    let many = counts_stream lengths i (omega arith) ∙ ap (λ m. units_for 512 m) len in
    let room = start_room counts i (let c = length-sector_counts lengths in omega arith) in
    let all = sectors-needed lengths in
    let size = im.header.len in
    let part = ap length (large_whole bytes large) in
    let joined = range_is file bytes at (omega arith) (λ x less.
    let place : at + x ≡ part_place counts i + x = omega arith in
    ap (λ p. slice_index file p) place ∙ im.large i x low (omega arith)) in
    let run = run_bytes 512 512 file start count in
    sym (ap (λ xs. take (length bytes) xs) run ∙ (take-take (length bytes) (512 * count) (drop at file) (omega arith)
    ∙ joined))

-- the mini stream is in its sectors
stored_at : (file : List ℕ) (streams : List NamedBytes) (clsid : List ℕ) (x : ℕ) → IsImage file streams clsid →
    x < length (mini_stream streams) → slice_index (mini_bytes file (parts_of streams)) x ≡ slice_index (mini_stream
    streams) x
stored_at file streams clsid x im low =
    let lengths = lengths_of streams in
    let counts = sector_counts lengths in
    let start = chain_start counts (length lengths) in
    let count = slice_index counts (length lengths) in
    let at = 512 + start * 512 in
    let many = counts_mini_stream lengths in
    let len = length-mini_stream streams in
    let run = run_bytes 512 512 file start count in
    let place : at + x ≡ part_place counts (length lengths) + x = omega arith in
    ap (λ xs. slice_index xs x) run
    ∙ (get_or-take (512 * count) (drop at file) x 0 (omega arith)
    ∙ (get_or-drop at file x 0 ∙ (ap (λ p. slice_index file p) place ∙ im.small x low)))

stored_room : (file : List ℕ) (streams : List NamedBytes) (clsid : List ℕ) → IsImage file streams clsid →
    length (mini_stream streams) ≤ length (mini_bytes file (parts_of streams))
stored_room file streams clsid im =
    let lengths = lengths_of streams in
    let counts = sector_counts lengths in
    let start = chain_start counts (length lengths) in
    let count = slice_index counts (length lengths) in
    let at = 512 + start * 512 in
    let many = counts_mini_stream lengths in
    let len = length-mini_stream streams in
    let room = start_room counts (length lengths) (let c = length-sector_counts lengths in omega arith) in
    let all = sectors-needed lengths in
    let size = im.header.len in
    let run = ap length (run_bytes 512 512 file start count) in
    let a = length-take (512 * count) (drop at file) in
    let b = length-drop at file in
    omega arith

short_bytes : (file : List ℕ) (streams : List NamedBytes) (clsid : List ℕ) (i : ℕ) → IsImage file streams clsid →
    i < length streams → length (slice_index_or streams i no_stream).bytes < 4096 →
    (slice_index_or streams i no_stream).bytes ≡ take (length (slice_index_or streams i no_stream).bytes)
    (flat_map (sector_bytes 0 64 (mini_bytes file (parts_of streams))) (sectors_of (mini_counts (lengths_of streams))
    i))
short_bytes file streams clsid i im low small =
    let lengths = lengths_of streams in
    let counts = mini_counts lengths in
    let bytes = (slice_index_or streams i no_stream).bytes in
    let stored = mini_bytes file (parts_of streams) in
    let start = chain_start counts i in
    let count = slice_index counts i in
    let at = 0 + start * 64 in
    let n = length-lengths_of streams in
    let here = lengths_at streams i low in
    let len = small_is (slice_index lengths i) (omega arith) in
    let many = minis_at lengths i (omega arith) ∙ ap (λ m. units_for 64 m) len in
    let room = start_room counts i (let c = length-mini_counts lengths in omega arith) in
    let size = length-mini_stream streams in
    let enough = stored_room file streams clsid im in
    let whole = small_whole bytes small in
    let part = ap length whole in
    let joined = range_is stored bytes at (omega arith) (λ x less.
    stored_at file streams clsid (at + x) im (omega arith)
    ∙ (mini_stream_at streams i x (at + x) low (omega arith) (omega arith) ∙ ap (λ xs. slice_index xs x) whole)) in
    let run = run_bytes 0 64 stored start count in
    sym (ap (λ xs. take (length bytes) xs) run ∙ (take-take (length bytes) (64 * count) (drop at stored) (omega arith)
    ∙ joined))

-- the entry of a stream
pub stream_reached : (file : List ℕ) (streams : List NamedBytes) (clsid : List ℕ) (k : ℕ) → IsImage file streams
    clsid → IsWithin (all_entries (length streams)) k → IsStreamEntry file (directory_of streams) k
stream_reached file streams clsid k im w = record {
  reached = reached_each file streams clsid k im w;
  stream = (image_node file streams clsid k im w).kind;
}

pub image_body : (file : List ℕ) (streams : List NamedBytes) (clsid : List ℕ) (i k : ℕ) → IsImage file streams clsid →
    AreLayoutStreams streams clsid → i < length streams → k ≡ i + 1 → IsStreamOf file (parts_of streams) k (stream_at
    streams i)
image_body file streams clsid i k im lay low is =
    let lengths = lengths_of streams in
    let bytes = (slice_index_or streams i no_stream).bytes in
    let size : entry_stream_size file (place_in streams k) ≡ length bytes = (image_stream file streams clsid i k im low
    is).size ∙ lengths_at streams i low in
    let here = lengths_at streams i low in
    let entry = stream_reached file streams clsid k im (record { from = omega arith; below = omega arith }) in
    record {
      is_entry = entry;
      name = image_name file streams clsid i k im low is;
      holds = elim (cases_lt (slice_index lengths i) 4096) [
        | inl small ↦
            let chain = cond-true (ltb (slice_index lengths i) 4096) None (Some (sectors_of (sector_counts lengths)
            i)) (lt-ltb (slice_index lengths i) 4096 small) in
            elim (cases_eq (length bytes) 0) [
              | inl none ↦ inl (record { empty = size ∙ none; bytes = nil_from_length bytes none; chain = chain })
              | inr some ↦ inr (inl (record {
                body = record {
                  is_small = record { is_entry = entry; some = omega arith; small = omega arith };
                  sectors = sectors_of (mini_counts lengths) i;
                  holds = small_holds file streams clsid i k im lay low is (omega arith) (omega arith);
                  joined = short_bytes file streams clsid i im low (omega arith) ∙ ap (λ m. take m
                      (flat_map (sector_bytes 0 64 (mini_bytes file (parts_of streams))) (sectors_of (mini_counts
                      lengths) i))) (sym size);
                };
                chain = chain;
              }))
            ]
        | inr large ↦
            let chain = cond-false (ltb (slice_index lengths i) 4096) None (Some (sectors_of (sector_counts lengths)
            i)) (le-ltb (slice_index lengths i) 4096 large) in
            inr (inr (record {
              sectors = sectors_of (sector_counts lengths) i;
              body = record {
                is_large = record { is_entry = entry; large = omega arith };
                holds = large_holds file streams clsid i k im lay low is (omega arith);
                joined = long_bytes file streams clsid i im low (omega arith) ∙ ap (λ m. take m
                    (flat_map (sector_bytes 512 512 file) (sectors_of (sector_counts lengths) i))) (sym size);
              };
              chain = chain;
            }))
      ];
    }

-- the streams' entries, in the order of their names
pub image_lists : (file : List ℕ) (streams : List NamedBytes) (clsid : List ℕ) → IsImage file streams clsid →
    AreStreams streams → AreLayoutStreams streams clsid → ListsStreams file (directory_of streams) (range_with_len 1
    (length streams))
image_lists file streams clsid im are lay =
    let n = length streams in
    let len = length-range_with_len 1 n in
    let at : (i : ℕ) → i < n → slice_index (range_with_len 1 n) i ≡ 1 + i = λ i h. get_or-range_with_len 1 n i 0 h in
    record {
      sound = λ i h. let e = at i (omega arith) in stream_reached file streams clsid (slice_index (range_with_len 1 n)
          i) im (record { from = omega arith; below = omega arith });
      complete = λ k entry.
          let w = reached_only file streams clsid k im lay.few entry.reached in
          let from = w.from in
          let below = w.below in
          record { index = k - 1; inside = omega arith; here = let e = at (k - 1) (omega arith) in omega arith };
      order = λ i j less h.
          let a = at i (omega arith) in
          let b = at j (omega arith) in
          image_order file streams clsid (slice_index (range_with_len 1 n) i) (slice_index (range_with_len 1 n) j) im
          are (omega arith) (omega arith) (omega arith);
    }

-- what is read of an image
pub image_contents : (file : List ℕ) (streams : List NamedBytes) (clsid : List ℕ) → IsImage file streams clsid →
    AreStreams streams → AreLayoutStreams streams clsid → HasContents file (contents_of streams clsid)
unfolding contents_of
image_contents file streams clsid im are lay =
    let n = length streams in
    let len = length-range_with_len 1 n in
    let made = length-map-range_with_len (stream_at streams) 0 n in
    let root = image_entry file streams clsid 0 im (omega arith) in
    record {
      parts = parts_of streams;
      directory = image_directory file streams clsid im lay;
      mini_fat = image_mini_fat file streams clsid im lay;
      mini_stream = image_mini_stream file streams clsid im lay;
      entries = range_with_len 1 n;
      lists = image_lists file streams clsid im are lay;
      streams = record {
        len = made ∙ sym len;
        each = λ i stream got.
            let low : i < n = let w = slice_get_within (map (stream_at streams) (range_with_len 0 n)) i stream got in
            omega arith in
            let at : slice_index (range_with_len 1 n) i ≡ i + 1 = let e = get_or-range_with_len 1 n i 0 low in
            omega arith in
            let is : stream_at streams i ≡ stream =
            sym (get_or-map-range_with_len (stream_at streams) 0 n i i stream low (omega arith)) ∙
            get_or_from_slice_get (map (stream_at streams) (range_with_len 0 n)) i stream stream got in
            subst (λ s. IsStreamOf file (parts_of streams) (slice_index (range_with_len 1 n) i) s) is (image_body file
            streams clsid i (slice_index (range_with_len 1 n) i) im lay low at);
      };
      clsid = sym root.clsid;
    }
