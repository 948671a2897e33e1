-- What the streams of an accepted file hold: sectors and mini sectors, none of them in two streams.
use Rattle.std.proofs.Common.{◌≡◌, ◌≢◌, inl, inr, ℕ, ◌+◌, ◌*◌, ◌<◌, List, [], ◌∷◌, None, length, map}
use Rattle.std.proofs.Common.{get_or, slice_index, sum, refl, sym, ap, ◌∙◌, subst, arith, length-take}
use Rattle.std.specs.List.{flat_map}
use Rattle.std.proofs.lemmas.Bool.{cases_lt, cases_eq}
use Rattle.std.proofs.lemmas.List.{get_or-map, length-map}
use Rattle.std.proofs.lemmas.List.Sums.{sum_by-append}
use Rattle.std.proofs.lemmas.Option.{slice_get-get_or}
use Rattle.doc_bits.specs.Rules.{Nowhere, Hold}
use Rattle.cfb_sectors.specs.Header.{sector_bytes}
use Rattle.cfb_sectors.specs.Opening.{HasRightLength}
use Rattle.cfb_sectors.specs.HeaderRules.{BreaksFat}
use Rattle.cfb_sectors.specs.Chain.{Table, ChainHead, fat_table, HoldsChain}
use Rattle.cfb_streams.specs.Contents.{Stream, Contents}
use Rattle.cfb_directory.specs.Directory.{EntryBefore, entry_stream_size}
use Rattle.cfb_directory.specs.Reach.{entry_place}
use Rattle.cfb_streams.specs.StreamRules.{Parts, Owner, of_stream, Owns, HasLargeSector, HasSmallSector, BreaksSharing}
use Rattle.cfb_streams.specs.StreamRules.{IsMiniStream, mini_table_of}
use Rattle.cfb_directory.specs.StreamEntries.{stream_head}
use Rattle.cfb_streams.specs.Container.{container_rules, mini_bytes, IsStreamOf, HasContents}
use Rattle.cfb_streams.proofs.Public.{chain_inside, directory_unique, mini_fat_unique, mini_stream_unique}
use Rattle.cfb_sectors.proofs.Public.{length-cut, whole_length}
use Rattle.cfb_layout.specs.Sectors.{units_for}
use Rattle.cfb_layout.specs.Counts.{large_len, small_len, mini_counts, large_counts, sector_counts}
use Rattle.cfb_layout.proofs.CountLemmas.{minis_at, length-mini_counts}
use Rattle.cfb_layout.proofs.PartLemmas.{large_is, large_none, small_is, small_none}
use Rattle.cfb_layout.proofs.RunLemmas.{IsRun, IsHeld, no_sectors, IsGathered, gather}

-- what is used of a file that breaks no rule
pub record IsAccepted (file : List ℕ) (parts : Parts) : Type 0 where
  pub whole : HasRightLength file
  pub fat : Nowhere (BreaksFat file)
  pub sharing : Nowhere (BreaksSharing file parts)

pub accepted : (file : List ℕ) (contents : Contents) → Hold (container_rules file) →
    (has : HasContents file contents) → IsAccepted file has.parts
accepted file contents hold has =
    let d = hold.1.1.1.0 in
    let tail = hold.1.1.1.1 in
    let is_directory = tail.0 in
    let minis = tail.1.1.1.1.1.1 in
    let mf = minis.0 in
    let is_mini_fat = minis.1.0 in
    let stored = minis.1.1.1 in
    let ms = stored.0 in
    let is_mini_stream = stored.1.0 in
    let sharing : Nowhere (BreaksSharing file (record { directory = d; mini_fat = mf; mini_stream = ms })) =
    stored.1.1.1 in
    let de = directory_unique file d has.parts.directory is_directory has.directory in
    let fe = mini_fat_unique file mf has.parts.mini_fat is_mini_fat has.mini_fat in
    let se = mini_stream_unique file has.parts.directory ms has.parts.mini_stream (subst (λ x. IsMiniStream file x ms)
    de is_mini_stream) has.mini_stream in
    let first = subst (λ x. Nowhere (BreaksSharing file (record { directory = x; mini_fat = mf; mini_stream = ms })))
    de sharing in
    let second = subst (λ x. Nowhere (BreaksSharing file (record {
      directory = has.parts.directory;
      mini_fat = x;
      mini_stream = ms;
    }))) fe first in
    let third = subst (λ x. Nowhere (BreaksSharing file (record {
      directory = has.parts.directory;
      mini_fat = has.parts.mini_fat;
      mini_stream = x;
    }))) se second in
    record { whole = whole_length file hold.0.0; fat = hold.1.0.1.1; sharing = third }

-- two owners have no sector in common
pub owners_apart : (file : List ℕ) (parts : Parts) (x y : Owner) (s : ℕ) → IsAccepted file parts → x ≢ y →
    Owns file parts x s → ¬ Owns file parts y s
owners_apart file parts x y s ok apart a b =
    ok.sharing ((fat_table file).place s) (inl (record {
      one = x;
      other = y;
      apart = apart;
      sector = s;
      first = a;
      second = b;
      here = refl;
    }))

small_apart : (file : List ℕ) (parts : Parts) (x y s : ℕ) → IsAccepted file parts → x ≢ y → HasSmallSector file
    parts.directory parts.mini_fat x s → ¬ HasSmallSector file parts.directory parts.mini_fat y s
small_apart file parts x y s ok apart a b =
    ok.sharing ((mini_table_of file parts.directory parts.mini_fat).place s) (inr (record {
      one = x;
      other = y;
      apart = apart;
      sector = s;
      first = a;
      second = b;
      here = refl;
    }))

-- the sectors of a chain
pub chain_run : (table : Table) (head : ChainHead) (xs : List ℕ) → HoldsChain table head xs → IsRun table.valid xs
chain_run table head xs h = record { within = h.chain.path.within; distinct = h.chain.path.distinct }

-- no entry is in the list twice
pub entries_apart : (file : List ℕ) (contents : Contents) (has : HasContents file contents) (i j : ℕ) → i < j →
    j < length has.entries → slice_index has.entries i ≢ slice_index has.entries j
entries_apart file contents has i j less h e =
    let before = has.lists.order i j less h in
    let again = subst (λ x. EntryBefore file (entry_place has.parts.directory x) (entry_place has.parts.directory
    (slice_index has.entries j))) e before in
    elim again [
      | inl short ↦ omega arith
      | inr same ↦ let least = same.1.1 in let lower = least.less in omega arith
    ]

entries_same : (file : List ℕ) (contents : Contents) (has : HasContents file contents) (i j : ℕ) →
    i < length has.entries → j < length has.entries → slice_index has.entries i ≡ slice_index has.entries j → i ≡ j
entries_same file contents has i j low below e = elim (cases_lt i j) [
  | inl less ↦ absurd (entries_apart file contents has i j less below e)
  | inr more ↦ elim (cases_eq i j) [
    | inl same ↦ same
    | inr other ↦ absurd (entries_apart file contents has j i (omega arith) low (sym e))
  ]
]

-- the sectors, or the mini sectors, of the i-th stream
abbrev HasLargeOf : (file : List ℕ) (contents : Contents) → HasContents file contents → ℕ → ℕ → Type 0
HasLargeOf file contents has i s = (i < length has.entries) × HasLargeSector file has.parts.directory (slice_index
    has.entries i) s

abbrev HasSmallOf : (file : List ℕ) (contents : Contents) → HasContents file contents → ℕ → ℕ → Type 0
HasSmallOf file contents has i s = (i < length has.entries) × HasSmallSector file has.parts.directory
    has.parts.mini_fat (slice_index has.entries i) s

held_large : (file : List ℕ) (contents : Contents) (has : HasContents file contents) (i : ℕ) (stream : Stream) →
    i < length has.entries → IsStreamOf file has.parts (slice_index has.entries i) stream →
    IsHeld (fat_table file).valid (HasLargeOf file contents has i) (units_for 512 (large_len (length stream.bytes)))
held_large file contents has i stream low is =
    let directory = has.parts.directory in
    let size = entry_stream_size file (entry_place directory (slice_index has.entries i)) in
    elim is.holds [
      | inl empty ↦
          let len = ap length empty.bytes in
          let none = large_none (length stream.bytes) (omega arith) in
          no_sectors (fat_table file).valid (HasLargeOf file contents has i) (units_for 512
          (large_len (length stream.bytes))) (omega arith)
      | inr rest ↦ elim rest [
        | inl short ↦
            let joined = flat_map (sector_bytes 0 64 (mini_bytes file has.parts)) short.body.sectors in
            let len = ap length short.body.joined in
            let cut = length-take size joined in
            let small = short.body.is_small.small in
            let none = large_none (length stream.bytes) (omega arith) in
            no_sectors (fat_table file).valid (HasLargeOf file contents has i) (units_for 512
            (large_len (length stream.bytes))) (omega arith)
        | inr long ↦
            let joined = flat_map (sector_bytes 512 512 file) long.sectors in
            let len = ap length long.body.joined in
            let cut = length-take size joined in
            let enough = long.body.holds.enough in
            record {
              sectors = long.sectors;
              run = chain_run (fat_table file) (stream_head file 512 (entry_place directory (slice_index has.entries
                  i))) long.sectors long.body.holds;
              enough = elim (cases_lt (length stream.bytes) 4096) [
                | inl few ↦ let none = large_none (length stream.bytes) few in omega arith
                | inr many ↦ let same = large_is (length stream.bytes) many in omega arith
              ];
              owned = λ s h. (
                low,
                record {
                  is_large = long.body.is_large;
                  sectors = long.sectors;
                  holds = long.body.holds;
                  has = h;
                },
              );
            }
      ]
    ]

held_small : (file : List ℕ) (contents : Contents) (has : HasContents file contents) (i : ℕ) (stream : Stream) →
    IsAccepted file has.parts → i < length has.entries → IsStreamOf file has.parts (slice_index has.entries i)
    stream → IsHeld (mini_table_of file has.parts.directory has.parts.mini_fat).valid (HasSmallOf file contents has i)
    (units_for 64 (small_len (length stream.bytes)))
held_small file contents has i stream ok low is =
    let directory = has.parts.directory in
    let table = mini_table_of file directory has.parts.mini_fat in
    let at = entry_place directory (slice_index has.entries i) in
    let size = entry_stream_size file at in
    elim is.holds [
      | inl empty ↦
          let len = ap length empty.bytes in
          let none = small_is (length stream.bytes) (omega arith) in
          no_sectors table.valid (HasSmallOf file contents has i) (units_for 64 (small_len (length stream.bytes)))
          (omega arith)
      | inr rest ↦ elim rest [
        | inl short ↦
            let joined = flat_map (sector_bytes 0 64 (mini_bytes file has.parts)) short.body.sectors in
            let len = ap length short.body.joined in
            let cut = length-take size joined in
            let enough = short.body.holds.enough in
            let small = short.body.is_small.small in
            let same = small_is (length stream.bytes) (omega arith) in
            record {
              sectors = short.body.sectors;
              run = chain_run table (stream_head file 64 at) short.body.sectors short.body.holds;
              enough = omega arith;
              owned = λ s h. (
                low,
                record {
                  is_small = short.body.is_small;
                  sectors = short.body.sectors;
                  holds = short.body.holds;
                  has = h;
                },
              );
            }
        | inr long ↦
            let inside = chain_inside file (stream_head file 512 at) long.sectors ok.whole long.body.holds in
            let len = length-cut 512 512 file long.sectors stream.bytes size (λ k h. let room = inside.inside k h in
            omega arith) long.body.joined in
            let enough = long.body.holds.enough in
            let large = long.body.is_large.large in
            let none = small_none (length stream.bytes) (omega arith) in
            no_sectors table.valid (HasSmallOf file contents has i) (units_for 64 (small_len (length stream.bytes)))
            (omega arith)
      ]
    ]

-- the lengths of the streams
abbrev pub lengths_in : Contents → List ℕ
lengths_in contents = map (λ stream. length stream.bytes) contents.streams

abbrev nothing : Stream
nothing = record { name = []; bytes = []; chain = None }

length_in : (contents : Contents) (i : ℕ) → i < length contents.streams → slice_index (lengths_in contents) i ≡ length
    (get_or contents.streams i nothing).bytes
length_in contents i h = get_or-map (λ stream. length stream.bytes) contents.streams i nothing 0 h

large_at : (lengths : List ℕ) (i : ℕ) → i < length lengths → slice_index (large_counts lengths) i ≡ units_for 512
    (large_len (slice_index lengths i))
unfolding large_counts
large_at lengths i h = get_or-map (λ len. units_for 512 (large_len len)) lengths i 0 0 h

pub length-large_counts : (lengths : List ℕ) → length (large_counts lengths) ≡ length lengths
unfolding large_counts
length-large_counts lengths = length-map lengths (λ len. units_for 512 (large_len len))

-- all sectors, part by part
pub sum_counts : (lengths : List ℕ) → sum (sector_counts lengths) ≡ sum (large_counts lengths) + units_for 512
    (64 * sum (mini_counts lengths)) + units_for 128 (sum (mini_counts lengths)) + units_for 4 (length lengths + 1)
unfolding sector_counts
sum_counts lengths =
    let all = sum_by-append (λ (x : ℕ). x) (large_counts lengths) (units_for 512 (64 * sum (mini_counts lengths)) ∷
    (units_for 128 (sum (mini_counts lengths)) ∷ (units_for 4 (length lengths + 1) ∷ []))) in
    omega arith

-- the sectors of all streams
pub gathered_large : (file : List ℕ) (contents : Contents) (has : HasContents file contents) → IsAccepted file
    has.parts → IsGathered (fat_table file).valid (HasLargeOf file contents has) (large_counts (lengths_in contents))
    (length contents.streams)
gathered_large file contents has ok =
    let lengths = lengths_in contents in
    let n = has.streams.len in
    let len = length-large_counts lengths in
    let same = length-map contents.streams (λ stream. length stream.bytes) in
    gather (fat_table file).valid (HasLargeOf file contents has) (large_counts lengths)
    (λ i j s a b. elim (cases_eq i j) [
      | inl e ↦ e
      | inr apart ↦
          let different : of_stream (slice_index has.entries i) ≢ of_stream (slice_index has.entries j) = λ e.
          let inner : slice_index has.entries i ≡ slice_index has.entries j = cc in
          apart (entries_same file contents has i j a.0 b.0 inner) in
          absurd (owners_apart file has.parts (of_stream (slice_index has.entries i))
          (of_stream (slice_index has.entries j)) s ok different a.1 b.1)
    ])
    (λ i h.
    let low : i < length contents.streams = omega arith in
    let stream = get_or contents.streams i nothing in
    let body = has.streams.each i stream (slice_get-get_or contents.streams i nothing low) in
    let count = large_at lengths i (omega arith) ∙ ap (λ m. units_for 512 (large_len m)) (length_in contents i low) in
    subst (λ m. IsHeld (fat_table file).valid (HasLargeOf file contents has i) m) (sym count) (held_large file
    contents has i stream (omega arith) body))
    (length contents.streams) (omega arith)

pub gathered_small : (file : List ℕ) (contents : Contents) (has : HasContents file contents) → IsAccepted file
    has.parts → IsGathered (mini_table_of file has.parts.directory has.parts.mini_fat).valid (HasSmallOf file contents
    has) (mini_counts (lengths_in contents)) (length contents.streams)
gathered_small file contents has ok =
    let lengths = lengths_in contents in
    let table = mini_table_of file has.parts.directory has.parts.mini_fat in
    let n = has.streams.len in
    let len = length-mini_counts lengths in
    let same = length-map contents.streams (λ stream. length stream.bytes) in
    gather table.valid (HasSmallOf file contents has) (mini_counts lengths)
    (λ i j s a b. elim (cases_eq i j) [
      | inl e ↦ e
      | inr apart ↦
          let different : slice_index has.entries i ≢ slice_index has.entries j = λ e. apart (entries_same file
          contents has i j a.0 b.0 e) in
          absurd (small_apart file has.parts (slice_index has.entries i) (slice_index has.entries j) s ok different
          a.1 b.1)
    ])
    (λ i h.
    let low : i < length contents.streams = omega arith in
    let stream = get_or contents.streams i nothing in
    let body = has.streams.each i stream (slice_get-get_or contents.streams i nothing low) in
    let count = minis_at lengths i (omega arith) ∙ ap (λ m. units_for 64 (small_len m)) (length_in contents i low) in
    subst (λ m. IsHeld table.valid (HasSmallOf file contents has i) m) (sym count) (held_small file contents has i
    stream ok (omega arith) body))
    (length contents.streams) (omega arith)
