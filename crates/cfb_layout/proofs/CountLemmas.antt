-- The counts of sectors, part by part.
use Rattle.std.proofs.Common.{◌≡◌, ℕ, ◌+◌, ◌-◌, ◌*◌, ◌<◌, List, [], ◌∷◌, length, map, slice_index, slice_index_or}
use Rattle.std.proofs.Common.{sum, refl, ap, ◌∙◌, arith, length-append}
use Rattle.std.proofs.lemmas.List.{get_or_append_left, get_or-append_right, get_or-map, length-map}
use Rattle.cfb_streams.specs.Contents.{NamedBytes}
use Rattle.cfb_layout.specs.Sectors.{units_for}
use Rattle.cfb_layout.specs.Counts.{large_len, small_len, mini_counts, large_counts, sector_counts, fat_count}
use Rattle.cfb_layout.specs.Counts.{sectors_needed}
use Rattle.cfb_layout.specs.Layout.{lengths_of, no_stream}

pub length-mini_counts : (lengths : List ℕ) → length (mini_counts lengths) ≡ length lengths
unfolding mini_counts
length-mini_counts lengths = length-map lengths (λ len. units_for 64 (small_len len))

pub length-sector_counts : (lengths : List ℕ) → length (sector_counts lengths) ≡ length lengths + 3
unfolding sector_counts large_counts
length-sector_counts lengths =
    let a = length-map lengths (λ len. units_for 512 (large_len len)) in
    let b = length-append (map (λ len. units_for 512 (large_len len)) lengths) (units_for 512
    (64 * sum (mini_counts lengths)) ∷ (units_for 128 (sum (mini_counts lengths)) ∷ (units_for 4 (length lengths +
    1) ∷ []))) in
    omega arith

pub minis_at : (lengths : List ℕ) (i : ℕ) → i < length lengths → slice_index (mini_counts lengths) i ≡ units_for 64
    (small_len (slice_index lengths i))
unfolding mini_counts
minis_at lengths i h = get_or-map (λ len. units_for 64 (small_len len)) lengths i 0 0 h

-- the sectors of a stream
pub counts_stream : (lengths : List ℕ) (i : ℕ) → i < length lengths → slice_index (sector_counts lengths) i ≡
    units_for 512 (large_len (slice_index lengths i))
unfolding sector_counts large_counts
counts_stream lengths i h =
    let len = length-map lengths (λ len. units_for 512 (large_len len)) in
    get_or_append_left (map (λ len. units_for 512 (large_len len)) lengths) (units_for 512
    (64 * sum (mini_counts lengths)) ∷ (units_for 128 (sum (mini_counts lengths)) ∷ (units_for 4 (length lengths +
    1) ∷ []))) 0 i (omega arith)
    ∙ get_or-map (λ len. units_for 512 (large_len len)) lengths i 0 0 h

-- those of the three parts behind the streams
counts_behind : (lengths : List ℕ) (i j : ℕ) → i ≡ length lengths + j → slice_index (sector_counts lengths) i ≡
    slice_index (units_for 512 (64 * sum (mini_counts lengths)) ∷ (units_for 128 (sum (mini_counts lengths)) ∷
    (units_for 4 (length lengths + 1) ∷ []))) j
unfolding sector_counts large_counts
counts_behind lengths i j e =
    let rest = units_for 512 (64 * sum (mini_counts lengths)) ∷ (units_for 128 (sum (mini_counts lengths)) ∷
    (units_for 4 (length lengths + 1) ∷ [])) in
    let len = length-map lengths (λ len. units_for 512 (large_len len)) in
    let place : i - length lengths ≡ j = omega arith in
    get_or-append_right (map (λ len. units_for 512 (large_len len)) lengths) rest (length lengths) i 0 len (omega arith)
    ∙ ap (λ k. slice_index rest k) place

pub counts_mini_stream : (lengths : List ℕ) → slice_index (sector_counts lengths) (length lengths) ≡ units_for 512
    (64 * sum (mini_counts lengths))
counts_mini_stream lengths = counts_behind lengths (length lengths) 0 (omega arith)

pub counts_mini_fat : (lengths : List ℕ) → slice_index (sector_counts lengths) (length lengths + 1) ≡ units_for 128
    (sum (mini_counts lengths))
counts_mini_fat lengths = counts_behind lengths (length lengths + 1) 1 refl

pub counts_directory : (lengths : List ℕ) → slice_index (sector_counts lengths) (length lengths + 2) ≡ units_for 4
    (length lengths + 1)
counts_directory lengths = counts_behind lengths (length lengths + 2) 2 refl

-- all sectors, and what fits
pub sectors-needed : (lengths : List ℕ) → sectors_needed lengths ≡ sum (sector_counts lengths) + fat_count lengths
unfolding sectors_needed
sectors-needed lengths = refl

pub length-lengths_of : (streams : List NamedBytes) → length (lengths_of streams) ≡ length streams
length-lengths_of streams = length-map streams (λ stream. length stream.bytes)

pub lengths_at : (streams : List NamedBytes) (i : ℕ) → i < length streams → slice_index (lengths_of streams) i ≡
    length (slice_index_or streams i no_stream).bytes
lengths_at streams i h = get_or-map (λ stream. length stream.bytes) streams i no_stream 0 h
