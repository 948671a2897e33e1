-- The streams of a layout whose file fits are short.
use Rattle.std.specs.Prelude.{slice_get, slice_index}
use Rattle.std.proofs.Common.{◌≡◌, inl, inr, ℕ, ◌<◌, ◌≤◌, List}
use Rattle.std.proofs.Common.{length, Some}
use Rattle.std.proofs.Common.{ap, ◌∙◌, arith}
use Rattle.std.proofs.lemmas.Bool.{cases_lt}
use Rattle.std.proofs.lemmas.Option.{slice_get_within, get_or_from_slice_get}
use Rattle.doc_bits.proofs.Public.{get-map}
use Rattle.cfb_streams.specs.Contents.{NamedBytes}
use Rattle.cfb_layout.specs.Counts.{Fits, sector_counts}
use Rattle.cfb_layout.specs.Layout.{lengths_of}
use Rattle.cfb_layout.proofs.Public.{length-sector_counts, sectors-needed, length-lengths_of, counts_stream, start_room}
use Rattle.cfb_layout.proofs.Public.{large_is}
use Rattle.cfb_layout.specs.Sectors.{units_for}

pub most_bytes : (lengths : List ℕ) (i : ℕ) → Fits lengths → i < length lengths → slice_index lengths i ≤ 7143424
most_bytes lengths i fits below = elim (cases_lt (slice_index lengths i) 4096) [
  | inl small ↦ omega (arith, small)
  | inr large ↦
      let counts = sector_counts lengths in
      let all = sectors-needed lengths in
      let len = length-sector_counts lengths in
      let part = start_room counts i (omega (arith, len, below)) in
      let count = counts_stream lengths i below ∙ ap (λ m. units_for 512 m) (large_is (slice_index lengths i) large) in
      omega (arith, all, part, count, fits)
]

pub stream_short : (streams : List NamedBytes) (i : ℕ) (stream : NamedBytes) → Fits (lengths_of streams) →
    slice_get streams i ≡ Some stream → length stream.bytes ≤ 7143424
stream_short streams i stream fits here =
    let within = slice_get_within streams i stream here in
    let len = length-lengths_of streams in
    let there = get-map (λ (s : NamedBytes). length s.bytes) streams i stream here in
    let at = get_or_from_slice_get (lengths_of streams) i (length stream.bytes) 0 there in
    let most = most_bytes (lengths_of streams) i fits (omega (arith, len, within)) in
    omega (arith, at, most)
