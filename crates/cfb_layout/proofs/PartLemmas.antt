-- The large and the small part of a stream, and the mini stream.
use Rattle.std.proofs.Common.{◌≡◌, inl, inr, ℕ, ◌+◌, ◌*◌, ◌<◌, ◌≤◌, ltb, List, [], length, slice_index}
use Rattle.std.proofs.Common.{slice_index_or, sum, sym, ap, ◌∙◌, arith}
use Rattle.std.proofs.lemmas.Bool.{cases_lt, lt-ltb, le-ltb, cond-true, cond-false}
use Rattle.cfb_streams.specs.Contents.{NamedBytes}
use Rattle.cfb_layout.specs.Sectors.{units_for, padded_to_unit, chain_start}
use Rattle.cfb_layout.specs.Counts.{large_len, small_len, mini_counts}
use Rattle.cfb_layout.specs.Layout.{lengths_of, no_stream, large_part, small_part, mini_stream}
use Rattle.cfb_layout.proofs.BytesLemmas.{HaveCounts, parts_at, length-parts, length-padded, padded_at}
use Rattle.cfb_layout.proofs.CountLemmas.{length-mini_counts, minis_at, length-lengths_of, lengths_at}

-- a stream has one part
pub large_is : (len : ℕ) → 4096 ≤ len → large_len len ≡ len
large_is len h = cond-false (ltb len 4096) 0 len (le-ltb len 4096 h)

pub large_none : (len : ℕ) → len < 4096 → large_len len ≡ 0
large_none len h = cond-true (ltb len 4096) 0 len (lt-ltb len 4096 h)

pub small_is : (len : ℕ) → len < 4096 → small_len len ≡ len
small_is len h = cond-true (ltb len 4096) len 0 (lt-ltb len 4096 h)

pub small_none : (len : ℕ) → 4096 ≤ len → small_len len ≡ 0
small_none len h = cond-false (ltb len 4096) len 0 (le-ltb len 4096 h)

pub large_whole : (bytes : List ℕ) → 4096 ≤ length bytes → large_part bytes ≡ bytes
large_whole bytes h = cond-false (ltb (length bytes) 4096) [] bytes (le-ltb (length bytes) 4096 h)

pub large_empty : (bytes : List ℕ) → length bytes < 4096 → large_part bytes ≡ []
large_empty bytes h = cond-true (ltb (length bytes) 4096) [] bytes (lt-ltb (length bytes) 4096 h)

pub small_whole : (bytes : List ℕ) → length bytes < 4096 → small_part bytes ≡ bytes
small_whole bytes h = cond-true (ltb (length bytes) 4096) bytes [] (lt-ltb (length bytes) 4096 h)

pub small_empty : (bytes : List ℕ) → 4096 ≤ length bytes → small_part bytes ≡ []
small_empty bytes h = cond-false (ltb (length bytes) 4096) bytes [] (le-ltb (length bytes) 4096 h)

pub length-large_part : (bytes : List ℕ) → length (large_part bytes) ≡ large_len (length bytes)
length-large_part bytes = elim (cases_lt (length bytes) 4096) [
  | inl low ↦ ap length (large_empty bytes low) ∙ sym (large_none (length bytes) low)
  | inr high ↦ ap length (large_whole bytes high) ∙ sym (large_is (length bytes) high)
]

pub length-small_part : (bytes : List ℕ) → length (small_part bytes) ≡ small_len (length bytes)
length-small_part bytes = elim (cases_lt (length bytes) 4096) [
  | inl low ↦ ap length (small_whole bytes low) ∙ sym (small_is (length bytes) low)
  | inr high ↦ ap length (small_empty bytes high) ∙ sym (small_none (length bytes) high)
]

-- the mini stream has the small parts at their mini sectors
pub mini_parts : (streams : List NamedBytes) → HaveCounts (λ stream. padded_to_unit 64 0 (small_part stream.bytes)) 64
    (mini_counts (lengths_of streams)) streams no_stream
mini_parts streams =
    let n = length-lengths_of streams in
    let m = length-mini_counts (lengths_of streams) in
    record {
      len = omega arith;
      each = λ i h.
          let bytes = (slice_index_or streams i no_stream).bytes in
          let len = length-padded 64 0 (small_part bytes) (omega arith) in
          let part = length-small_part bytes in
          let count = minis_at (lengths_of streams) i (omega arith) in
          let here = ap (λ len. units_for 64 (small_len len)) (lengths_at streams i h) in
          let same = ap (λ len. units_for 64 len) part in
          omega arith;
    }

pub length-mini_stream : (streams : List NamedBytes) → length (mini_stream streams) ≡ 64 * sum (mini_counts
    (lengths_of streams))
unfolding mini_stream
length-mini_stream streams = length-parts (λ stream. padded_to_unit 64 0 (small_part stream.bytes)) 64 (mini_counts
    (lengths_of streams)) streams no_stream (mini_parts streams)

pub mini_stream_at : (streams : List NamedBytes) (i x at : ℕ) → i < length streams →
    x < length (small_part (slice_index_or streams i no_stream).bytes) → at ≡ 64 * chain_start (mini_counts
    (lengths_of streams)) i + x → slice_index (mini_stream streams) at ≡ slice_index (small_part (slice_index_or
    streams i no_stream).bytes) x
unfolding mini_stream
mini_stream_at streams i x at low less here =
    let bytes = (slice_index_or streams i no_stream).bytes in
    let len = length-padded 64 0 (small_part bytes) (omega arith) in
    parts_at (λ stream. padded_to_unit 64 0 (small_part stream.bytes)) 64 (mini_counts (lengths_of streams)) streams
    no_stream
    i x at (mini_parts streams) low (omega arith) here
    ∙ padded_at 64 0 (small_part bytes) x less
