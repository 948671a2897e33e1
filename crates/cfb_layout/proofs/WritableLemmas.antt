-- What fits, fits the fields of the header and of the entries.
use Rattle.std.proofs.Common.{◌≡◌, inl, inr, ℕ, zero, suc, ◌+◌, ◌^◌, ◌<◌, ltb, true, List, length, slice_index}
use Rattle.std.proofs.Common.{slice_index_or, sum, refl, ap, ◌∙◌, arith}
use Rattle.std.proofs.lemmas.Bool.{cases_lt, ltb-true, cond_both}
use Rattle.std.proofs.lemmas.List.{get_or_past}
use Rattle.std.specs.List.{list_all}
use Rattle.std.proofs.lemmas.List.Elements.{All-get_or}
use Rattle.std.proofs.lemmas.List.Sums.{AllPass-from_list_all}
use Rattle.std.proofs.lemmas.Option.{slice_get-get_or}
use Rattle.cfb_streams.specs.Contents.{NamedBytes, AreStreams}
use Rattle.cfb_sectors.specs.SectorChain.{end_of_chain}
use Rattle.cfb_layout.specs.declared.tree.Span.{Span}
use Rattle.cfb_layout.specs.Sectors.{units_for, chain_start}
use Rattle.cfb_layout.specs.Tree.{lower, upper, top, all_entries, span_of_entry}
use Rattle.cfb_layout.specs.Counts.{mini_counts, sector_counts, Fits, first_sector}
use Rattle.cfb_layout.specs.Entries.{unused_entry, root_name}
use Rattle.cfb_layout.specs.Layout.{lengths_of, no_stream, root_entry, stream_entry, directory_entry}
use Rattle.cfb_layout.specs.Laws.{AreLayoutStreams}
use Rattle.cfb_layout.proofs.SectorLemmas.{start_below}
use Rattle.cfb_layout.proofs.CountLemmas.{length-sector_counts, counts_stream, counts_mini_stream, sectors-needed}
use Rattle.cfb_layout.proofs.CountLemmas.{length-lengths_of, lengths_at}
use Rattle.cfb_layout.proofs.SectorLemmas.{start_room}
use Rattle.cfb_layout.proofs.TreeLemmas.{part_is, top_none, top_some}
use Rattle.cfb_layout.proofs.EntryLemmas.{IsWritable}
use Rattle.cfb_layout.proofs.FileLemmas.{entries_whole, length-no_clsid}
use Rattle.cfb_layout.proofs.PartLemmas.{large_is}

-- starts and links are 32-bit numbers
pub first_below : (counts : List ℕ) (i : ℕ) → sum counts < 2 ^ 32 → first_sector counts i < 2 ^ 32
first_below counts i h = cond_both (ltb 0 (slice_index counts i)) (chain_start counts i) end_of_chain (λ n. n < 2 ^ 32)
    (λ is. let low = start_below counts i in omega arith) (λ is. omega arith)

top_below : (span : Span) → span.low + span.count < 2 ^ 32 → top span < 2 ^ 32
top_below span h = elim (cases_lt 0 span.count) [
  | inl some ↦ let e = top_some span some in omega arith
  | inr none ↦ let e = top_none span (omega arith) in omega arith
]

-- how much fits
pub record IsBounded (lengths : List ℕ) : Type 0 where
  pub sectors : sum (sector_counts lengths) < 2 ^ 14
  pub minis : sum (mini_counts lengths) < 2 ^ 17
  pub each : (i : ℕ) → i < length lengths → slice_index lengths i < 2 ^ 32

pub bounded : (lengths : List ℕ) → Fits lengths → IsBounded lengths
bounded lengths fits =
    let counts = sector_counts lengths in
    let all = sectors-needed lengths in
    let len = length-sector_counts lengths in
    let room = start_room counts (length lengths) (omega arith) in
    let stored = counts_mini_stream lengths in
    record {
      sectors = omega arith;
      minis = omega arith;
      each = λ i h. elim (cases_lt (slice_index lengths i) 4096) [
        | inl small ↦ omega arith
        | inr large ↦
            let part = start_room counts i (omega arith) in
            let count = counts_stream lengths i h ∙ ap (λ m. units_for 512 m) (large_is (slice_index lengths i) large)
            in
            omega arith
      ];
    }

-- the units of the root's name
root_all : list_all (λ unit. ltb unit 65536) root_name ≡ true
unfolding root_name
root_all = refl

root_unit : (i : ℕ) → slice_index root_name i < 2 ^ 16
root_unit i = elim (cases_lt i (length root_name)) [
  | inr past ↦ let e = get_or_past root_name i 0 past in omega arith
  | inl low ↦ ltb-true (slice_index root_name i) 65536 (All-get_or (λ unit. ltb unit 65536 ≡ true) root_name i 0 low
      (AllPass-from_list_all (λ unit. ltb unit 65536) root_name root_all))
]

-- the numbers of each entry fit their fields
root_writable : (streams : List NamedBytes) (clsid : List ℕ) → AreStreams streams → AreLayoutStreams streams clsid →
    IsWritable (root_entry (lengths_of streams) clsid)
root_writable streams clsid are lay =
    let lengths = lengths_of streams in
    let n = length-lengths_of streams in
    let few = lay.few in
    let b = bounded lengths lay.fits in
    let sectors = b.sectors in
    let minis = b.minis in
    record {
      whole = entries_whole streams clsid 0 are lay.clsid_len;
      units = root_unit;
      long = omega arith;
      kind = omega arith;
      left = omega arith;
      right = omega arith;
      child = top_below (all_entries (length lengths)) (omega arith);
      start = first_below (sector_counts lengths) (length lengths) (omega arith);
      size = omega arith;
    }

stream_writable : (streams : List NamedBytes) (clsid : List ℕ) (i : ℕ) → AreStreams streams → AreLayoutStreams streams
    clsid →
    i < length streams → IsWritable (stream_entry (lengths_of streams) i (slice_index_or streams i no_stream))
stream_writable streams clsid i are lay low =
    let lengths = lengths_of streams in
    let n = length-lengths_of streams in
    let few = lay.few in
    let b = bounded lengths lay.fits in
    let sectors = b.sectors in
    let minis = b.minis in
    let size = b.each i (omega arith) in
    let here = lengths_at streams i low in
    let all = all_entries (length lengths) in
    let part = part_is (length lengths) (i + 1) all (omega arith) (record { from = omega arith; below = omega arith })
    in
    let from = part.from in
    let end = part.end in
    let stream = slice_index_or streams i no_stream in
    let there = slice_get-get_or streams i no_stream low in
    let short = are.short i stream there in
    record {
      whole = record { few = omega arith; clsid = length-no_clsid };
      units = λ k. lay.names i stream there k;
      long = omega arith;
      kind = omega arith;
      left = top_below (lower (span_of_entry (length lengths) (i + 1) all)) (omega arith);
      right = top_below (upper (span_of_entry (length lengths) (i + 1) all)) (omega arith);
      child = omega arith;
      start = cond_both (ltb (slice_index lengths i) 4096) (first_sector (mini_counts lengths) i) (first_sector
          (sector_counts lengths) i) (λ n. n < 2 ^ 32)
          (λ is. first_below (mini_counts lengths) i (omega arith)) (λ is. first_below (sector_counts lengths) i
          (omega arith));
      size = omega arith;
    }

unused_writable : IsWritable unused_entry
unused_writable = record {
  whole = record { few = omega arith; clsid = length-no_clsid };
  units = λ i. omega arith;
  long = omega arith;
  kind = omega arith;
  left = omega arith;
  right = omega arith;
  child = omega arith;
  start = omega arith;
  size = omega arith;
}

pub entry_writable : (streams : List NamedBytes) (clsid : List ℕ) (k : ℕ) → AreStreams streams → AreLayoutStreams
    streams
    clsid → IsWritable (directory_entry streams clsid k)
entry_writable streams clsid zero are lay = root_writable streams clsid are lay
entry_writable streams clsid (suc i) are lay =
    cond_both (ltb i (length streams)) (stream_entry (lengths_of streams) i (slice_index_or streams i no_stream))
    unused_entry IsWritable
    (λ is. stream_writable streams clsid i are lay (ltb-true i (length streams) is))
    (λ is. unused_writable)
