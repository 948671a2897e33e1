-- The chains of the parts, and of the streams, as the code finds them by the FAT and the mini FAT.
use Rattle.std.proofs.Common.{◌≡◌, ◌≢◌, inl, inr, ℕ, ◌<◌, ◌≤◌, Option, List, length, refl, ap, subst, arith}
use Rattle.std.proofs.lemmas.Bool.{cases_lt}
use Rattle.doc_bits.specs.Number.{u32_at}
use Rattle.doc_bits.specs.Rules.{LeastOrNone}
use Rattle.doc_bits.proofs.Public.{least_same}
use Rattle.cfb_sectors.specs.declared.chain.Chain.{Chain}
use Rattle.cfb_sectors.specs.declared.chain.Chain.TheVariants.{Found, Breaks}
use Rattle.cfb_sectors.specs.Chain.{fat_table, BreaksChain}
use Rattle.cfb_sectors.specs.SectorChain.{IsFullPath}
use Rattle.cfb_sectors.specs.Tables.{TablePlace, table_at, fat_place}
use Rattle.cfb_sectors.specs.Judged.{IsFoundChain}
use Rattle.cfb_directory.specs.Directory.{entry_stream_size}
use Rattle.cfb_streams.specs.StreamRules.{mini_fat_head, mini_table_of}
use Rattle.cfb_directory.specs.StreamEntries.{stream_head, IsLargeStream, IsSmallStream}
use Rattle.cfb_streams.specs.StreamRules.{IsWrongStream}
use Rattle.cfb_directory.specs.Reach.{entry_place, directory_head, IsLongDirectory}
use Rattle.cfb_streams.specs.FoundParts.{IsFoundDirectory, IsFoundMiniFat, IsFoundMiniStream}
use Rattle.cfb_sectors.proofs.Public.{chain_full, full_unique}

-- a path that begins at the directory's start and cannot go on is the only one
pub long_directory : (file xs : List ℕ) (fat : TablePlace) (start : ℕ) → fat ≡ fat_place file → start ≡ u32_at file 48 →
    IsFullPath (table_at fat).entry fat.valid start xs → (256 < length xs → IsLongDirectory file 48) × (IsLongDirectory
    file 48 → 256 < length xs)
long_directory file xs fat start is begins path =
    let entry = (fat_table file).entry in
    let valid = (fat_table file).valid in
    let full : IsFullPath entry valid (u32_at file 48) xs = subst (λ s. IsFullPath entry valid s xs) begins (subst
    (λ t. IsFullPath (table_at t).entry t.valid start xs) is path) in (
      λ long. record { here = refl; sectors = xs; full = full; long = long },
      λ l.
          let same = ap length (full_unique entry valid (u32_at file 48) l.sectors xs l.full full) in
          let long = l.long in omega arith,
    )

-- none begins at a sector that is not there
pub no_directory : (file : List ℕ) (fat : TablePlace) (start : ℕ) → fat ≡ fat_place file → start ≡ u32_at file 48 →
    fat.valid ≤ start → ¬ IsLongDirectory file 48
no_directory file fat start is begins past = λ l.
    let path = l.full.path in
    let valid : fat.valid ≡ (fat_table file).valid = ap (λ t. t.valid) is in
    let within = path.within 0 path.some in
    let first = path.first in omega arith

-- without such a path the chain's own place, or the chain, is that of the directory
pub found_directory : (file : List ℕ) (c : Chain) → ¬ IsLongDirectory file 48 →
    IsFoundChain (fat_table file) (directory_head file) c → IsFoundDirectory file c
found_directory file (Found sectors) short h = record {
  holds = h;
  short = elim (cases_lt 256 (length sectors.items)) [
    | inl long ↦ absurd
        (short (record {
          here = refl;
          sectors = sectors.items;
          full = chain_full (fat_table file).entry
              (fat_table file).valid (u32_at file 48) sectors.items h.range h.chain;
          long = long;
        }))
    | inr low ↦ low
  ];
}
found_directory file (Breaks place) short h = record {
  broken = inr h.broken;
  least = λ p w. elim w [
    | inl long ↦ absurd (short (record { here = refl; sectors = long.sectors; full = long.full; long = long.long }))
    | inr broken ↦ h.least p broken
  ];
}

-- the mini FAT's chain, where it has one
pub found_mini_fat : (file : List ℕ) (c : Chain) → u32_at file 64 ≢ 0 →
    IsFoundChain (fat_table file) (mini_fat_head file) c → IsFoundMiniFat file c
found_mini_fat file (Found sectors) there h = inr (there, h)
found_mini_fat file (Breaks place) there h = record {
  broken = record { there = there; broken = h.broken };
  least = λ p w. h.least p w.broken;
}

-- the mini stream's chain, where it is not empty
pub found_mini_stream : (file directory : List ℕ) (c : Chain) → entry_stream_size file (entry_place directory 0) ≢ 0 →
    IsFoundChain (fat_table file) (stream_head file 512 (entry_place directory 0)) c → IsFoundMiniStream file directory
    c
found_mini_stream file directory (Found sectors) there h = inr (there, h)
found_mini_stream file directory (Breaks place) there h = record {
  broken = record { there = there; broken = h.broken };
  least = λ p w. h.least p w.broken;
}

pub short_wrong : (file directory mini_fat : List ℕ) (entry : ℕ) (o : Option ℕ) → IsSmallStream file directory entry →
    LeastOrNone
    (BreaksChain (mini_table_of file directory mini_fat) (stream_head file 64 (entry_place directory entry))) o →
    LeastOrNone (IsWrongStream file directory mini_fat entry) o
short_wrong file directory mini_fat entry o is =
    least_same (BreaksChain (mini_table_of file directory mini_fat) (stream_head file 64 (entry_place directory entry)))
    (IsWrongStream file directory mini_fat entry) o
    (λ p w. inr (record { is_small = is; broken = w }))
    (λ p w. elim w [
      | inl large ↦ let size = large.is_large.large in let less = is.small in absurd (omega arith)
      | inr small ↦ small.broken
    ])

pub long_wrong : (file directory mini_fat : List ℕ) (entry : ℕ) (o : Option ℕ) → IsLargeStream file directory entry →
    LeastOrNone (BreaksChain (fat_table file) (stream_head file 512 (entry_place directory entry))) o →
    LeastOrNone (IsWrongStream file directory mini_fat entry) o
long_wrong file directory mini_fat entry o is =
    least_same (BreaksChain (fat_table file) (stream_head file 512 (entry_place directory entry)))
    (IsWrongStream file directory mini_fat entry) o
    (λ p w. inl (record { is_large = is; broken = w }))
    (λ p w. elim w [
      | inl large ↦ large.broken
      | inr small ↦ let less = small.is_small.small in let size = is.large in absurd (omega arith)
    ])
