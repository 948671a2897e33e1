-- Where the full path from a sector ends, as it is remembered.
use Rattle.std.specs.Prelude.{◌≡◌, ◌⊎◌, ℕ, ◌+◌, ◌<◌, ◌≤◌, Option, Some, None, List, length, slice_index, slice_set}
use Rattle.cfb_sectors.specs.declared.ends.End.{End}
use Rattle.cfb_sectors.specs.SectorChain.{HasSector, IsSectorPath, IsFullPath, last_of}

-- the full path from a sector has so many sectors, and this is its last one
pub record IsEnd (entry : ℕ → ℕ) (valid start : ℕ) (end : End) : Type 0 where
  pub sectors : List ℕ
  pub full : IsFullPath entry valid start sectors
  pub count : end.count ≡ length sectors
  pub last : end.last ≡ last_of sectors

-- for each sector the count of the path from it, 0 where it is not known, and its last sector
pub record KnownEnds : Type 0 where
  pub counts : List ℕ
  pub lasts : List ℕ

abbrev pub IsKnownEndAt : KnownEnds → ℕ → Type 0
IsKnownEndAt known s = 0 < slice_index known.counts s

abbrev pub end_at : KnownEnds → ℕ → End
end_at known s = record { count = slice_index known.counts s; last = slice_index known.lasts s }

abbrev pub with_known_end : KnownEnds → ℕ → End → KnownEnds
with_known_end known s end = record {
  counts = slice_set known.counts s end.count;
  lasts = slice_set known.lasts s
      end.last;
}

-- what is known is right, and the sector after a known one is known
pub record Remembers (entry : ℕ → ℕ) (valid : ℕ) (known : KnownEnds) : Type 0 where
  pub counts_len : length known.counts ≡ valid
  pub lasts_len : length known.lasts ≡ valid
  pub ends : (s : ℕ) → IsKnownEndAt known s → IsEnd entry valid s (end_at known s)
  pub closed : (s : ℕ) → IsKnownEndAt known s → entry s < valid → IsKnownEndAt known (entry s)

-- a path of sectors that are not known, as far as it goes
pub record IsFreshPath (entry : ℕ → ℕ) (valid : ℕ) (known : KnownEnds) (start : ℕ) (sectors : List ℕ) : Type 0 where
  pub path : IsSectorPath entry valid start sectors
  pub fresh : (i : ℕ) → i < length sectors → ¬ IsKnownEndAt known (slice_index sectors i)
  pub stops : (valid ≤ entry (last_of sectors))
      ⊎ (HasSector sectors (entry (last_of sectors)) ⊎ IsKnownEndAt known (entry (last_of sectors)))

-- sectors in a ring: the entry of the last names the first
pub record IsRing (entry : ℕ → ℕ) (valid start : ℕ) (sectors : List ℕ) : Type 0 where
  pub path : IsSectorPath entry valid start sectors
  pub back : entry (last_of sectors) ≡ start

-- the ring from a sector has so many sectors, and this is its last one
pub record IsRingEnd (entry : ℕ → ℕ) (valid start : ℕ) (end : End) : Type 0 where
  pub sectors : List ℕ
  pub ring : IsRing entry valid start sectors
  pub count : end.count ≡ length sectors
  pub last : end.last ≡ last_of sectors

-- where it ends it is known how it goes on
abbrev pub GoesOnAtKnown : (ℕ → ℕ) → ℕ → KnownEnds → List ℕ → Type 0
GoesOnAtKnown entry valid known sectors = entry (last_of sectors) < valid → IsKnownEndAt known (entry (last_of sectors))

-- the end of the path from a sector that goes on at a known one, or is the last
abbrev pub before : ℕ → Option End → End
before sector None = record { count = 1; last = sector }
before sector (Some end) = record { count = end.count + 1; last = end.last }
