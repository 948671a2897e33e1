-- The FAT sectors of a file that breaks none of the rules 1 to 5.
use Rattle.std.proofs.Common.{◌≡◌, inl, inr, ℕ, ◌+◌, ◌*◌, ◌<◌, ◌≤◌, List, length, slice_index, refl, sym, ◌∙◌, arith}
use Rattle.std.proofs.lemmas.Bool.{cases_lt}
use Rattle.std.proofs.lemmas.List.FromFn.{length-map-range_with_len, get_or-map-range_with_len}
use Rattle.doc_bits.specs.Rules.{Nowhere}
use Rattle.cfb_sectors.specs.Header.{fat_sector, fat_sector_count, fat_sectors, valid_below}
use Rattle.cfb_sectors.specs.Opening.{HasRightLength}
use Rattle.cfb_sectors.specs.HeaderRules.{BreaksFat}
use Rattle.cfb_sectors.specs.Chain.{AreSectorsOf}
use Rattle.cfb_sectors.specs.Claims.{AreDistinctBelow}

pub length-fat_sectors : (file : List ℕ) → length (fat_sectors file) ≡ fat_sector_count file
unfolding fat_sectors
length-fat_sectors file = length-map-range_with_len (fat_sector file) 0 (fat_sector_count file)

pub fat_sectors-at : (file : List ℕ) (k : ℕ) → k < fat_sector_count file →
    slice_index (fat_sectors file) k ≡ fat_sector file k
unfolding fat_sectors
fat_sectors-at file k h = get_or-map-range_with_len (fat_sector file) 0 (fat_sector_count file) k k 0 h (omega arith)

-- there are at most 109
pub fat_few : (file : List ℕ) → Nowhere (BreaksFat file) → fat_sector_count file ≤ 109
fat_few file holds = elim (cases_lt 109 (fat_sector_count file)) [
  | inl lo ↦ absurd (holds 44 (inl (refl, inr lo)))
  | inr hi ↦ hi
]

-- each is valid
pub fat_valid : (file : List ℕ) (k : ℕ) → Nowhere (BreaksFat file) → k < fat_sector_count file →
    fat_sector file k < valid_below file
fat_valid file k holds h = elim (cases_lt (fat_sector file k) (valid_below file)) [
  | inl lo ↦ lo
  | inr hi ↦ absurd
      (holds (76 + 4 * k) (inr (record { entry = k; below = h; broken = record { here = refl; wrong = inl hi } })))
]

-- none is there twice
pub fat_apart : (file : List ℕ) → Nowhere (BreaksFat file) → AreDistinctBelow (valid_below file) (fat_sectors file)
fat_apart file holds =
    let len = length-fat_sectors file in
    record {
      inside = λ i h. let low : i < fat_sector_count file = omega arith in rw (fat_sectors-at file i low)
          (fat_valid file i holds low);
      distinct = λ i j less h e.
          let low : j < fat_sector_count file = omega arith in
          let first : i < fat_sector_count file = omega arith in
          let same : fat_sector file i ≡ fat_sector file j = sym (fat_sectors-at file i first)
          ∙ (e ∙ fat_sectors-at file j low) in
          holds (76 + 4 * j)
          (inr (record {
            entry = j;
            below = low;
            broken = record
                { here = refl; wrong = inr (record { earlier = i; below = less; same = same }) };
          }));
    }

-- they are in the file
pub fat_inside : (file : List ℕ) → HasRightLength file → Nowhere (BreaksFat file) → AreSectorsOf file (fat_sectors file)
fat_inside file whole holds =
    let len = length-fat_sectors file in
    let few = fat_few file holds in
    let most = whole.most in
    let sectors = whole.sectors in
    let least = whole.least in
    record {
      short = omega arith;
      few = omega arith;
      inside = λ i h. let valid = (fat_apart file holds).inside i h in omega arith;
    }

-- the valid sectors have entries
pub fat_room : (file : List ℕ) → valid_below file ≤ 128 * length (fat_sectors file)
fat_room file = let len = length-fat_sectors file in omega arith
