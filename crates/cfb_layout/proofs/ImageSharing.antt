-- No two owners share a sector of an image.
use Rattle.std.proofs.Common.{◌≡◌, inl, inr, ℕ, zero, suc, ◌+◌, ◌-◌, ◌<◌, ◌≤◌, ltb, List, [], ◌∷◌, ◌++◌, length, sum}
use Rattle.std.proofs.Common.{refl, sym, ap, ◌∙◌, subst, arith, length-append, nat_lt, if◌then◌else◌}
use Rattle.std.proofs.lemmas.Bool.{lt-ltb, le-ltb, cond-true, cond-false}
use Rattle.std.proofs.lemmas.List.{take-append-le, get_or_append_left, get_or_push, take_all}
use Rattle.doc_bits.specs.Rules.{Nowhere}
use Rattle.cfb_sectors.specs.SectorChain.{HasSector}
use Rattle.cfb_sectors.specs.Chain.{fat_table}
use Rattle.cfb_streams.specs.Contents.{NamedBytes}
use Rattle.cfb_streams.specs.StreamRules.{BreaksSharing, IsSharedSector, Owner, of_fat, of_directory, of_mini_fat}
use Rattle.cfb_streams.specs.StreamRules.{of_mini_stream, of_stream, Owns, HasSmallSector, mini_table_of}
use Rattle.cfb_directory.specs.StreamEntries.{stream_head}
use Rattle.cfb_sectors.proofs.Public.{length-fat_sectors, fat_sectors-at, holds_unique}
use Rattle.cfb_layout.specs.Counts.{mini_counts, sector_counts, fat_count}
use Rattle.cfb_layout.specs.Layout.{lengths_of}
use Rattle.cfb_layout.specs.Laws.{AreLayoutStreams}
use Rattle.cfb_layout.proofs.SectorLemmas.{IsIn, one_chain}
use Rattle.cfb_layout.proofs.CountLemmas.{length-sector_counts, length-mini_counts, length-lengths_of}
use Rattle.cfb_layout.proofs.Image.{IsImage}
use Rattle.cfb_layout.proofs.ImageChains.{sectors_of, part_sector, mini_sectors}
use Rattle.cfb_layout.proofs.ImageTree.{directory_of, place_in, reached_only}
use Rattle.cfb_layout.proofs.ImageParts.{parts_of, large_holds, small_holds}

-- a sector of an owner is in the owner's part
pub record IsOwned {A : Type 0} (counts : List ℕ) (owner_at : ℕ → A) (owner : A) (s : ℕ) : Type 0 where
  pub part : ℕ
  pub below : part < length counts
  pub is : owner ≡ owner_at part
  pub inside : IsIn counts part s

-- so no two owners share one
none_shared : {A : Type 0} (counts : List ℕ) (owner_at : ℕ → A) (owns : A → ℕ → Type 0) (place_of : ℕ → ℕ) →
    ((owner : A) (s : ℕ) → owns owner s → IsOwned counts owner_at owner s) → Nowhere (IsSharedSector owns place_of)
none_shared counts owner_at owns place_of owned = λ p b.
    let x = owned b.one b.sector b.first in
    let y = owned b.other b.sector b.second in
    let same = one_chain counts x.part y.part b.sector x.below y.below x.inside y.inside in
    b.apart (x.is ∙ (ap owner_at same ∙ sym y.is))

-- all parts of the file, the FAT too
abbrev pub all_counts : List ℕ → List ℕ
all_counts lengths = sector_counts lengths ++ fat_count lengths ∷ []

in_front : (counts : List ℕ) (last i s : ℕ) → i < length counts → IsIn counts i s → IsIn (counts ++ last ∷ []) i s
in_front counts last i s low is =
    let from = is.from in
    let below = is.below in
    let start = ap sum (take-append-le i counts (last ∷ []) (omega arith)) in
    let count = get_or_append_left counts (last ∷ []) 0 i low in
    record { from = omega arith; below = omega arith }

in_last : (counts : List ℕ) (last s : ℕ) → sum counts ≤ s → s < sum counts + last → IsIn (counts ++ last ∷ [])
    (length counts) s
in_last counts last s from below =
    let start = ap sum (take-append-le (length counts) counts (last ∷ []) (omega arith)) in
    let whole = ap sum (take_all (length counts) counts (omega arith)) in
    let count = get_or_push counts last 0 (length counts) refl in
    record { from = omega arith; below = omega arith }

-- who has the i-th part
abbrev pub owner_behind : ℕ → Owner
owner_behind zero = of_mini_stream
owner_behind (suc zero) = of_mini_fat
owner_behind (suc (suc zero)) = of_directory
owner_behind (suc (suc (suc k))) = of_fat

abbrev pub part_owner : ℕ → ℕ → Owner
part_owner count i = if nat_lt i count then of_stream (i + 1) else owner_behind (i - count)

behind_is : (count i j : ℕ) → i ≡ count + j → owner_behind j ≡ part_owner count i
behind_is count i j e =
    let rest : i - count ≡ j = omega arith in
    sym (cond-false (ltb i count) (of_stream (i + 1)) (owner_behind (i - count)) (le-ltb i count (omega arith)) ∙ ap
    owner_behind rest)

part_owned : (lengths : List ℕ) (i j s : ℕ) → i ≡ length lengths + j → j < 3 →
    HasSector (sectors_of (sector_counts lengths) i) s → IsOwned (all_counts lengths) (part_owner (length lengths))
    (owner_behind j) s
part_owned lengths i j s e low has =
    let len = length-sector_counts lengths in
    let all = length-append (sector_counts lengths) (fat_count lengths ∷ []) in
    record {
      part = i;
      below = omega arith;
      is = behind_is (length lengths) i j e;
      inside = in_front (sector_counts lengths) (fat_count lengths) i s (omega arith) (part_sector (sector_counts
          lengths) i s has);
    }

owned : (file : List ℕ) (streams : List NamedBytes) (clsid : List ℕ) → IsImage file streams clsid → AreLayoutStreams
    streams
    clsid → (owner : Owner) (s : ℕ) → Owns file (parts_of streams) owner s → IsOwned (all_counts (lengths_of streams))
    (part_owner (length (lengths_of streams))) owner s
owned file streams clsid im lay of_fat s has =
    let lengths = lengths_of streams in
    let counts = sector_counts lengths in
    let len = length-sector_counts lengths in
    let all = length-append counts (fat_count lengths ∷ []) in
    let fats = im.header.fats in
    let listed = length-fat_sectors file in
    let inside = has.inside in
    let here = has.here in
    let at = fat_sectors-at file has.index (omega arith) ∙ im.header.fat_list has.index (omega arith) in
    record {
      part = length counts;
      below = omega arith;
      is = behind_is (length lengths) (length counts) 3 len;
      inside = in_last counts (fat_count lengths) s (omega arith) (omega arith);
    }
owned file streams clsid im lay of_directory s has = part_owned (lengths_of streams) (length (lengths_of streams) + 2)
    2 s refl (omega arith) has
owned file streams clsid im lay of_mini_fat s has = part_owned (lengths_of streams) (length (lengths_of streams) + 1)
    1 s refl (omega arith) has
owned file streams clsid im lay of_mini_stream s has = part_owned (lengths_of streams) (length (lengths_of streams)) 0
    s (omega arith) (omega arith) has
owned file streams clsid im lay (of_stream e) s has =
    let lengths = lengths_of streams in
    let counts = sector_counts lengths in
    let n = length-lengths_of streams in
    let len = length-sector_counts lengths in
    let all = length-append counts (fat_count lengths ∷ []) in
    let w = reached_only file streams clsid e im lay.few has.is_large.is_entry.reached in
    let from = w.from in
    let below = w.below in
    let ours = large_holds file streams clsid (e - 1) e im lay (omega arith) (omega arith) has.is_large.large in
    let same = holds_unique (fat_table file) (stream_head file 512 (place_in streams e)) has.sectors
    (sectors_of counts (e - 1)) has.holds ours in
    let back : e ≡ e - 1 + 1 = omega arith in
    record {
      part = e - 1;
      below = omega arith;
      is = ap of_stream back ∙ sym (cond-true (ltb (e - 1) (length lengths)) (of_stream (e - 1 + 1)) (owner_behind
          (e - 1 - length lengths)) (lt-ltb (e - 1) (length lengths) (omega arith)));
      inside = in_front counts (fat_count lengths) (e - 1) s (omega arith) (part_sector counts (e - 1) s
          (subst (λ xs. HasSector xs s) same has.has));
    }

-- mini sectors likewise
small_owned : (file : List ℕ) (streams : List NamedBytes) (clsid : List ℕ) → IsImage file streams clsid →
    AreLayoutStreams streams clsid → (e s : ℕ) → HasSmallSector file (directory_of streams) (mini_sectors
    (lengths_of streams)) e s → IsOwned (mini_counts (lengths_of streams)) (λ i. i + 1) e s
small_owned file streams clsid im lay e s has =
    let lengths = lengths_of streams in
    let counts = mini_counts lengths in
    let n = length-lengths_of streams in
    let len = length-mini_counts lengths in
    let w = reached_only file streams clsid e im lay.few has.is_small.is_entry.reached in
    let from = w.from in
    let below = w.below in
    let ours = small_holds file streams clsid (e - 1) e im lay (omega arith) (omega arith) has.is_small.some
    has.is_small.small in
    let same = holds_unique (mini_table_of file (directory_of streams) (mini_sectors lengths)) (stream_head file 64
    (place_in streams e)) has.sectors (sectors_of counts (e - 1)) has.holds ours in
    record {
      part = e - 1;
      below = omega arith;
      is = omega arith;
      inside = part_sector counts (e - 1) s (subst (λ xs. HasSector xs s) same has.has);
    }

-- rule 14
pub sharing_holds : (file : List ℕ) (streams : List NamedBytes) (clsid : List ℕ) → IsImage file streams clsid →
    AreLayoutStreams streams clsid → Nowhere (BreaksSharing file (parts_of streams))
sharing_holds file streams clsid im lay = λ p b. elim b [
  | inl sector ↦ none_shared (all_counts (lengths_of streams)) (part_owner (length (lengths_of streams)))
      (Owns file (parts_of streams)) (fat_table file).place (owned file streams clsid im lay) p sector
  | inr mini ↦ none_shared (mini_counts (lengths_of streams)) (λ i. i + 1) (HasSmallSector file (directory_of streams)
      (mini_sectors (lengths_of streams))) (mini_table_of file (directory_of streams) (mini_sectors
      (lengths_of streams))).place (small_owned file streams clsid im lay) p mini
]
