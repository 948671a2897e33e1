-- The sectors of the two tables that are written.
use Rattle.std.proofs.Common.{◌≡◌, inl, inr, ℕ, ◌+◌, ◌-◌, ◌*◌, ◌/◌, ◌%◌, ◌<◌, List}
use Rattle.std.proofs.Common.{length, slice_index, sym}
use Rattle.std.proofs.Common.{ap}
use Rattle.std.proofs.Common.{◌∙◌, arith}
use Rattle.std.proofs.lemmas.Bool.{cases_lt}
use Rattle.doc_bits.specs.Number.{number_bytes}
use Rattle.cfb_sectors.specs.Header.{fat_sector_count}
use Rattle.cfb_sectors.specs.SectorChain.{HasSector}
use Rattle.cfb_layout.proofs.Public.{length-table}
use Rattle.cfb_in_place.specs.Roles.{PartSectors, sectors_of_parts, IsSectorAt}
use Rattle.cfb_in_place.specs.Sources.{Sources}
use Rattle.cfb_in_place.specs.Sources.{cut_at, part_sector_bytes, AreMinisAfter, AreSources}
use Rattle.cfb_in_place.specs.declared.roles.Part.TheVariants.{Fat, MiniFat}
use Rattle.cfb_in_place.proofs.PickLemmas.{place_in, place_there, place_has}
use Rattle.cfb_in_place.proofs.FileAfter.{Before, added_of, fats_after, byte_in}
use Rattle.cfb_in_place.proofs.FileAfter.{mini_after, entry_after}
use Rattle.cfb_in_place.proofs.TablesThere.{length-fats_after, fat_byte, mini_byte, mini_free, mini_kept}
use Rattle.cfb_in_place.proofs.AfterLemmas.{fat_is}
use Rattle.cfb_in_place.proofs.SliceLemmas.{numbers_at}
use Rattle.doc_bits.proofs.Public.{range_index, length-range}

-- the sources are those of the save
abbrev pub AreOf : Before → Sources → Type 0
AreOf b sources = AreSources b.old b.has.parts b.chains (added_of b) b.change sources

abbrev pub parts_of : Before → PartSectors
parts_of b = sectors_of_parts b.old b.has.parts b.chains (added_of b)

-- the bytes of a sector
pub record IsMade (b : Before) (s : ℕ) (bytes : List ℕ) : Type 0 where
  pub len : length bytes ≡ 512
  pub each : (o : ℕ) → o < 512 → slice_index bytes o ≡ byte_in b s o

-- a byte at the same place
pub moved : (b : Before) (x s p o v : ℕ) → byte_in b x p ≡ v → x ≡ s → p ≡ o → v ≡ byte_in b s o
moved b x s p o v h e f = sym h ∙ (ap (λ k. byte_in b k p) e ∙ ap (λ k. byte_in b s k) f)

pub fat_made : (b : Before) (sources : Sources) (s index : ℕ) → AreOf b sources → IsSectorAt (parts_of b).fats s index →
    IsMade
    b s (part_sector_bytes b.old sources s index Fat)
unfolding fats_after
fat_made b sources s index are of =
    let count = length-fats_after b in
    let all = are.fat.len in
    let inside = of.inside in
    let cut = cut_at sources.fat 128 index in
    let len = length-range sources.fat (128 * index) (128 * index + 128) (omega arith) in
    let table = length-table 4 cut in
    record {
      len = omega arith;
      each = λ o h.
          let k = 128 * index + o / 4 in
          let sector : slice_index (fats_after b) (k / 128) ≡ s = ap (λ n. slice_index (fats_after b) n) (let e : k /
          128
          ≡ index = omega arith in e) ∙ of.here in
          let place : 4 * (k % 128) + o % 4 ≡ o = omega arith in
          numbers_at cut (o / 4) (o % 4) o (omega arith) (omega arith) (omega arith)
          ∙ (ap (λ n. slice_index (number_bytes 4 n) (o % 4)) (range_index sources.fat (128 * index) (128 * index + 128)
          (o / 4) (omega arith) ∙ fat_is b are.fat.entries sources.fat (128 * (fat_sector_count b.old + (added_of
          b).fat)) are.fat.table are.fat.changes k (omega arith))
          ∙ moved b (slice_index (fats_after b) (k / 128)) s (4 * (k % 128) + o % 4) o (slice_index (number_bytes 4
          (entry_after b k)) (o % 4)) (fat_byte b k (o % 4) (omega arith) (omega arith)) sector place);
    }

-- the entries of the mini FAT
pub mini_is : (b : Before) (mini : List ℕ) (s : ℕ) → AreMinisAfter b.old b.has.parts.mini_fat b.chains.freed_mini mini →
    s <
    128 * length b.has.parts.mini_fat → slice_index mini s ≡ mini_after b s
mini_is b mini s are h =
    let freed = b.chains.freed_mini in
    let len = are.table.len in
    elim (cases_lt (place_in freed s) (length freed)) [
      | inl low ↦
          let has : HasSector freed s = record {
            index = place_in freed s;
            inside = low;
            here = place_there freed s
                low;
          } in
          are.are.free s has ∙ sym (mini_free b s has)
      | inr high ↦
          let none : ¬ HasSector freed s = λ has. (let more = place_has freed s has.index has.inside has.here in omega
          arith) in
          are.are.kept s none ∙ (are.table.each s (omega arith) ∙ sym (mini_kept b s none))
    ]

pub mini_made : (b : Before) (sources : Sources) (s index : ℕ) → AreOf b sources → IsSectorAt (parts_of b).minis s index
    →
    IsMade b s (part_sector_bytes b.old sources s index MiniFat)
mini_made b sources s index are of =
    let minis = b.has.parts.mini_fat in
    let first = are.mini.are.len in
    let all = are.mini.table.len in
    let inside = of.inside in
    let cut = cut_at sources.mini 128 index in
    let len = length-range sources.mini (128 * index) (128 * index + 128) (omega arith) in
    let table = length-table 4 cut in
    record {
      len = omega arith;
      each = λ o h.
          let k = 128 * index + o / 4 in
          let sector : slice_index minis (k / 128) ≡ s = ap (λ n. slice_index minis n) (let e : k / 128 ≡ index = omega
          arith in e) ∙ of.here in
          let place : 4 * (k % 128) + o % 4 ≡ o = omega arith in
          numbers_at cut (o / 4) (o % 4) o (omega arith) (omega arith) (omega arith)
          ∙ (ap (λ n. slice_index (number_bytes 4 n) (o % 4)) (range_index sources.mini (128 * index) (128 * index +
          128) (o / 4) (omega arith) ∙ mini_is b sources.mini k are.mini (omega arith))
          ∙ moved b (slice_index minis (k / 128)) s (4 * (k % 128) + o % 4) o (slice_index (number_bytes 4 (mini_after b
          k)) (o % 4)) (mini_byte b k (o % 4) (omega arith) (omega arith)) sector place);
    }
