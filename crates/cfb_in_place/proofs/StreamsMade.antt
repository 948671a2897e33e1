-- The sectors of the two streams that are written, and those that stay.
use Rattle.std.proofs.Common.{◌≡◌, inl, inr, ℕ, ◌+◌, ◌-◌, ◌*◌, ◌<◌, ◌≤◌, List}
use Rattle.std.proofs.Common.{◌++◌, length, slice_index, refl, sym}
use Rattle.std.proofs.Common.{ap}
use Rattle.std.proofs.Common.{◌∙◌, arith, length-append}
use Rattle.std.specs.List.{range_with_len}
use Rattle.std.proofs.lemmas.Bool.{cases_lt}
use Rattle.std.proofs.lemmas.List.{get_or_append_left, get_or-append_right}
use Rattle.std.proofs.lemmas.List.FromFn.{length-range_with_len, get_or-range_with_len}
use Rattle.doc_bits.specs.Number.{zeros}
use Rattle.cfb_sectors.specs.Header.{fat_sectors, sector_count}
use Rattle.cfb_sectors.specs.SectorChain.{HasSector}
use Rattle.cfb_layout.specs.Sectors.{padded_to_unit}
use Rattle.cfb_layout.proofs.Public.{length-padded}
use Rattle.cfb_in_place.specs.Change.{fresh_from, fat_from, end_of, sectors_after}
use Rattle.cfb_in_place.specs.Appended.{chain_after, IsTouched, in_grown, in_fat, in_mini_fat, in_directory, in_added}
use Rattle.cfb_in_place.specs.Roles.{IsSectorAt, IsNoPart}
use Rattle.cfb_in_place.specs.Sources.{rest_behind, Sources}
use Rattle.cfb_in_place.specs.Sources.{part_sector_bytes}
use Rattle.cfb_in_place.specs.declared.roles.Part.TheVariants.{Grown, Fresh, Other}
use Rattle.cfb_in_place.proofs.FileAfter.{Before, added_of, sizes_of, grown_joined}
use Rattle.cfb_in_place.proofs.SectorsThere.{grown_byte, fresh_byte, kept_byte, length_grown_joined}
use Rattle.cfb_in_place.proofs.TablesMade.{AreOf, parts_of, IsMade, moved}
use Rattle.doc_bits.proofs.Public.{range_index, length-range}

-- the two streams
pub grown_same : (b : Before) (sources : Sources) → AreOf b sources → sources.grown ≡ grown_joined b
unfolding grown_joined rest_behind zeros
grown_same b sources are = are.grown

pub grown_made : (b : Before) (sources : Sources) (s index : ℕ) → AreOf b sources →
    IsSectorAt (parts_of b).grown s index →
    IsMade b s (part_sector_bytes b.old sources s index Grown)
grown_made b sources s index are of =
    let same = grown_same b sources are in
    let len = ap (λ (xs : List ℕ). length xs) same in
    let all = length_grown_joined b in
    let inside = of.inside in
    let whole = length-range sources.grown (512 * index) (512 * index + 512) (omega arith) in
    record {
      len = omega arith;
      each = λ o h.
          range_index sources.grown (512 * index) (512 * index + 512) o (omega arith)
          ∙ (ap (λ (xs : List ℕ). slice_index xs (512 * index + o)) same
          ∙ moved b (slice_index (chain_after b.chains (added_of b)) index) s o o (slice_index (grown_joined b) (512 *
          index + o)) (grown_byte b index o inside) of.here refl);
    }

pub table_made : (b : Before) (sources : Sources) (s index : ℕ) → AreOf b sources →
    IsSectorAt (parts_of b).fresh s index →
    IsMade b s (part_sector_bytes b.old sources s index Fresh)
table_made b sources s index are of =
    let count = length-range_with_len (fresh_from (added_of b)) (added_of b).fresh in
    let fresh = (sizes_of b).fresh in
    let len = ap (λ (xs : List ℕ). length xs) are.table in
    let all = length-padded 512 0 b.change.table (omega arith) in
    let inside = of.inside in
    let whole = length-range sources.table (512 * index) (512 * index + 512) (omega arith) in
    record {
      len = omega arith;
      each = λ o h.
          range_index sources.table (512 * index) (512 * index + 512) o (omega arith)
          ∙ (ap (λ (xs : List ℕ). slice_index xs (512 * index + o)) are.table
          ∙ moved b (slice_index (range_with_len (fresh_from (added_of b)) (added_of b).fresh) index) s o o (slice_index
          (padded_to_unit 512 0 b.change.table) (512 * index + o)) (fresh_byte b index o (omega arith)) of.here refl);
    }

-- a number of one of two lists, and of a row
pub has_left : (xs ys : List ℕ) (s : ℕ) → HasSector xs s → HasSector (xs ++ ys) s
has_left xs ys s has =
    let all = length-append xs ys in
    let low = has.inside in
    record { index = has.index; inside = omega arith; here = get_or_append_left xs ys 0 has.index low ∙ has.here }

pub has_valid : (xs ys : List ℕ) (s : ℕ) → HasSector ys s → HasSector (xs ++ ys) s
has_valid xs ys s has =
    let all = length-append xs ys in
    let low = has.inside in
    let place : length xs + has.index - length xs ≡ has.index = omega arith in
    record {
      index = length xs + has.index;
      inside = omega arith;
      here = get_or-append_right xs ys (length xs) (length xs + has.index) 0 refl (omega arith) ∙ (ap (λ n. slice_index
          ys n) place ∙ has.here);
    }

pub has_range : (start count s : ℕ) → start ≤ s → s < start + count → HasSector (range_with_len start count) s
has_range start count s low h =
    let len = length-range_with_len start count in
    let at = get_or-range_with_len start count (s - start) 0 (omega arith) in
    record { index = s - start; inside = omega arith; here = omega arith }

-- an added sector is some part's
pub added_has : (b : Before) (s : ℕ) → (added_of b).from ≤ s → s < end_of (added_of b) → ¬ IsNoPart (parts_of b) s
added_has b s from h none = elim (cases_lt s (fresh_from (added_of b))) [
  | inl low ↦ none.grown (has_valid b.chains.grown (range_with_len (added_of b).from (added_of b).grown) s (has_range
      (added_of b).from (added_of b).grown s from low))
  | inr more ↦ elim (cases_lt s (fat_from (added_of b))) [
    | inl low ↦ none.fresh (has_range (fresh_from (added_of b)) (added_of b).fresh s more low)
    | inr last ↦ none.fats (has_valid (fat_sectors b.old) (range_with_len (fat_from (added_of b)) (added_of b).fat) s
        (has_range (fat_from (added_of b)) (added_of b).fat s last h))
  ]
]

-- a sector that no part has is an old one, and nothing touches it
pub other_low : (b : Before) (s : ℕ) → s < sectors_after b.old (added_of b) → IsNoPart (parts_of b) s → s < sector_count
    b.old
other_low b s h none =
    let from = (sizes_of b).from in
    elim (cases_lt s (sector_count b.old)) [
      | inl low ↦ low
      | inr high ↦ absurd (added_has b s (omega arith) (omega arith) none)
    ]

pub other_quiet : (b : Before) (s : ℕ) → IsNoPart (parts_of b) s → ¬ IsTouched b.old b.has.parts b.chains (added_of b) s
other_quiet b s none (in_grown has) = none.grown (has_left b.chains.grown (range_with_len (added_of b).from (added_of
    b).grown) s has)
other_quiet b s none (in_fat has) = none.fats (has_left (fat_sectors b.old) (range_with_len (fat_from (added_of b))
    (added_of b).fat) s has)
other_quiet b s none (in_mini_fat has) = none.minis has
other_quiet b s none (in_directory has) = none.entries has
other_quiet b s none (in_added from h) = added_has b s from h none

pub other_made : (b : Before) (sources : Sources) (s index : ℕ) → s < sectors_after b.old (added_of b) → IsNoPart
    (parts_of b)
    s → IsMade b s (part_sector_bytes b.old sources s index Other)
other_made b sources s index h none =
    let low = other_low b s h none in
    let len = length-range b.old ((s + 1) * 512) ((s + 1) * 512 + 512) (omega arith) in
    record {
      len = omega arith;
      each = λ o less. range_index b.old ((s + 1) * 512) ((s + 1) * 512 + 512) o (omega arith) ∙ sym (kept_byte b s o
          (other_quiet b s none));
    }
