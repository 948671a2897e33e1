-- Entries in blocks.
use Rattle.std.proofs.Common.{◌≡◌, ℕ, suc, ◌+◌, ◌≤◌, List, [], ◌∷◌, length, map, take, All, slice_set}
use Rattle.std.proofs.Common.{refl, sym, ap, ◌∙◌, arith}
use Rattle.std.proofs.lemmas.List.{take_all}
use Rattle.std.proofs.lemmas.List.Sums.{sum_by-cons, sum_by-set}
use Rattle.std.proofs.lemmas.Option.{slice_get_within, get_or_from_slice_get}
use Rattle.chunked_list.specs.declared.places.Spot.{Spot as Place}
use Rattle.chunked_list.specs.Blocks.{total_units, IsSpotOf}
use Rattle.prop_map.specs.declared.modifiers.Modifier.{Modifier}
use Rattle.piece_table.specs.declared.pieces.Entry.{Entry}
use Rattle.piece_table.specs.Piece.{IsPiece, ArePieces}
use Rattle.piece_table.specs.Numbering.{text_piece}
use Rattle.piece_table.specs.Cuts.{entry_units, back_entry, IsEntrySpot, IsSeam}
use Rattle.piece_table.proofs.CutLemmas.{IsCutPlace, entries_sound}
use Rattle.piece_table.proofs.FlatLemmas.{total_length-seen}

abbrev units : Entry → ℕ
units entry = entry.piece.len

-- blocks count units as entries do
pub units-entries : (entries : List Entry) → total_units units entries ≡ entry_units entries
unfolding total_units
units-entries entries = refl

-- each entry has a unit at least
pub few_entries : (entries : List Entry) → All (λ entry. IsPiece entry.piece) entries →
    length entries ≤ entry_units entries
few_entries [] sound = omega arith
few_entries (entry ∷ entries) sound =
    let one = (sound 0 entry (omega arith)).some in
    omega (
      arith,
      sum_by-cons units entry entries,
      one,
      few_entries entries (λ i d low. sound (suc i) d (omega arith)),
    )

-- the entries of a list of pieces
pub record AreFew (modifiers : List Modifier) (entries : List Entry) : Type 0 where
  pub count : length entries ≤ 500001
  pub units : entry_units entries ≤ 500001

pub are_few : (modifiers : List Modifier) (entries : List Entry) → ArePieces (map (text_piece modifiers) entries) →
    AreFew modifiers entries
are_few modifiers entries are =
    let total = are.total in
    let seen = total_length-seen modifiers entries in
    record {
      count = omega (arith, few_entries entries (entries_sound modifiers entries are));
      units = omega arith;
    }

-- the spot that blocks tell
pub spot_told : (entries : List Entry) (cp : ℕ) (spot : Place) → IsSpotOf units entries cp spot →
    IsEntrySpot entries cp (record { piece = spot.item; within = spot.within })
spot_told entries cp spot is =
    let low = slice_get_within entries spot.item is.item is.there in
    record {
      low = omega arith;
      here = let here = is.here in omega (arith, units-entries (take spot.item entries));
      inside = λ entry there.
          let same : is.item ≡ entry =
          sym (get_or_from_slice_get entries spot.item is.item is.item is.there)
          ∙ get_or_from_slice_get entries spot.item entry is.item there in
          let inside = is.inside in
          omega (arith, ap units same);
      behind = λ end. absurd (omega arith);
    }

-- all entries end at the end
pub end_seam : (entries : List Entry) (cp : ℕ) → cp ≡ entry_units entries → IsSeam entries cp (length entries)
end_seam entries cp end = record {
  within = omega arith;
  units = ap entry_units (take_all (length entries) entries (omega arith)) ∙ sym end;
}

-- the units where an entry lost its front
pub units_behind : (entries : List Entry) (cp number inside : ℕ) (entry : Entry) → IsCutPlace entries cp number inside
    entry → total_units units (slice_set entries number (back_entry entry inside)) + inside ≡ entry_units entries
units_behind entries cp number inside entry place =
    let low = slice_get_within entries number entry place.there in
    let less = place.less in
    let read = get_or_from_slice_get entries number entry entry place.there in
    omega (
      arith,
      units-entries (slice_set entries number (back_entry entry inside)),
      sum_by-set units entries number (back_entry entry inside) entry low,
      ap units read,
    )
