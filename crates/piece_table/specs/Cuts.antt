-- How a list of entries is cut, and how entries are numbered anew.
use Rattle.std.specs.Prelude.{◌≡◌, ℕ, ◌+◌, ◌-◌, ◌*◌, ◌<◌, ◌≤◌, List, [], ◌∷◌, length, take, map, sum_by, All, Some}
use Rattle.std.specs.Prelude.{false, None, Option, slice_get, slice_index, slice_index_or, slice_range}
use Rattle.prop_map.specs.declared.modifiers.Modifier.{Modifier}
use Rattle.piece_table.specs.declared.pieces.Piece.{Piece}
use Rattle.piece_table.specs.declared.pieces.Entry.{Entry}
use Rattle.piece_table.specs.declared.pieces.Spot.{Spot}
use Rattle.piece_table.specs.Piece.{UnitPlace, unit_bytes, flat_pieces, IsPiece, IsTextPiece}
use Rattle.piece_table.specs.Numbering.{text_piece}

-- the number of CPs
abbrev pub entry_units : List Entry → ℕ
entry_units entries = sum_by (λ (entry : Entry). entry.piece.len) entries

-- the entries as they are seen, one a CP
abbrev pub flat_entries : List Modifier → List Entry → List UnitPlace
flat_entries modifiers entries = flat_pieces (map (text_piece modifiers) entries)

-- the first units of an entry, and those behind them
abbrev pub front_entry : Entry → ℕ → Entry
front_entry entry units = record {
  piece = record { at = entry.piece.at; wide = entry.piece.wide; len = units };
  modifier = entry.modifier;
}

abbrev pub back_entry : Entry → ℕ → Entry
back_entry entry units = record {
  piece = record {
    at = entry.piece.at + units * unit_bytes entry.piece.wide;
    wide = entry.piece.wide;
    len = entry.piece.len - units;
  };
  modifier = entry.modifier;
}

-- the spot of a CP, or the end of all entries
pub record IsEntrySpot (entries : List Entry) (cp : ℕ) (spot : Spot) : Type 0 where
  pub low : spot.piece ≤ length entries
  pub here : entry_units (take spot.piece entries) + spot.within ≡ cp
  pub inside : (entry : Entry) → slice_get entries spot.piece ≡ Some entry → spot.within < entry.piece.len
  pub behind : spot.piece ≡ length entries → spot.within ≡ 0

-- so many entries end at the CP
pub record IsSeam (entries : List Entry) (cp number : ℕ) : Type 0 where
  pub within : number ≤ length entries
  pub units : entry_units (take number entries) ≡ cp

-- each entry is a piece that a table may have
abbrev pub ArePieceEntries : List Modifier → List Entry → Type 0
ArePieceEntries modifiers entries = All IsTextPiece (map (text_piece modifiers) entries)

-- an entry of no units
abbrev pub empty_entry : Entry
empty_entry = record { piece = record { at = 0; wide = false; len = 0 }; modifier = 0 }

-- the entry of a number
abbrev pub entry_at : List Entry → ℕ → Entry
entry_at entries k = slice_index_or entries k empty_entry

-- entry j is a part of an entry that was there, and names its modifier
pub record IsEntryPart (old new : List Entry) (j : ℕ) : Type 0 where
  pub place : ℕ
  pub there : place < length old
  pub modifier : (entry_at new j).modifier ≡ (entry_at old place).modifier
  pub begin : entry_units (take place old) ≤ entry_units (take j new)
  pub end : entry_units (take (j + 1) new) ≤ entry_units (take (place + 1) old)

-- the entries that a range of CPs meets
pub record AreMetEntries (entries : List Entry) (from to : ℕ) (met : List Entry) : Type 0 where
  pub first : ℕ
  pub last : ℕ
  pub order : first ≤ last
  pub within : last ≤ length entries
  pub range : met ≡ slice_range entries first last
  pub begin : entry_units (take first entries) ≤ from
  pub end : to ≤ entry_units (take last entries)

-- the entries are seen as before, and are as sound as before
pub record KeepsText (old new : List Entry) : Type 0 where
  pub flat : (modifiers : List Modifier) → flat_entries modifiers new ≡ flat_entries modifiers old
  pub units : entry_units new ≡ entry_units old
  pub pieces : All (λ entry. IsPiece entry.piece) old → All (λ entry. IsPiece entry.piece) new
  pub sound : (modifiers : List Modifier) → ArePieceEntries modifiers old → ArePieceEntries modifiers new
  pub named : (count : ℕ) → All (λ entry. entry.modifier < count) old → All (λ entry. entry.modifier < count) new
  pub parts : (j : ℕ) → j < length new → IsEntryPart old new j

-- the entries were cut at a CP, and so many end there
pub record AreCutEntries (old new : List Entry) (cp number : ℕ) : Type 0 where
  pub keeps : KeepsText old new
  pub seam : IsSeam new cp number
  pub count : length new ≤ length old + 1
  pub front : (first begin : ℕ) → IsSeam old begin first → begin ≤ cp → (first ≤ number) × IsSeam new begin first
  pub still : (seam : ℕ) → IsSeam old cp seam → new ≡ old

-- the entries were cut at both ends of a range
pub record IsCutTwice (old new : List Entry) (from to first last : ℕ) : Type 0 where
  pub keeps : KeepsText old new
  pub begins : IsSeam new from first
  pub ends : IsSeam new to last
  pub order : first ≤ last
  pub count : length new ≤ length old + 2
  pub less : length new ≤ length old + 1 + (last - first)

-- the entries of a fresh piece, if there is one. Number 0 is the modifier that does nothing
abbrev pub fresh_entries : Option Piece → List Entry
fresh_entries None = []
fresh_entries (Some piece) = record { piece = piece; modifier = 0 } ∷ []

-- the entry with the number that is kept beside its own
abbrev pub renumbered_entry : List ℕ → Entry → Entry
renumbered_entry numbers entry = record { piece = entry.piece; modifier = slice_index numbers entry.modifier }
