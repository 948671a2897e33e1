-- Modifiers that pieces name by number, in a list that is kept beside the pieces.
use Rattle.std.specs.Prelude.{◌≡◌, ◌≢◌, ℕ, ◌<◌, List, ◌++◌, length, All, Some, slice_get, slice_index, slice_index_or}
use Rattle.prop_map.specs.declared.modifiers.Modifier.{Modifier}
use Rattle.prop_map.specs.Modifiers.{no_modifier, IsFormedModifier}
use Rattle.prop_map.specs.Formed.{prc_groups}
use Rattle.sprm_table.specs.Sprm.{IsAcceptedList}
use Rattle.piece_table.specs.declared.pcd.Prm.{Prm}
use Rattle.piece_table.specs.declared.pcd.Prm.TheVariants.{Prc}
use Rattle.piece_table.specs.declared.pieces.Entry.{Entry}
use Rattle.piece_table.specs.Piece.{TextPiece}
use Rattle.piece_table.specs.Clx.{ClxParts, prm_of, pcd_prm, clx_piece}
use Rattle.piece_table.specs.PrmLists.{IsPrmModifier}
use Rattle.piece_table.specs.ClxRules.{IsNamedPrc}

-- a piece as it is seen: its number represents a modifier of the list
abbrev pub text_piece : List Modifier → Entry → TextPiece
text_piece modifiers entry = record {
  at = entry.piece.at;
  wide = entry.piece.wide;
  len = entry.piece.len;
  modifier = slice_index_or modifiers entry.modifier no_modifier;
}

-- the list begins with the modifier that does nothing, and pieces name modifiers of it
pub record AreNumbered (modifiers : List Modifier) (entries : List Entry) : Type 0 where
  pub first : slice_get modifiers 0 ≡ Some no_modifier
  pub named : All (λ entry. entry.modifier < length modifiers) entries

-- the list has the modifiers of the Prms that were met, each at the number beside its Prm; the number is 0 at others
pub record HasMet (prcs : List (List ℕ)) (modifiers : List Modifier) (numbers : List ℕ) : Type 0 where
  pub first : slice_get modifiers 0 ≡ Some no_modifier
  pub formed : All IsFormedModifier modifiers
  pub within : (prm : ℕ) → slice_index numbers prm < length modifiers
  pub met : (prm : ℕ) → slice_index numbers prm ≢ 0 → IsPrmModifier prcs (prm_of prm) (slice_index_or modifiers
      (slice_index numbers prm) no_modifier)

-- later modifiers may follow
pub record Extends (old new : List Modifier) : Type 0 where
  pub more : List Modifier
  pub joined : new ≡ old ++ more

-- the entry is that of piece k
pub record IsEntryOf (parts : ClxParts) (modifiers : List Modifier) (k : ℕ) (entry : Entry) : Type 0 where
  pub piece : entry.piece ≡ clx_piece parts.plc k
  pub within : entry.modifier < length modifiers
  pub does : IsPrmModifier parts.prcs (pcd_prm parts.plc k) (slice_index_or modifiers entry.modifier no_modifier)

-- the entries are those of the first n pieces
pub record AreEntriesOf (parts : ClxParts) (modifiers : List Modifier) (n : ℕ) (entries : List Entry) : Type 0 where
  pub count : length entries ≡ n
  pub each : (k : ℕ) (entry : Entry) → slice_get entries k ≡ Some entry → IsEntryOf parts modifiers k entry

-- where a Prm names a Prc, the list of that Prc has no fault
abbrev pub AreReadable : List (List ℕ) → Prm → Type 0
AreReadable prcs prm = (number : ℕ) (grpprl : List ℕ) → prm ≡ Prc number → slice_get prcs number ≡ Some grpprl →
    IsAcceptedList grpprl prc_groups

-- the lists of the first n Prcs have no fault, where a piece names them
abbrev pub AreAccepted : ClxParts → ℕ → Type 0
AreAccepted parts n =
    (number : ℕ) (grpprl : List ℕ) → number < n → IsNamedPrc parts.plc number → slice_get parts.prcs number ≡ Some
    grpprl →
    IsAcceptedList grpprl prc_groups
