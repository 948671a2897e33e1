-- How far the printing of a Clx has come.
use Rattle.std.specs.Prelude.{◌≡◌, ◌≢◌, ◌⊎◌, ℕ, ◌+◌, ◌*◌, ◌<◌, ◌≤◌, List, ◌++◌, length, map, All, Option, Some, None}
use Rattle.std.specs.Prelude.{slice_get, slice_index, slice_index_or}
use Rattle.prop_map.specs.declared.modifiers.Modifier.{Modifier}
use Rattle.prop_map.specs.Modifiers.{no_modifier, printed_modifier, IsFormedModifier}
use Rattle.piece_table.specs.declared.pieces.Entry.{Entry}
use Rattle.piece_table.specs.declared.printing.PrintedPrcs.{PrintedPrcs}
use Rattle.piece_table.specs.Clx.{prc_bytes}
use Rattle.piece_table.specs.PrcLists.{prm_of_list, PutsPrm}
use Rattle.piece_table.specs.ClxRules.{FitsPages}
use Rattle.piece_table.specs.Numbering.{text_piece}
use Rattle.piece_table.specs.Printing.{IsPrintedPrc, printed_prcs, pcd_bytes}

-- an entry whose modifier a Prc can hold
pub record HasPrintable (modifiers : List Modifier) (entry : Entry) : Type 0 where
  pub within : entry.modifier < length modifiers
  pub formed : IsFormedModifier (slice_index_or modifiers entry.modifier no_modifier)
  pub fits : FitsPages (slice_index_or modifiers entry.modifier no_modifier)

-- the Prm is the number of the Prc of that modifier
pub record NamesPrc (prcs : List Modifier) (prm : ℕ) (modifier : Modifier) : Type 0 where
  pub number : ℕ
  pub prm_is : prm ≡ 2 * number + 1
  pub there : slice_get prcs number ≡ Some modifier

-- what is printed so far: the number of Prcs, for each modifier the Prm, which is 0 where it has no Prc, the bytes,
-- and the
-- Prm beside each list
pub record PrcTable : Type 0 where
  pub count : ℕ
  pub prms : List ℕ
  pub bytes : List ℕ
  pub found : List ℕ → Option ℕ

abbrev pub prc_table : PrintedPrcs → PrcTable
prc_table printed = record {
  count = printed.count;
  prms = printed.prms.items;
  bytes = printed.bytes;
  found = prm_of_list printed.lists.prms.entries (λ key. key.items);
}

-- the Prm is the number of a Prc with the list
pub record NamesList (prcs : List Modifier) (prm : ℕ) (list : List ℕ) : Type 0 where
  pub number : ℕ
  pub prm_is : prm ≡ 2 * number + 1
  pub modifier : Modifier
  pub there : slice_get prcs number ≡ Some modifier
  pub spelt : printed_modifier modifier ≡ list

-- the Prcs of the first n entries are printed
pub record ArePrinted (modifiers : List Modifier) (entries : List Entry) (n : ℕ) (table : PrcTable) : Type 0 where
  pub prcs : List Modifier
  pub count_is : table.count ≡ length prcs
  pub few : table.count ≤ n
  pub each : All (IsPrintedPrc (map (text_piece modifiers) entries)) prcs
  pub one_each : length table.prms ≡ length modifiers
  pub names : (number : ℕ) → slice_index table.prms number ≢ 0 → NamesPrc prcs (slice_index table.prms number)
      (slice_index_or modifiers number no_modifier)
  pub none : (k : ℕ) (entry : Entry) → k < n → slice_get entries k ≡ Some entry → slice_index table.prms
      entry.modifier ≡ 0 → slice_index_or modifiers entry.modifier no_modifier ≡ no_modifier
  pub spelt : table.bytes ≡ printed_prcs prcs
  pub known : (number : ℕ) (modifier : Modifier) → slice_get prcs number ≡ Some modifier →
      table.found (printed_modifier modifier) ≡ Some (2 * number + 1)
  pub lists : (list : List ℕ) (prm : ℕ) → table.found list ≡ Some prm → NamesList prcs prm list

-- a list was printed for the first time, and has the Prm
pub record IsNewPrm (old new : PrcTable) (list : List ℕ) (prm : ℕ) : Type 0 where
  pub unknown : old.found list ≡ None
  pub prm_is : prm ≡ 2 * old.count + 1
  pub count : new.count ≡ old.count + 1
  pub prms : new.prms ≡ old.prms
  pub bytes : new.bytes ≡ old.bytes ++ prc_bytes list
  pub puts : PutsPrm old.found new.found list prm

-- the list has the Prm, and was printed before or is printed now
abbrev pub HasPrm : PrcTable → PrcTable → List ℕ → ℕ → Type 0
HasPrm old new list prm = ((old.found list ≡ Some prm) × (new ≡ old)) ⊎ IsNewPrm old new list prm

-- the lengths of entries, and their Pcds
abbrev pub lens_of : List Entry → List ℕ
lens_of entries = map (λ entry. entry.piece.len) entries

abbrev pub pcds_of : List Entry → List ℕ → List (List ℕ)
pcds_of entries prms = map (λ entry. pcd_bytes entry.piece (slice_index prms entry.modifier)) entries
