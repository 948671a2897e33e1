-- [MS-DOC] Plc, as a part of the table stream: what its entries are, where it breaks a rule, and how it is printed.
use Rattle.std.specs.Prelude.{◌≡◌, ◌⊎◌, ℕ, ◌+◌, ◌-◌, ◌*◌, ◌/◌, ◌<◌, ◌≤◌, List, length, map, Option, Some, MatchOption}
use Rattle.std.specs.Prelude.{IsSome, slice_get}
use Rattle.doc_bits.specs.Plc.{PlcPart, IsPlcOf, plc_cp, plc_entry}
pub use Rattle.doc_bits.specs.Plc.{printed_plc, HasPlc}
use Rattle.doc_bits.specs.Rules.{Rules, Among, LeastOrNone, IsFirstOffset}
use Rattle.doc_parts.specs.declared.cps.CpForm.{CpForm}
use Rattle.doc_parts.specs.declared.fault.PartFault.{PartFault}
use Rattle.doc_parts.specs.declared.fault.PartFault.TheVariants.{Rule, Memory}
use Rattle.doc_parts.specs.Cps.{IsCpInOrder, AreCpsInOrder}

-- a kind of entry: its bytes beside the CP, its CP and bytes as they are printed, and what a CP and bytes spell
pub record EntryForm (E : Type 0) : Type 0 where
  pub size : ℕ
  pub cp_of : E → ℕ
  pub bytes_of : E → List ℕ
  pub read_from : ℕ → List ℕ → Option E

-- the CP that is read is the CP of the entry
abbrev pub KeepsCp : {E : Type 0} → EntryForm E → Type 0
KeepsCp {E = E} form =
    (cp : ℕ) (bytes : List ℕ) (entry : E) → form.read_from cp bytes ≡ Some entry → form.cp_of entry ≡ cp

-- the bytes as a table: n = (length - 4) / (4 + size)
abbrev pub plc_part : ℕ → List ℕ → PlcPart
plc_part size bytes = record { bytes = bytes; size = size; count = (length bytes - 4) / (4 + size) }

-- the bytes are those of a whole number of entries
abbrev pub IsWholePlc : PlcPart → Type 0
IsWholePlc table = IsPlcOf table.bytes table.size table.count

-- the same, or there are no bytes
abbrev pub IsEmptyOrWhole : PlcPart → Type 0
IsEmptyOrWhole table = (length table.bytes ≡ 0) ⊎ IsWholePlc table

-- what an entry spells with its CP
abbrev pub spelled_entry : {E : Type 0} → EntryForm E → PlcPart → ℕ → Option E
spelled_entry form table k = form.read_from (plc_cp table.bytes k) (plc_entry table k)

-- an entry has its CP in order, and spells something
pub record IsValidEntry {E : Type 0} (form : EntryForm E) (cps : CpForm) (table : PlcPart) (k : ℕ) : Type 0 where
  pub in_order : IsCpInOrder cps (plc_cp table.bytes) k
  pub spelled : IsSome (spelled_entry form table k)

-- a wrong entry, at the place of its CP
pub record IsWrongEntry {E : Type 0} (form : EntryForm E) (cps : CpForm) (table : PlcPart) (at k place : ℕ) : Type 0
  where
    pub here : place ≡ at + 4 * k
    pub broken : ¬ (IsValidEntry form cps table k)

-- the part has not the length that it has to have
abbrev pub IsMalformedPart : Type 0 → ℕ → ℕ → Type 0
IsMalformedPart IsFormed at place = (place ≡ at) × ¬ IsFormed

-- one of the entries is wrong
abbrev pub HasWrongEntry : {E : Type 0} → EntryForm E → CpForm → PlcPart → ℕ → ℕ → Type 0
HasWrongEntry form cps table at = Among table.count (IsWrongEntry form cps table at)

-- where a part that may be empty breaks its rule
abbrev pub BreaksTable : {E : Type 0} → EntryForm E → CpForm → List ℕ → ℕ → ℕ → Type 0
BreaksTable form cps bytes at place =
    let table = plc_part form.size bytes in
    IsMalformedPart (IsEmptyOrWhole table) at place ⊎ HasWrongEntry form cps table at place

-- the list has the entries of a table from the first on, and their CPs are in order
pub record AreLeading {E : Type 0} (form : EntryForm E) (cps : CpForm) (table : PlcPart) (list : List E) : Type 0 where
  pub within : length list ≤ table.count
  pub each : (k : ℕ) → k < length list → slice_get list k ≡ spelled_entry form table k
  pub in_order : AreCpsInOrder cps (map form.cp_of list)

-- the list has the entries of a table before the first wrong one
pub record StopsAtWrong {E : Type 0} (form : EntryForm E) (cps : CpForm) (table : PlcPart) (list : List E) : Type 0
  where
    pub within : length list ≤ table.count
    pub each : (k : ℕ) → k < length list → slice_get list k ≡ spelled_entry form table k
    pub right : (k : ℕ) → k < length list → IsValidEntry form cps table k
    pub stop : length list < table.count → ¬ (IsValidEntry form cps table (length list))

-- the list has all entries of a table
pub record AreTableEntries {E : Type 0} (form : EntryForm E) (cps : CpForm) (table : PlcPart) (list : List E) : Type 0
  where
    pub leading : AreLeading form cps table list
    pub all : length list ≡ table.count

-- the entries before the first wrong one, and the place of that one
pub record AreReadEntries {E : Type 0} (form : EntryForm E) (cps : CpForm) (bytes : List ℕ) (at : ℕ) (list : List E)
    (fault : Option ℕ) : Type 0 where
  pub leading : AreLeading form cps (plc_part form.size bytes) list
  pub judged : LeastOrNone (BreaksTable form cps bytes at) fault
  pub ends : MatchOption fault (length list ≡ (plc_part form.size bytes).count) (λ place. place ≡ at + 4 * length list)

-- a part is refused by its first broken rule, or for want of memory
abbrev pub IsPartFault : Rules ℕ → PartFault → Type 0
IsPartFault rules (Rule r place) = IsFirstOffset rules r place
IsPartFault rules Memory = Unit {0}

-- the same of a list of entries
abbrev pub printed_entries : {E : Type 0} → EntryForm E → List E → ℕ → List ℕ
printed_entries form list end = printed_plc (map form.cp_of list) end (map form.bytes_of list)

-- it is so of this list, and of no other one
abbrev pub IsOnly : {E : Type 0} → (List E → Type 0) → List E → Type 0
IsOnly {E = E} IsSo list = IsSo list × ((other : List E) → IsSo other → other ≡ list)
