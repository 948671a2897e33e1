-- [MS-DOC] Prl: a sprm and its operand. Lists of them, as bytes spell them, and their faults.
use Rattle.std.specs.Prelude.{◌≡◌, ◌⊎◌, ℕ, ◌<◌, ◌≤◌, List, ◌++◌, length, drop, IsTrue}
use Rattle.std.specs.List.{All, flat_map}
use Rattle.doc_bits.specs.Number.{u16_at, number_bytes}
use Rattle.doc_bits.specs.Rules.{IsLeast}
use Rattle.sprm_table.specs.declared.faults.SprmFault.{SprmFault}
use Rattle.sprm_table.specs.declared.faults.SprmFault.TheVariants.{Short, Refused}
use Rattle.sprm_table.specs.Codes.{is_held, class_of, is_property, IsRefusedIn}
use Rattle.sprm_table.specs.Operands.{size_of, IsSizeOf, operand_bytes, HasNoOperand}

-- a code, and the value of its operand: the bytes after the count, where there is one
abbrev pub Prl : Type 0
Prl = ℕ × List ℕ

-- a code of 16 bits that is not 0, and a value of its operand's size: at most 255 bytes where a byte counts them, at
-- most
-- 65,534 in sprmTDefTable
pub record IsPrl (prl : Prl) : Type 0 where
  pub some : 0 < prl.0
  pub word : prl.0 < 65536
  pub size : IsSizeOf (size_of prl.0) (length prl.1)

-- an entry that sets its code, of a group that the place holds: what a map of properties may hold
pub record IsProperty (groups : ℕ) (prl : Prl) : Type 0 where
  pub entry : IsPrl prl
  pub held : IsTrue (is_held groups prl.0)
  pub sets : IsTrue (is_property (class_of prl.0))

-- the bytes of an entry
abbrev pub spelling : Prl → List ℕ
spelling prl = number_bytes 2 prl.0 ++ operand_bytes (size_of prl.0) prl.1

-- Profile: a rest of fewer than 2 bytes ends a list, and so does the word 0
abbrev pub EndsSprmList : List ℕ → Type 0
EndsSprmList rest = (length rest < 2) ⊎ (u16_at rest 0 ≡ 0)

-- the bytes are the entries' spellings joined, and a rest that ends the list
pub record SpellsSprmList (bytes : List ℕ) (list : List Prl) : Type 0 where
  pub rest : List ℕ
  pub entries : All IsPrl list
  pub spelt : bytes ≡ flat_map spelling list ++ rest
  pub ends : EndsSprmList rest

-- the bytes before the place are the entries' spellings joined
pub record SpellsUpTo (bytes : List ℕ) (at : ℕ) (list : List Prl) : Type 0 where
  pub entries : All IsPrl list
  pub place : at ≡ length (flat_map spelling list)
  pub spelt : bytes ≡ flat_map spelling list ++ drop at bytes

-- whole entries come before the place, and the bytes from there on are such
pub record AfterEntries (such : List ℕ → Type 0) (bytes : List ℕ) (at : ℕ) : Type 0 where
  pub before : List Prl
  pub front : SpellsUpTo bytes at before
  pub here : such (drop at bytes)

-- the bytes begin with a code whose operand leaves them
pub record IsShortPrl (bytes : List ℕ) : Type 0 where
  pub word : 2 ≤ length bytes
  pub some : 0 < u16_at bytes 0
  pub leaves : HasNoOperand (size_of (u16_at bytes 0)) (drop 2 bytes)

-- the bytes begin with a whole entry whose code is not read, of a group that the place holds
pub record IsRefusedPrl (groups : ℕ) (bytes : List ℕ) : Type 0 where
  pub prl : Prl
  pub more : List ℕ
  pub entry : IsPrl prl
  pub spelt : bytes ≡ spelling prl ++ more
  pub refused : IsRefusedIn groups prl.0

-- the list is cut short at the place: the operand of the code there leaves it
abbrev pub IsCutShortAt : List ℕ → ℕ → Type 0
IsCutShortAt = AfterEntries IsShortPrl

-- the code at the place is not read, of a group that the place holds
abbrev pub IsRefusedAt : List ℕ → ℕ → ℕ → Type 0
IsRefusedAt bytes groups = AfterEntries (IsRefusedPrl groups) bytes

-- a fault is at the place
abbrev pub HasSprmFaultAt : List ℕ → ℕ → ℕ → Type 0
HasSprmFaultAt bytes groups at = IsCutShortAt bytes at ⊎ IsRefusedAt bytes groups at

-- the fault is where it says
abbrev pub IsSprmFault : List ℕ → ℕ → SprmFault → Type 0
IsSprmFault bytes groups (Short at) = IsCutShortAt bytes at
IsSprmFault bytes groups (Refused at) = IsRefusedAt bytes groups at

-- the offset of the fault's code
abbrev pub fault_place : SprmFault → ℕ
fault_place (Short at) = at
fault_place (Refused at) = at

-- the fault is where it says, and none before it
pub record IsFirstSprmFault (bytes : List ℕ) (groups : ℕ) (fault : SprmFault) : Type 0 where
  pub there : IsSprmFault bytes groups fault
  pub least : IsLeast (λ a b. a ≤ b) (HasSprmFaultAt bytes groups) (fault_place fault)

-- the bytes spell a list, and no entry of it has a code that is not read, of a group that the place holds
pub record IsAcceptedList (bytes : List ℕ) (groups : ℕ) : Type 0 where
  pub list : List Prl
  pub spelt : SpellsSprmList bytes list
  pub accepted : All (λ prl. ¬ (IsRefusedIn groups prl.0)) list

-- bytes spell one list at most
abbrev pub SprmListIsOne : Type 0
SprmListIsOne = (bytes : List ℕ) (a b : List Prl) → SpellsSprmList bytes a → SpellsSprmList bytes b → a ≡ b

-- a list has one first fault at most, and none where it is accepted
abbrev pub FirstFaultIsOne : Type 0
FirstFaultIsOne =
    (bytes : List ℕ) (groups : ℕ) (a : SprmFault) →
    IsFirstSprmFault bytes groups a → ((b : SprmFault) → IsFirstSprmFault bytes groups b → a ≡ b) ×
    (¬ (IsAcceptedList bytes groups))
