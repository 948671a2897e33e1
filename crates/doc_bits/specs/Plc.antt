-- [MS-DOC] Plc: a table of n + 1 CPs and then n entries of one size, as it is read and as it is printed.
use Rattle.std.specs.Prelude.{◌≡◌, ℕ, ◌+◌, ◌*◌, ◌^◌, ◌<◌, List, [], ◌∷◌, ◌++◌, length, Some, All, slice_get}
use Rattle.std.specs.Prelude.{slice_index, slice_range}
use Rattle.std.specs.List.{flat_map}
use Rattle.doc_bits.specs.Number.{u32_at, number_bytes, u32_list_bytes}

-- the bytes of a table, the size of an entry and the number of entries
pub record PlcPart : Type 0 where
  pub bytes : List ℕ
  pub size : ℕ
  pub count : ℕ

-- the bytes are as many as a table of so many entries has
abbrev pub IsPlcOf : List ℕ → ℕ → ℕ → Type 0
IsPlcOf bytes size count = length bytes ≡ 4 + count * (4 + size)

-- the CP of a place; there is one more of them than of entries
abbrev pub plc_cp : List ℕ → ℕ → ℕ
plc_cp bytes i = u32_at bytes (4 * i)

-- the bytes of an entry
abbrev pub plc_entry : PlcPart → ℕ → List ℕ
plc_entry part i =
    slice_range part.bytes (4 * (part.count + 1) + part.size * i) (4 * (part.count + 1) + part.size * i + part.size)

-- a table as it is printed: the CPs, the last CP, the entries; no bytes where there are none
abbrev pub printed_plc : List ℕ → ℕ → List (List ℕ) → List ℕ
printed_plc [] end entries = []
printed_plc (cp ∷ cps) end entries =
    u32_list_bytes (cp ∷ cps) ++ (number_bytes 4 end ++ flat_map (λ entry. entry) entries)

-- the bytes are a table of these CPs, this last CP and these entries
pub record HasPlc (bytes : List ℕ) (size : ℕ) (starts : List ℕ) (end : ℕ) (parts : List (List ℕ)) : Type 0 where
  pub whole : IsPlcOf bytes size (length starts)
  pub cps : (k : ℕ) → k < length starts → plc_cp bytes k ≡ slice_index starts k
  pub last : plc_cp bytes (length starts) ≡ end
  pub entries :
      (k : ℕ) → k < length starts →
      slice_get parts k ≡ Some (plc_entry (record { bytes = bytes; size = size; count = length starts }) k)

-- a printed table is read back
abbrev pub PlcIsReadBack : Type 0
PlcIsReadBack =
    (size : ℕ) (starts : List ℕ) (end : ℕ) (parts : List (List ℕ)) →
    0 < length starts → length parts ≡ length starts →
    All (λ cp. cp < 2 ^ 32) starts → end < 2 ^ 32 → All (λ part. length part ≡ size) parts →
    HasPlc (printed_plc starts end parts) size starts end parts
