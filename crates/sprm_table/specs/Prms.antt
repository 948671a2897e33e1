-- [MS-DOC] Prm0: a modifier of one sprm with a one-byte operand, named by its isprm.
use Rattle.std.specs.Prelude.{◌≡◌, ℕ, ◌==◌, if◌then◌else◌, List, [], ◌∷◌, Option, Some, None}
use Rattle.sprm_table.specs.declared.codes.Class.TheVariants.{Refused}
use Rattle.sprm_table.specs.declared.operands.OperandSize.TheVariants.{Fixed}
use Rattle.sprm_table.specs.Codes.{class_of}
use Rattle.sprm_table.specs.Operands.{size_of}
use Rattle.sprm_table.specs.Sprm.{IsPrl}

-- Profile: the isprms that are read, and their codes
abbrev pub prm_codes : List (ℕ × ℕ)
prm_codes =
    (0x05, 0x2403) ∷ (0x07, 0x2405) ∷ (0x08, 0x2406) ∷ (0x09, 0x2407) ∷ (0x18, 0x2416) ∷ (0x19, 0x2417) ∷ (
      0x53,
      0x2A33,
    ) ∷
    (0x55, 0x0835) ∷ (0x56, 0x0836) ∷ (0x57, 0x0837) ∷ (0x58, 0x0838) ∷ (0x59, 0x0839) ∷ (0x5A, 0x083A) ∷ (
      0x5B,
      0x083B,
    ) ∷
    (0x5C, 0x083C) ∷ (0x5E, 0x2A3E) ∷ (0x62, 0x2A42) ∷ (0x68, 0x2A48) ∷ []

-- the code beside the number, in a table of such pairs
abbrev pub code_beside : ℕ → List (ℕ × ℕ) → Option ℕ
code_beside isprm [] = None
code_beside isprm (row ∷ rows) = if isprm == row.0 then Some row.1 else code_beside isprm rows

-- the code that an isprm represents
abbrev pub code_of_isprm : ℕ → Option ℕ
code_of_isprm isprm = code_beside isprm prm_codes

-- a code that a Prm may carry: its operand is one byte, each byte makes an entry, and it is read
pub record IsPrmCode (code : ℕ) : Type 0 where
  pub size : size_of code ≡ Fixed 1
  pub entry : (byte : ℕ) → IsPrl (code, byte ∷ [])
  pub read : ¬ (class_of code ≡ Refused)
