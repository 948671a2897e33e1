-- [MS-DOC] Sprm, spra: the size of the operand.
use Rattle.std.specs.Prelude.{◌≡◌, ℕ, ◌+◌, ◌-◌, ◌/◌, ◌≤◌, ◌==◌, ◌||◌, if◌then◌else◌, List, ◌∷◌, ◌++◌, length, drop}
use Rattle.std.specs.Prelude.{slice_range}
use Rattle.doc_bits.specs.Number.{number_bytes}
use Rattle.sprm_table.specs.declared.operands.OperandSize.{OperandSize}
use Rattle.sprm_table.specs.declared.operands.OperandSize.TheVariants.{Fixed, CountedByByte, CountedByWord}

-- the size of a code's operand by its spra: 1, 1, 2, 4, 2, 2, counted, 3; sprmTDefTable has a count of its own
abbrev pub size_of : ℕ → OperandSize
size_of code =
    if code == 0xD608 then CountedByWord else
    if code / 8192 == 2 || (code / 8192 == 4 || code / 8192 == 5) then Fixed 2 else
    if code / 8192 == 3 then Fixed 4 else
    if code / 8192 == 6 then CountedByByte else
    if code / 8192 == 0 || code / 8192 == 1 then Fixed 1 else Fixed 3

-- how many bytes an operand has, 0 where they are counted
abbrev pub fixed_operand_len : ℕ → ℕ
fixed_operand_len code =
    if code / 8192 == 2 || (code / 8192 == 4 || code / 8192 == 5) then 2 else
    if code / 8192 == 3 then 4 else
    if code / 8192 == 6 then 0 else
    if code / 8192 == 0 || code / 8192 == 1 then 1 else 3

-- the size of an operand that is counted
abbrev pub counted : ℕ → OperandSize
counted code = if code == 0xD608 then CountedByWord else CountedByByte

-- a value of so many bytes has this size
abbrev pub IsSizeOf : OperandSize → ℕ → Type 0
IsSizeOf (Fixed size) len = len ≡ size
IsSizeOf CountedByByte len = len ≤ 255
IsSizeOf CountedByWord len = len ≤ 65534

-- the bytes of an operand: a count where there is one, and the value
-- [MS-DOC] TDefTableOperand: the 16-bit count is the size of the value and 1. Profile: a count of 0 is before no
-- value
abbrev pub operand_bytes : OperandSize → List ℕ → List ℕ
operand_bytes (Fixed size) value = value
operand_bytes CountedByByte value = length value ∷ value
operand_bytes CountedByWord value = number_bytes 2 (length value + 1) ++ value

-- the bytes begin with an operand of this size, whose value is this range
pub record IsOperandAt (size : OperandSize) (rest : List ℕ) (from to : ℕ) : Type 0 where
  pub order : from ≤ to
  pub within : to ≤ length rest
  pub fits : IsSizeOf size (to - from)
  pub spelt : rest ≡ operand_bytes size (slice_range rest from to) ++ drop to rest

-- the bytes begin with no operand of this size: they are too few for it
abbrev pub HasNoOperand : OperandSize → List ℕ → Type 0
HasNoOperand size rest = (value more : List ℕ) → IsSizeOf size (length value) → ¬ (rest ≡ operand_bytes size value ++
    more)
