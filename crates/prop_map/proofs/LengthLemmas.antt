-- How long the entries of a map are, as a list of sprms and in a block.
use Rattle.std.proofs.Common.{◌≡◌, ◌∙◌, ap, ℕ, ◌+◌, ◌*◌, ◌<◌, ◌≤◌, ◌^◌, ◌/◌, ◌==◌, ◌||◌, Bool, true, false}
use Rattle.std.proofs.Common.{if◌then◌else◌, List, [], ◌∷◌, length, arith, refl, length-append}
use Rattle.std.specs.List.{All, flat_map}
use Rattle.std.specs.FinMap.{entries}
use Rattle.std.proofs.lemmas.List.Elements.{All-head, All-tail}
use Rattle.sprm_table.specs.declared.operands.OperandSize.{OperandSize}
use Rattle.sprm_table.specs.declared.operands.OperandSize.TheVariants.{Fixed, CountedByByte, CountedByWord}
use Rattle.sprm_table.specs.Operands.{size_of, IsSizeOf}
use Rattle.sprm_table.specs.Sprm.{Prl, IsPrl, spelling}
use Rattle.prop_map.specs.Settings.{Properties}
use Rattle.prop_map.specs.Entries.{Entries}
use Rattle.prop_map.specs.Block.{block_bytes, block_entry_bytes}
use Rattle.prop_map.specs.Formed.{IsFormedMap}
use Rattle.prop_map.specs.Printing.{printed_list}
use Rattle.prop_map.proofs.PrintLemmas.{operand_len, length-spelling_of, prls_of, few_len}
use Rattle.prop_map.proofs.BlockLemmas.{length-entry}

-- ---- a formed map is short

-- the size of an operand without a count
abbrev fixed_size : OperandSize → ℕ
fixed_size (Fixed size) = size
fixed_size CountedByByte = 0
fixed_size CountedByWord = 0

both_small : (b : Bool) (x y : OperandSize) → fixed_size x ≤ 4 → fixed_size y ≤ 4 → fixed_size (if b then x else y) ≤ 4
both_small true x y h k = h
both_small false x y h k = k

small_size : (code : ℕ) → fixed_size (size_of code) ≤ 4
small_size code =
    let least : OperandSize = if code / 8192 == 0 || code / 8192 == 1 then Fixed 1 else Fixed 3 in
    let counted : OperandSize = if code / 8192 == 6 then CountedByByte else least in
    let four : OperandSize = if code / 8192 == 3 then Fixed 4 else counted in
    let two : OperandSize = if code / 8192 == 2 || (code / 8192 == 4 || code / 8192 == 5) then Fixed 2 else four in
    both_small (code == 0xD608) CountedByWord two (omega arith)
    (both_small (code / 8192 == 2 || (code / 8192 == 4 || code / 8192 == 5)) (Fixed 2) four (omega arith)
    (both_small (code / 8192 == 3) (Fixed 4) counted (omega arith)
    (both_small (code / 8192 == 6) CountedByByte least (omega arith)
    (both_small (code / 8192 == 0 || code / 8192 == 1) (Fixed 1) (Fixed 3) (omega arith) (omega arith)))))

small_operand : (size : OperandSize) (value : List ℕ) → fixed_size size ≤ 4 → IsSizeOf size (length value) →
    operand_len size value ≤ 65536
small_operand (Fixed size) value small is = omega arith
small_operand CountedByByte value small is = omega arith
small_operand CountedByWord value small is = omega arith

small_prl : (prl : Prl) → IsPrl prl → length (spelling prl) < 65600
small_prl prl is =
    let long = length-spelling_of prl (size_of prl.0) refl in
    let operand = small_operand (size_of prl.0) prl.1 (small_size prl.0) is.size in
    omega arith

small_list : (prls : List Prl) → All IsPrl prls → length (flat_map spelling prls) ≤ 65600 * length prls
small_list [] all = omega arith
small_list (prl ∷ prls) all =
    let both = length-append (spelling prl) (flat_map spelling prls) in
    let first = small_prl prl (All-head IsPrl prl prls all) in
    let others = small_list prls (All-tail IsPrl prl prls all) in
    omega arith

pub small_map : (m : Properties) → IsFormedMap m → length (printed_list m) < 2 ^ 33
small_map m formed =
    let list = small_list (entries m) (prls_of m formed) in
    let few = few_len m formed in
    omega arith

-- ---- the first entry and the others

pub list-first : (left rest : Entries) (code : ℕ) (value : List ℕ) → left ≡ (code, value) ∷ rest →
    length (flat_map spelling left) ≡ length (spelling (code, value)) + length (flat_map spelling rest)
list-first left rest code value e = ap (λ es. length (flat_map spelling es)) e ∙ length-append (spelling (
  code,
  value,
)) (flat_map spelling rest)

pub block-first : (left rest : Entries) (code : ℕ) (value : List ℕ) → left ≡ (code, value) ∷ rest →
    length (block_bytes left) ≡ 6 + length value + length (block_bytes rest)
block-first left rest code value e =
    ap (λ es. length (block_bytes es)) e
    ∙ (length-append (block_entry_bytes (code, value)) (block_bytes rest) ∙ ap (λ n. n + length (block_bytes rest))
    (length-entry code value))
