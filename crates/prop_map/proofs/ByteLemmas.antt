-- The values of entries that bytes spell are bytes.
use Rattle.std.proofs.Common.{◌≡◌, ap, subst, ℕ, suc, ◌+◌, ◌<◌, List, [], ◌∷◌, ◌++◌, length, Option, Some, None}
use Rattle.std.proofs.Common.{option_map, refl, append_assoc}
use Rattle.std.specs.List.{All, flat_map, filter, last_or}
use Rattle.std.specs.Option.{unwrap_or}
use Rattle.std.proofs.lemmas.List.Elements.{All-nil, All-cons, All-filter}
use Rattle.doc_bits.specs.Number.{u16_at, number_bytes, AreBytes}
use Rattle.doc_bits.proofs.Public.{number_at-bound, front_bytes, back_bytes}
use Rattle.sprm_table.specs.declared.operands.OperandSize.{OperandSize}
use Rattle.sprm_table.specs.declared.operands.OperandSize.TheVariants.{Fixed, CountedByByte, CountedByWord}
use Rattle.sprm_table.specs.Operands.{size_of, operand_bytes}
use Rattle.sprm_table.specs.Sprm.{Prl, spelling, SpellsSprmList}
use Rattle.prop_map.specs.Acting.{names_style, style_named}
use Rattle.prop_map.proofs.ActingLemmas.{HasByteValue, last_has}

value_bytes : (size : OperandSize) (value : List ℕ) → AreBytes (operand_bytes size value) → AreBytes value
value_bytes (Fixed size) value bytes = bytes
value_bytes CountedByByte value bytes = λ i. bytes (suc i)
value_bytes CountedByWord value bytes = back_bytes (number_bytes 2 (length value + 1)) value bytes

spelt_bytes : (prls : List Prl) (rest : List ℕ) → AreBytes (flat_map spelling prls ++ rest) → All HasByteValue prls
spelt_bytes [] rest bytes = All-nil HasByteValue
spelt_bytes (prl ∷ prls) rest bytes =
    let apart : AreBytes (spelling prl ++ (flat_map spelling prls ++ rest)) = subst AreBytes (append_assoc
    (spelling prl) (flat_map spelling prls) rest) bytes in
    let front = front_bytes (spelling prl) (flat_map spelling prls ++ rest) apart in
    All-cons HasByteValue prl prls
    (value_bytes (size_of prl.0) prl.1 (back_bytes (number_bytes 2 prl.0) (operand_bytes (size_of prl.0) prl.1) front))
    (spelt_bytes prls rest (back_bytes (spelling prl) (flat_map spelling prls ++ rest) apart))

-- the entries that bytes spell have values of bytes
pub list_bytes : (bytes : List ℕ) (prls : List Prl) → AreBytes bytes → SpellsSprmList bytes prls → All HasByteValue prls
list_bytes bytes prls are spelt = spelt_bytes prls spelt.rest (subst AreBytes spelt.spelt are)

style_from : (o : Option Prl) (n : ℕ) → ((x : Prl) → o ≡ Some x → HasByteValue x) → option_map (λ (prl : Prl). u16_at
    prl.1 0) o ≡ Some n → n < 65536
style_from None n has e = absurd (cc)
style_from (Some prl) n has e = subst (λ k. k < 65536) (ap (λ o. unwrap_or o 0) e) (number_at-bound prl.1 0 2
    (has prl refl))

-- so the style that they name has 16 bits
pub style_small : (prls : List Prl) (groups n : ℕ) → All HasByteValue prls → style_named prls groups ≡ Some n → n <
    65536
style_small prls groups n all e =
    style_from (last_or None (filter (names_style groups) prls)) n
    (λ x was. last_has HasByteValue (filter (names_style groups) prls) x None tt (All-filter (names_style groups)
    HasByteValue prls all) was) e
