-- A list of sprms without a fault is accepted.
use Rattle.std.proofs.Common.{◌≡◌, ◌⊎◌, inl, inr, refl, Bool, true, false, IsTrue, ℕ, zero, suc, ◌+◌, ◌-◌, ◌<◌, ◌≤◌}
use Rattle.std.proofs.Common.{List, length, drop, get_or, arith, length-drop}
use Rattle.std.proofs.lemmas.Bool.{cases_lt}
use Rattle.doc_bits.specs.Number.{u16_at}
use Rattle.doc_bits.specs.Rules.{Nowhere}
use Rattle.doc_bits.proofs.Public.{number_at-bound, AreBytes-drop}
use Rattle.sprm_table.specs.declared.codes.Class.{Class}
use Rattle.sprm_table.specs.declared.codes.Class.TheVariants.{Plain, Toggle, Clear, Style, Refused}
use Rattle.sprm_table.specs.Codes.{is_held, class_of, IsRefusedIn}
use Rattle.sprm_table.specs.declared.operands.OperandSize.{OperandSize}
use Rattle.sprm_table.specs.declared.operands.OperandSize.TheVariants.{Fixed, CountedByByte, CountedByWord}
use Rattle.sprm_table.specs.Operands.{size_of, IsSizeOf, HasNoOperand}
use Rattle.sprm_table.specs.Cursor.{IsPrlAt}
use Rattle.sprm_table.specs.Sprm.{HasSprmFaultAt, IsAcceptedList}
use Rattle.doc_bits.specs.Number.{AreBytes}
use Rattle.sprm_table.proofs.Public.{IsExtent, count_len, no_operand, operand_at, prl_at, Passed, passed_none}
use Rattle.sprm_table.proofs.Public.{passed_step, passed_end, refused_first}

-- a value's size is there
record HasExtent (size : OperandSize) (rest : List ℕ) : Type 0 where
  len : ℕ
  here : IsExtent size rest len
  fits : IsSizeOf size len

-- it is, or the bytes are too few for the operand
extent_or_none : (size : OperandSize) (rest : List ℕ) → AreBytes rest → HasExtent size rest ⊎ HasNoOperand size rest
extent_or_none (Fixed size) rest bytes = elim (cases_lt (length rest) size) [
  | inl short ↦ inr (no_operand (Fixed size) rest (λ len fits here. let e = here.0 in let h = here.1 in omega arith))
  | inr there ↦ inl (record { len = size; here = (refl, there); fits = refl })
]
extent_or_none CountedByByte rest bytes =
    let byte = bytes 0 in
    elim (cases_lt (length rest) (1 + get_or rest 0 0)) [
      | inl short ↦ inr (no_operand CountedByByte rest (λ len fits here. let e = here.0 in let h = here.1 in
          omega arith))
      | inr there ↦ inl (record { len = get_or rest 0 0; here = (refl, there); fits = omega arith })
    ]
extent_or_none CountedByWord rest bytes =
    let bound : u16_at rest 0 < 65536 = number_at-bound rest 0 2 bytes in
    elim (cases_lt 0 (u16_at rest 0)) [
      | inl some ↦ elim (cases_lt (length rest) (2 + (u16_at rest 0 - 1))) [
        | inl short ↦ inr (no_operand CountedByWord rest (λ len fits here. let e = here.0 in let h = here.1 in
            omega arith))
        | inr there ↦ inl (record { len = u16_at rest 0 - 1; here = (omega arith, there); fits = omega arith })
      ]
      | inr nothing ↦ inr (no_operand CountedByWord rest (λ len fits here. let e = here.0 in omega arith))
    ]

-- a code is refused or not
refused_or_not : (class : Class) → (class ≡ Refused) ⊎ (¬ (class ≡ Refused))
refused_or_not Plain = inr (λ e. cc)
refused_or_not Toggle = inr (λ e. cc)
refused_or_not Clear = inr (λ e. cc)
refused_or_not Style = inr (λ e. cc)
refused_or_not Refused = inl refl

held_or_not : (held : Bool) → (IsTrue held) ⊎ (¬ (IsTrue held))
held_or_not true = inl refl
held_or_not false = inr (λ e. cc)

refused_in_or_not : (groups code : ℕ) → (IsRefusedIn groups code) ⊎ (¬ (IsRefusedIn groups code))
refused_in_or_not groups code = elim (held_or_not (is_held groups code)) [
  | inl held ↦ elim (refused_or_not (class_of code)) [
    | inl refused ↦ inl (held, refused)
    | inr other ↦ inr (λ both. other both.1)
  ]
  | inr other ↦ inr (λ both. other both.0)
]

-- from a place that was passed without a fault on, the list is accepted
accepted_from : (most : ℕ) (bytes : List ℕ) (groups at : ℕ) → AreBytes bytes → length bytes ≤ at + most →
    Passed bytes groups at → Nowhere (HasSprmFaultAt bytes groups) → IsAcceptedList bytes groups
accepted_from zero bytes groups at are long passed none = passed_end bytes groups at passed
    (inl (omega (arith, length-drop at bytes)))
accepted_from (suc most) bytes groups at are long passed none =
    let rest = drop at bytes in
    let code = u16_at rest 0 in
    let rest_are = AreBytes-drop at bytes are in
    elim (cases_lt (length rest) 2) [
      | inl short ↦ passed_end bytes groups at passed (inl short)
      | inr word ↦ elim (cases_lt 0 code) [
        | inr none_left ↦ passed_end bytes groups at passed (inr (omega arith))
        | inl some ↦ elim (extent_or_none (size_of code) (drop 2 rest) (AreBytes-drop 2 rest rest_are)) [
          | inr leaves ↦ absurd (none at (inl (record {
            before = passed.before;
            front = passed.front;
            here = record { word = word; some = some; leaves = leaves };
          })))
          | inl there ↦
              let from = count_len (size_of code) in
              let to = from + there.len in
              let bound : u16_at rest 0 < 65536 = number_at-bound rest 0 2 rest_are in
              let operand = operand_at (size_of code) (drop 2 rest) there.len (AreBytes-drop 2 rest rest_are)
              there.here there.fits in
              let prl : IsPrlAt rest 0 code (2 + from) (2 + to) = prl_at rest (drop 2 rest) code from to rest_are word
              refl some (omega arith) refl operand in
              elim (refused_in_or_not groups code) [
                | inl refused ↦ absurd (none at (inr (refused_first bytes rest groups at code (2 + from) (2 + to) refl
                    passed prl refused).there))
                | inr accepted ↦ accepted_from most bytes groups (at + (2 + to)) are (omega arith) (passed_step bytes
                    rest groups at code (2 + from) (2 + to) refl passed prl accepted) none
              ]
        ]
      ]
    ]

-- a list that has no fault anywhere
pub accepted_of : (bytes : List ℕ) (groups : ℕ) → AreBytes bytes → Nowhere (HasSprmFaultAt bytes groups) →
    IsAcceptedList bytes groups
accepted_of bytes groups are none = accepted_from (length bytes) bytes groups 0 are (omega arith) (passed_none bytes
    groups) none
