-- The sections' rule: a table that may not be empty.
use Rattle.std.proofs.Common.{◌≡◌, ◌⊎◌, inl, inr, ℕ, ◌+◌, ◌*◌, ◌^◌, ◌<◌, ◌≤◌, List, length, Option}
use Rattle.std.proofs.Common.{Some, sym, subst, ◌∙◌, arith}
use Rattle.std.proofs.lemmas.Option.{slice_get_within, same_Some}
use Rattle.doc_bits.specs.Number.{AreBytes, u32_at}
use Rattle.doc_bits.specs.Plc.{PlcPart, plc_cp, plc_entry}
use Rattle.doc_bits.proofs.Public.{number_at-bound, AreBytes-range, All-from_slice_get, least_same}
use Rattle.doc_bits.specs.Rules.{LeastOrNone}
use Rattle.doc_parts.specs.declared.lists.Sed.{Sed}
use Rattle.doc_parts.specs.Table.{plc_part, spelled_entry, AreLeading, IsEmptyOrWhole, IsMalformedPart, HasWrongEntry}
use Rattle.doc_parts.specs.Table.{BreaksTable}
use Rattle.doc_parts.specs.Sections.{sed_form, sed_cps, IsSedTable, HaveFileNumbers}

-- twenty bytes hold a section, where they are those of a table
some_section : (bytes : List ℕ) → 20 ≤ length bytes → IsEmptyOrWhole (plc_part 12 bytes) →
    IsSedTable (plc_part 12 bytes)
some_section bytes h whole = elim whole [
  | inl none ↦ absurd (omega arith)
  | inr full ↦ (full, omega arith)
]

-- there the rule is that of a table that may be empty
pub section_rule : (bytes : List ℕ) (at main_len : ℕ) (fault : Option ℕ) → 20 ≤ length bytes →
    LeastOrNone (BreaksTable sed_form (sed_cps main_len) bytes at) fault → LeastOrNone (λ place. IsMalformedPart
    (IsSedTable (plc_part 12 bytes)) at place ⊎ HasWrongEntry sed_form (sed_cps main_len) (plc_part 12 bytes) at
    place) fault
section_rule bytes at main_len fault h =
    least_same (BreaksTable sed_form (sed_cps main_len) bytes at)
    (λ place. IsMalformedPart (IsSedTable (plc_part 12 bytes)) at place ⊎ HasWrongEntry sed_form (sed_cps main_len)
    (plc_part 12 bytes) at place)
    fault
    (λ p w. elim w [ inl x ↦ inl (x.0, λ formed. x.1 (inr formed.0)) | inr y ↦ inr y ])
    (λ p w. elim w [ inl x ↦ inl (x.0, λ whole. x.1 (some_section bytes h whole)) | inr y ↦ inr y ])

-- the numbers that are read of bytes have 32 bits
pub read_numbers : (bytes : List ℕ) (main_len : ℕ) (list : List Sed) → AreBytes bytes → AreLeading sed_form
    (sed_cps main_len) (plc_part 12 bytes) list → HaveFileNumbers list
read_numbers bytes main_len list are leading =
    All-from_slice_get (λ (sed : Sed). sed.sepx < 2 ^ 32) list (λ k sed here.
    let table : PlcPart = plc_part 12 bytes in
    let entry : List ℕ = plc_entry table k in
    let from : ℕ = 4 * (table.count + 1) + table.size * k in
    let there : spelled_entry sed_form table k ≡ Some sed = sym (leading.each k (slice_get_within list k sed here)) ∙
    here in
    let same : record { start = plc_cp bytes k; sepx = u32_at entry 2 } ≡ sed = same_Some (record {
      start = plc_cp
          bytes k;
      sepx = u32_at entry 2;
    }) sed there in
    subst (λ (s : Sed). s.sepx < 2 ^ 32) same (number_at-bound entry 2 4 (AreBytes-range bytes from
    (from + table.size) are)))
