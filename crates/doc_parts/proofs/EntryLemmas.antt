-- Each kind of entry is spelled by its printed bytes.
use Rattle.std.proofs.Common.{◌≡◌, ℕ, ◌%◌, ◌^◌, ◌<◌, ◌≤◌, [], ◌++◌, Option, Some, None, Bool, true, false, not, refl}
use Rattle.std.proofs.Common.{sym, ap, ◌∙◌, arith, length-append}
use Rattle.std.specs.Prelude.{IsTrue, ◌==◌, replicate, if◌then◌else◌}
use Rattle.std.proofs.Math.Nat.{mod-eq_of_lt}
use Rattle.std.proofs.lemmas.Bool.Decides.{nat_tests}
use Rattle.std.proofs.lemmas.List.{append-nil}
use Rattle.doc_bits.specs.Number.{number_bytes, u16_at}
use Rattle.doc_bits.proofs.Public.{number_at-number_bytes, number_at-read_back, length-number_bytes}
use Rattle.doc_parts.specs.declared.lists.Sed.{Sed}
use Rattle.doc_parts.specs.declared.lists.Fld.{Fld}
use Rattle.doc_parts.specs.declared.lists.NoteRef.{NoteRef}
use Rattle.doc_parts.specs.Sections.{sed_form}
use Rattle.doc_parts.specs.Fields.{is_field_unit, fld_form}
use Rattle.doc_parts.specs.Stories.{ref_form, cut_form}
use Rattle.doc_parts.proofs.ReadBackLemmas.{IsSpelled}

pub sed-IsSpelled : (sed : Sed) → sed.sepx < 2 ^ 32 → IsSpelled sed_form sed
sed-IsSpelled sed h = record {
  sized =
      let four = length-number_bytes 4 sed.sepx in
      omega (
        arith,
        length-append (number_bytes 4 sed.sepx) (replicate 6 0),
        length-append (replicate 2 0)
            (number_bytes 4 sed.sepx ++ replicate 6 0),
      );
  again =
      let make : ℕ → Option Sed = λ n. Some (record { start = sed.start; sepx = n }) in
      ap make (number_at-read_back 4 sed.sepx (replicate 2 0) (replicate 6 0) h);
}

-- the units of fields are 0x13 to 0x15
pub field_unit_bounds : (unit : ℕ) → IsTrue (is_field_unit unit) → (0x13 ≤ unit) × (unit ≤ 0x15)
field_unit_bounds unit h = grind (arith, nat_tests)

pub fld-IsSpelled : (fld : Fld) → IsTrue (is_field_unit fld.unit) → IsSpelled fld_form fld
fld-IsSpelled fld h =
    let top = (field_unit_bounds fld.unit h).1 in
    let byte : fld.unit % 256 ≡ fld.unit = mod-eq_of_lt (omega arith) in
    let low : fld.unit % 32 ≡ fld.unit = mod-eq_of_lt (omega arith) in
    let make : ℕ → Option Fld = λ n. (if is_field_unit n then Some (record { cp = fld.cp; unit = n; byte = fld.byte })
    else None) in
    let choose : Bool → Option Fld = λ b. (if b then Some fld else None) in
    record { sized = refl; again = ap make (ap (λ n. n % 32) byte ∙ low) ∙ ap choose h }

-- a number of two bytes alone
two_bytes : (x : ℕ) → x < 256 ^ 2 → u16_at (number_bytes 2 x) 0 ≡ x
two_bytes x h = ap (λ bytes. u16_at bytes 0) (sym (append-nil (number_bytes 2 x))) ∙ number_at-number_bytes 2 x [] h

-- the number of a reference tells whether it is numbered by itself
auto_again : (auto : Bool) → not (u16_at (number_bytes 2 (if auto then 1 else 0)) 0 == 0) ≡ auto
auto_again true = ap (λ n. not (n == 0)) (two_bytes 1 (omega arith))
auto_again false = ap (λ n. not (n == 0)) (two_bytes 0 (omega arith))

pub ref-IsSpelled : (reference : NoteRef) → IsSpelled ref_form reference
ref-IsSpelled reference =
    let make : Bool → Option NoteRef = λ b. Some (record { cp = reference.cp; auto = b }) in
    record {
      sized = length-number_bytes 2 (if reference.auto then 1 else 0);
      again = ap make
          (auto_again reference.auto);
    }

pub cut-IsSpelled : (cp : ℕ) → IsSpelled cut_form cp
cut-IsSpelled cp = record { sized = refl; again = refl }
