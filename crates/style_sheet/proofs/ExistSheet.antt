-- A style sheet that breaks no rule holds styles.
use Rattle.std.proofs.Common.{inl, inr, refl, ℕ, ◌+◌, ◌<◌, List, [], ◌∷◌, Option, Some, None, arith}
use Rattle.std.specs.Prelude.{slice_index_or}
use Rattle.std.specs.List.{All}
use Rattle.std.proofs.lemmas.Bool.{cases_lt}
use Rattle.std.proofs.lemmas.List.Elements.{All-nil, All-cons}
use Rattle.doc_bits.specs.Number.{u16_at, AreBytes}
use Rattle.doc_bits.specs.Rules.{Hold}
use Rattle.style_sheet.specs.declared.styles.Style.{Style}
use Rattle.style_sheet.specs.Counted.{counted_end}
use Rattle.style_sheet.specs.Stsh.{cstd, std_base, stshi_words, slot_place, std_of, IsSlot, table_offset, HasUpxFault}
use Rattle.style_sheet.specs.Stsh.{stsh_rules, SpellsSlot}
use Rattle.style_sheet.specs.Written.{PartsHoldSheets}
pub use Rattle.style_sheet.specs.Written.{HasFormedSheet}
use Rattle.style_sheet.specs.Formed.{IsFormedSlot}
use Rattle.doc_bits.proofs.Public.{All-from_slice_get, AreBytes-range}
use Rattle.style_sheet.proofs.MadeLists.{list_of}
use Rattle.style_sheet.proofs.StableStyles.{stable_slot, stable_stshif}
use Rattle.style_sheet.proofs.ExistStyles.{at_place, word_small, style_there}

-- ---- the slots and the sheet

record IsValidSlot (part : List ℕ) (istd : ℕ) (slot : Option Style) : Type 0 where
  is : SpellsSlot part istd slot
  formed : IsFormedSlot slot

slot_there : (part : List ℕ) (istd : ℕ) → AreBytes part → IsSlot part istd → ((offset : ℕ) →
    ¬ (HasUpxFault (std_of part istd) (std_base part) offset)) → (slot : Option Style) × IsValidSlot part istd slot
slot_there part istd are is none = elim (cases_lt 0 (u16_at part (slot_place part istd))) [
  | inl some ↦
      let has = style_there (std_of part istd) (std_base part)
      (AreBytes-range part (slot_place part istd + 2) (counted_end part (slot_place part istd)) are) (is.style some)
      none in
      (Some has.style, record { is = (some, has.is); formed = has.formed })
  | inr empty_slot ↦ (None, record { is = omega arith; formed = tt })
]

head_small : (part : List ℕ) → AreBytes part → All (λ number. number < 65536) (stshi_words part)
head_small part are =
    let P : ℕ → Type 0 = λ number. number < 65536 in
    let from18 : List ℕ = u16_at part 18 ∷ [] in
    let from16 : List ℕ = u16_at part 16 ∷ from18 in
    let from14 : List ℕ = u16_at part 14 ∷ from16 in
    let from12 : List ℕ = u16_at part 12 ∷ from14 in
    let from10 : List ℕ = u16_at part 10 ∷ from12 in
    let from8 : List ℕ = u16_at part 8 ∷ from10 in
    let from6 : List ℕ = u16_at part 6 ∷ from8 in
    All-cons P (u16_at part 6) from8 (word_small part 6 are)
    (All-cons P (u16_at part 8) from10 (word_small part 8 are)
    (All-cons P (u16_at part 10) from12 (word_small part 10 are)
    (All-cons P (u16_at part 12) from14 (word_small part 12 are)
    (All-cons P (u16_at part 14) from16 (word_small part 14 are)
    (All-cons P (u16_at part 16) from18 (word_small part 16 are)
    (All-cons P (u16_at part 18) [] (word_small part 18 are)
    (All-nil P)))))))

pub sheet_there : (part : List ℕ) (at : ℕ) → AreBytes part → Hold (stsh_rules part at) → HasFormedSheet part
sheet_there part at are hold =
    let stshif = stable_stshif part (λ no. hold.0 at (refl, no)) in
    let slot_is : (istd : ℕ) → istd < cstd part → IsSlot part istd = λ istd below.
    stable_slot part (std_base part) (slot_place part istd)
    (λ no. hold.1.0 (table_offset at (slot_place part istd)) (record {
      entry = istd;
      below = below;
      broken = record { here = refl; wrong = no };
    })) in
    let none : (istd : ℕ) → istd < cstd part → (offset : ℕ) → ¬ (HasUpxFault (std_of part istd) (std_base part)
    offset) = λ istd below offset fault.
    hold.1.1 (at + (slot_place part istd + 2) + offset) (record {
      entry = istd;
      below = below;
      broken = record { offset = offset; here = refl; broken = fault };
    }) in
    let slots = list_of (cstd part) (IsValidSlot part) (λ istd below. slot_there part istd are (slot_is istd below)
    (none istd below)) in
    let len = slots.len in
    let some = stshif.some in
    let few = stshif.few in
    record {
      sheet = record { head = stshi_words part; styles = slots.list };
      has = record {
        head = refl;
        slots = len;
        styles = λ istd below. (slots.each istd (slice_index_or slots.list istd None) (at_place slots.list istd
            (cstd part) None len below)).is;
      };
      formed = record {
        head = refl;
        words = head_small part are;
        some = omega arith;
        few = omega arith;
        styles = All-from_slice_get IsFormedSlot slots.list (λ k slot here. (slots.each k slot here).formed);
      };
    }

pub parts_hold_sheets : PartsHoldSheets
parts_hold_sheets part at are hold = sheet_there part at are hold
