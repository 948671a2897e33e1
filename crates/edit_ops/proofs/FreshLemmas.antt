-- The properties and the items that commands put are well formed.
use Rattle.std.proofs.Common.{◌≡◌, ◌∙◌, refl, sym, ap, inl, inr, ℕ, ◌≤◌, List, [], ◌∷◌, length, Some, arith}
use Rattle.std.specs.FinMap.{insert}
use Rattle.std.specs.Option.{option_and_then}
use Rattle.std.proofs.lemmas.Option.{slice_get_cases, none-some}
use Rattle.doc_bits.specs.Number.{AreBytes}
use Rattle.doc_bits.proofs.Public.{one_byte}
use Rattle.prop_map.specs.Settings.{Properties}
use Rattle.prop_map.specs.Formed.{IsPropertyMap, character_groups, paragraph_groups, section_groups}
use Rattle.prop_map.proofs.Public.{stay_formed}
use Rattle.doc_model.specs.declared.item.Item.{Item}
use Rattle.doc_model.specs.declared.item.Mark.{Mark}
use Rattle.doc_model.specs.Document.{IsFormedText}
use Rattle.plain_doc.proofs.Public.{maps_there}
use Rattle.doc_patch.specs.Places.{mark_place, paragraph_mark_at, section_place, section_around}
use Rattle.edit_ops.specs.Fresh.{special}

-- ---- properties

pub special_formed : (base : Properties) → IsPropertyMap character_groups base → IsPropertyMap character_groups
    (special base)
special_formed base formed =
    stay_formed character_groups base (0x0855, 1 ∷ []) formed
    (record {
      property = record {
        entry = record { some = omega arith; word = omega arith; size = refl };
        held = refl;
        sets = refl;
      };
      bytes = one_byte 1 (omega arith);
    })

pub in_table_formed : (base : Properties) → IsPropertyMap paragraph_groups base → IsPropertyMap paragraph_groups
    (insert base 0x2416 (1 ∷ []))
in_table_formed base formed =
    stay_formed paragraph_groups base (0x2416, 1 ∷ []) formed
    (record {
      property = record {
        entry = record { some = omega arith; word = omega arith; size = refl };
        held = refl;
        sets = refl;
      };
      bytes = one_byte 1 (omega arith);
    })

pub row_end_formed : (base : Properties) → IsPropertyMap paragraph_groups base → IsPropertyMap paragraph_groups
    (insert base 0x2417 (1 ∷ []))
row_end_formed base formed =
    stay_formed paragraph_groups base (0x2417, 1 ∷ []) formed
    (record {
      property = record {
        entry = record { some = omega arith; word = omega arith; size = refl };
        held = refl;
        sets = refl;
      };
      bytes = one_byte 1 (omega arith);
    })

pub definition_formed : (base : Properties) (value : List ℕ) → length value ≤ 65534 → AreBytes value →
    IsPropertyMap paragraph_groups base → IsPropertyMap paragraph_groups (insert base 0xD608 value)
definition_formed base value short bytes formed =
    stay_formed paragraph_groups base (0xD608, value) formed
    (record {
      property = record {
        entry = record { some = omega arith; word = omega arith; size = short };
        held = refl;
        sets = refl;
      };
      bytes = bytes;
    })

-- ---- items

-- ---- maps of items that are there

pub mark_formed : (text : List Item) (at : ℕ) (mark : Mark) → IsFormedText text → paragraph_mark_at text at ≡ Some mark
    →
    IsPropertyMap paragraph_groups mark.pap
mark_formed text at mark formed is = elim (slice_get_cases text (mark_place text at)).1 [
  | inl w ↦
      let has : w.0.mark ≡ Some mark = sym (ap (option_and_then (λ item. item.mark)) w.2) ∙ is in
      (maps_there text (mark_place text at) w.0 formed w.2).pap mark has
  | inr past ↦ absurd (none-some mark (sym (ap (option_and_then (λ item. item.mark)) past.1) ∙ is))
]

pub section_formed : (main : List Item) (at : ℕ) (sect : Properties) → IsFormedText main → section_around main at ≡ Some
    sect → IsPropertyMap section_groups sect
section_formed main at sect formed is = elim (slice_get_cases main (section_place main at)).1 [
  | inl w ↦
      let has : w.0.sect ≡ Some sect = sym (ap (option_and_then (λ item. item.sect)) w.2) ∙ is in
      (maps_there main (section_place main at) w.0 formed w.2).sect sect has
  | inr past ↦ absurd (none-some sect (sym (ap (option_and_then (λ item. item.sect)) past.1) ∙ is))
]
