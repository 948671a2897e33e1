-- Each section has its properties.
use Rattle.std.proofs.Common.{inl, inr, refl, ℕ, ◌+◌, ◌<◌, List, length}
use Rattle.std.specs.FinMap.{empty}
use Rattle.std.proofs.lemmas.Bool.{cases_eq}
use Rattle.doc_bits.specs.Number.{u16_at}
use Rattle.doc_bits.specs.Rules.{Nowhere}
use Rattle.doc_bits.specs.Number.{AreBytes}
use Rattle.prop_map.specs.Settings.{Properties}
use Rattle.prop_map.specs.Formed.{IsPropertyMap, section_groups}
use Rattle.prop_map.proofs.Public.{IsPropertyMap-empty, accepted_of}
use Rattle.doc_parts.specs.declared.lists.Sed.{Sed}
use Rattle.file_rules.specs.SectionRules.{section_fc, sepx_list, BreaksSepxLists}
use Rattle.doc_read.specs.Sections.{IsSectionProperties, AreSectionMaps}
use Rattle.doc_bits.proofs.Public.{AreBytes-range, All-from_slice_get}
use Rattle.direct_props.proofs.Public.{properties_there}
use Rattle.doc_parts.proofs.Public.{list_of}

-- a right map of a section
record IsValidSection (wd : List ℕ) (fc : ℕ) (map : Properties) : Type 0 where
  is : IsSectionProperties wd fc map
  formed : IsPropertyMap section_groups map

section_there : (wd : List ℕ) (list : List Sed) (k : ℕ) → AreBytes wd → Nowhere (BreaksSepxLists wd list) →
    k < length list → (map : Properties) × IsValidSection wd (section_fc list k) map
section_there wd list k bytes none below =
    let fc = section_fc list k in
    elim (cases_eq fc 0xFFFFFFFF) [
      | inl missing ↦ (empty, record { is = inl (missing, refl); formed = IsPropertyMap-empty section_groups })
      | inr there ↦
          let list_bytes = AreBytes-range wd (fc + 2) (fc + 2 + u16_at wd fc) bytes in
          let accepted = accepted_of (sepx_list wd fc) section_groups list_bytes
          (λ p fault. none (fc + 2 + p) (record {
            entry = k;
            below = below;
            broken = record {
              properties = there;
              fault = record { offset = p; here = refl; broken = fault };
            };
          })) in
          let made = properties_there (sepx_list wd fc) section_groups list_bytes accepted in (
            made.made,
            record {
              is = inr (record { there = there; style = made.style; makes = made.makes });
              formed = made.formed;
            },
          )
    ]

pub section_maps_there : (wd : List ℕ) (list : List Sed) → AreBytes wd → Nowhere (BreaksSepxLists wd list) →
    (maps : List Properties) × AreSectionMaps wd list maps
section_maps_there wd list bytes none =
    let found = list_of (length list) (λ k map. IsValidSection wd (section_fc list k) map) (λ k below. section_there
    wd list k bytes none below) in (
      found.list,
      record {
        have = record { len = found.len; each = λ k map here. (found.each k map here).is };
        formed = All-from_slice_get (IsPropertyMap section_groups) found.list (λ k map here. (found.each k map
            here).formed);
      },
    )
