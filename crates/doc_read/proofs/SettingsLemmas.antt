-- The properties of the sections, read one after the other.
use Rattle.std.proofs.Common.{◌≡◌, ◌≢◌, ◌⊎◌, ◌∙◌, inl, inr, refl, sym, subst, ℕ, ◌+◌, ◌<◌, List, [], ◌∷◌, ◌++◌}
use Rattle.std.proofs.Common.{length, Some, slice_get, get_or, arith, length-append}
use Rattle.std.specs.Prelude.{All, slice_range}
use Rattle.std.specs.FinMap.{empty}
use Rattle.std.proofs.lemmas.Bool.{cases_lt}
use Rattle.std.proofs.lemmas.List.Elements.{All-nil, All-push}
use Rattle.std.proofs.lemmas.Option.{none-some, slice_get_within, slice_get_read}
use Rattle.doc_bits.specs.declared.places.Where.TheVariants.{Wd, Table}
use Rattle.doc_bits.specs.Number.{u16_at}
use Rattle.doc_bits.specs.Rules.{Hold, Nowhere}
use Rattle.sprm_table.specs.Sprm.{HasSprmFaultAt, IsAcceptedList, SpellsSprmList}
use Rattle.prop_map.specs.Settings.{Properties}
use Rattle.prop_map.specs.Formed.{IsPropertyMap}
use Rattle.prop_map.specs.declared.acting.Acted.{Acted}
use Rattle.prop_map.specs.Acting.{IsActedBy, style_named}
use Rattle.overlapping_grpprls.specs.declared.ranges.ListRange.{ListRange}
use Rattle.overlapping_grpprls.specs.Walks.{list_bytes_at}
use Rattle.overlapping_grpprls.specs.Keeping.{IsMadeBy}
use Rattle.direct_props.proofs.Public.{makes_properties, together_one}
use Rattle.doc_parts.specs.declared.lists.Sed.{Sed}
use Rattle.doc_parts.specs.Sections.{place_of_fc_sepx}
use Rattle.doc_bits.proofs.Public.{slice_get_before, slice_get_push, together_joined}
use Rattle.fib_form.specs.declared.table_parts.TablePart.TheVariants.{PlcfSed}
use Rattle.file_rules.specs.Source.{DocSource, part_place}
use Rattle.file_rules.specs.SectionRules.{section_fc, sepx_list, LacksSepx, HasSepxFault, HasSections, sed_rules}
use Rattle.file_rules.specs.SectionRules.{rules_of_sections, IsSepxPlace}
use Rattle.prop_map.specs.Formed.{section_groups}
use Rattle.file_rules.proofs.Public.{sections_one}
use Rattle.doc_read.specs.Sections.{AreMetSections, IsMetSection, IsSectionProperties, IsMadeBySepx}

-- the rules on each section hold of those that the document has
held_sections : (source : DocSource) (list : List Sed) → Hold (rules_of_sections source) → HasSections source list →
    Hold (sed_rules source list)
held_sections source list h has =
    subst (λ sections. Hold (sed_rules source sections)) (sections_one source h.1.0 list h.1.1.0 has) h.1.1.1

-- so the properties of each are there
pub sepx-there : (source : DocSource) (list : List Sed) (k : ℕ) → Hold (rules_of_sections source) →
    HasSections source list → k < length list → ¬ (LacksSepx source.wd (section_fc list k))
sepx-there source list k h has below lacks =
    (held_sections source list h has).1.0 (Table, place_of_fc_sepx (part_place source PlcfSed) (length list) k)
    (refl, record { entry = k; below = below; broken = record { here = refl; broken = lacks } })

-- and have no fault
pub sepx-right : (source : DocSource) (list : List Sed) (k : ℕ) → Hold (rules_of_sections source) →
    HasSections source list → k < length list → Nowhere (HasSepxFault source.wd (section_fc list k))
sepx-right source list k h has below = λ place fault.
    (held_sections source list h has).1.1 (Wd, place) (refl, record { entry = k; below = below; broken = fault })

-- the list of a Sepx without a fault has none
pub list-right : (wd : List ℕ) (fc from to : ℕ) → fc ≢ 0xFFFFFFFF → from ≡ fc + 2 → to ≡ fc + 2 + u16_at wd fc →
    Nowhere (HasSepxFault wd fc) → Nowhere (HasSprmFaultAt (slice_range wd from to) section_groups)
list-right wd fc from to properties begins ends right = λ offset fault.
    right (fc + 2 + offset) (record {
      properties = properties;
      fault = record {
        offset = offset;
        here = refl;
        broken = rw (begins, ends) at fault;
      };
    })

-- an accepted list makes the properties of its section
pub is-made : (wd list : List ℕ) (fc : ℕ) (none : Properties) (acted : Acted) → fc ≢ 0xFFFFFFFF → list ≡ sepx_list wd fc
    →
    IsAcceptedList list section_groups → none ≡ empty → IsActedBy list section_groups none acted →
    IsMadeBySepx wd fc acted.map
is-made wd list fc none acted properties e accepted bare act = record {
  there = properties;
  style = acted.istd;
  makes =
      makes_properties list (sepx_list wd fc) section_groups section_groups none acted e refl bare
      (subst (λ bytes. IsAcceptedList bytes section_groups) e accepted) act;
}

-- the properties that were made in a walk
pub walked_section : (wd : List ℕ) (range : ListRange) (fc : ℕ) (made : Properties) → fc ≢ 0xFFFFFFFF →
    IsSepxPlace wd range fc → IsMadeBy (list_bytes_at wd range) section_groups made → IsMetSection wd (fc, fc) made
walked_section wd range fc made there place is =
    let list : list_bytes_at wd range ≡ sepx_list wd fc = cc (place.from, place.to) in
    record {
      is = inr (record {
        there = there;
        style = style_named is.prls section_groups;
        makes = record {
          prls = is.prls;
          spelt = subst (λ (l : List ℕ). SpellsSprmList l is.prls) list is.spelt;
          map = is.acted;
          style_is = refl;
        };
      });
      formed = is.formed;
    }

-- an element of a list with one more is one of the list, or the last
pub pushed : {X : Type 0} (xs : List X) (x y : X) (j : ℕ) → slice_get (xs ++ x ∷ []) j ≡ Some y →
    (slice_get xs j ≡ Some y) ⊎ ((j ≡ length xs) × (y ≡ x))
pushed xs x y j e =
    let within : j < length (xs ++ x ∷ []) = slice_get_within (xs ++ x ∷ []) j y e in
    let long = length-append xs (x ∷ []) in
    elim (cases_lt j (length xs)) [
      | inl low ↦ inl (sym (slice_get_before xs (x ∷ []) j low) ∙ e)
      | inr high ↦
          let last : j ≡ length xs = omega arith in
          let here : slice_get (xs ++ x ∷ []) (length xs) ≡ Some y =
          subst (λ n. slice_get (xs ++ x ∷ []) n ≡ Some y) last e in
          let there = slice_get_push xs x in
          let same : y ≡ x = cc in
          inr (last, same)
    ]

-- the properties of the first k sections
pub record AreMapsUpTo (wd : List ℕ) (list : List Sed) (k : ℕ) (maps : List Properties) : Type 0 where
  pub len : length maps ≡ k
  pub each : (j : ℕ) (map : Properties) → slice_get maps j ≡ Some map → IsSectionProperties wd (section_fc list j) map
  pub formed : All (IsPropertyMap section_groups) maps

pub maps_none : (wd : List ℕ) (list : List Sed) → AreMapsUpTo wd list 0 []
maps_none wd list = record {
  len = refl;
  each = λ j map e. absurd (none-some map e);
  formed = All-nil (IsPropertyMap section_groups);
}

-- one more
pub maps_more : (wd : List ℕ) (list : List Sed) (k fc : ℕ) (maps : List Properties) (map : Properties) →
    AreMapsUpTo wd list k maps → section_fc list k ≡ fc → IsSectionProperties wd fc map →
    IsPropertyMap section_groups map → AreMapsUpTo wd list (k + 1) (maps ++ map ∷ [])
maps_more wd list k fc maps map are e properties formed = record {
  len = omega (arith, are.len, length-append maps (map ∷ []));
  each = λ j other g. elim (pushed maps map other j g) [
    | inl before ↦ are.each j other before
    | inr last ↦
        let same : j ≡ k = last.0 ∙ are.len in
        let here : IsSectionProperties wd (section_fc list k) map =
        subst (λ n. IsSectionProperties wd n map) (sym e) properties in
        subst (λ m. IsSectionProperties wd (section_fc list j) m) (sym last.1) (subst (λ n. IsSectionProperties wd
        (section_fc list n) map) (sym same) here)
  ];
  formed = All-push (IsPropertyMap section_groups) maps map are.formed formed;
}

-- ---- sections that were met

pub no_sections : (wd : List ℕ) → AreMetSections wd [] []
no_sections wd = record { len = refl; each = λ k place map p q. absurd (none-some place p) }

-- the properties that are kept at a number
pub met_before : (wd : List ℕ) (places : List (ℕ × ℕ)) (maps : List Properties) (k fc : ℕ) (map : Properties) →
    AreMetSections wd places maps →
    slice_get places k ≡ Some (fc, fc) → map ≡ get_or maps k map → IsMetSection wd (fc, fc) map
met_before wd places maps k fc map are there here =
    let within = slice_get_within places k (fc, fc) there in
    let len = are.len in
    are.each k (fc, fc) map there (slice_get_read maps (length maps) k map refl (omega arith) here)

-- one section more
pub one_met : (wd : List ℕ) (places : List (ℕ × ℕ)) (maps : List Properties) (fc : ℕ) (map : Properties) →
    AreMetSections wd places maps → IsMetSection wd (fc, fc) map →
    AreMetSections wd (places ++ (fc, fc) ∷ []) (maps ++ map ∷ [])
one_met wd places maps fc map are is =
    together_joined (IsMetSection wd) places maps ((fc, fc) ∷ []) (map ∷ []) are (together_one (IsMetSection wd) (
      fc,
      fc,
    ) map is)
