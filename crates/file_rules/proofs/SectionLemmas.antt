-- The sections: their CPs are in the main text.
use Rattle.std.proofs.Common.{◌≡◌, ◌≢◌, ℕ, ◌+◌, ◌-◌, ◌*◌, ◌<◌, ◌≤◌, List, length, arith}
use Rattle.std.specs.List.{slice_range}
use Rattle.std.proofs.lemmas.List.{length-map}
use Rattle.doc_parts.specs.declared.lists.Sed.{Sed}
use Rattle.doc_bits.specs.Number.{u16_at}
use Rattle.doc_bits.specs.Rules.{Nowhere, IsLeast}
use Rattle.doc_bits.proofs.Public.{least_from}
use Rattle.sprm_table.specs.Sprm.{HasSprmFaultAt}
use Rattle.doc_parts.specs.Sections.{AreSections}
use Rattle.sprm_table.proofs.Public.{accepted_no_fault}
use Rattle.overlapping_grpprls.specs.declared.ranges.ListRange.{ListRange}
use Rattle.overlapping_grpprls.specs.Walks.{IsAcceptedRange}
use Rattle.file_rules.specs.SectionRules.{section_begin, sepx_list, HasSepxFault, IsSepxPlace}
use Rattle.prop_map.specs.Formed.{section_groups}

-- a section begins in the main text, and a later one not at its first unit
pub section_within : (plc : List ℕ) (main_len : ℕ) (list : List Sed) → AreSections plc main_len list → (k : ℕ) →
    k < length list → section_begin list k < main_len
section_within plc main_len list are k h =
    let len = length-map list (λ (sed : Sed). sed.start) in (are.leading.in_order k (omega arith)).within

pub section_later : (plc : List ℕ) (main_len : ℕ) (list : List Sed) → AreSections plc main_len list → (k : ℕ) →
    k < length list → 1 ≤ k → 1 ≤ section_begin list k
section_later plc main_len list are k h later =
    let len = length-map list (λ (sed : Sed). sed.start) in
    let before = (are.leading.in_order k (omega arith)).after (k - 1) (omega arith) in omega arith

-- the table has the bytes of its sections
pub sections_fit : (plc : List ℕ) (main_len : ℕ) (list : List Sed) → AreSections plc main_len list → 0 < length list →
    4 + 16 * length list ≤ length plc
sections_fit plc main_len list are some =
    let all = are.all in omega arith

-- the list of a Sepx, where it is
pub properties_none : (wd : List ℕ) (fc from to : ℕ) → from ≡ fc + 2 → to ≡ fc + 2 + u16_at wd fc →
    Nowhere (HasSprmFaultAt (slice_range wd from to) section_groups) → Nowhere (HasSepxFault wd fc)
properties_none wd fc from to begins ends none = λ p w. (rw (begins, ends) at none) w.fault.offset w.fault.broken

pub properties_first : (wd : List ℕ) (fc from to at : ℕ) → fc ≢ 0xFFFFFFFF → from ≡ fc + 2 → to ≡ fc + 2 + u16_at wd
    fc → IsLeast (λ a b. a ≤ b) (HasSprmFaultAt (slice_range wd from to) section_groups) at → IsLeast (λ a b. a ≤ b)
    (HasSepxFault wd fc) (from + at)
properties_first wd fc from to at properties begins ends least =
    let here = rw (begins, ends) at least in
    let moved = least_from (HasSprmFaultAt (sepx_list wd fc) section_groups) (fc + 2) at here in
    rw begins (record {
      broken = record { properties = properties; fault = moved.broken };
      least = λ q w. moved.least q w.fault;
    })

-- the list of a Sepx that is right
pub right_list : (wd : List ℕ) (range : ListRange) (fc : ℕ) → IsSepxPlace wd range fc →
    IsAcceptedRange wd section_groups range → Nowhere (HasSepxFault wd fc)
right_list wd range fc is right = properties_none wd fc range.from range.to is.from is.to
    (λ place fault. accepted_no_fault (slice_range wd range.from range.to) section_groups place right fault)
