-- The rules on the sections, 33 to 36: their table, the unit before each, and their properties.
use Rattle.std.specs.Prelude.{◌≡◌, ◌≢◌, ℕ, ◌+◌, ◌-◌, ◌*◌, ◌≤◌, List, length, map, slice_index, slice_range, Option}
use Rattle.doc_bits.specs.declared.places.Where.TheVariants as stands
use Rattle.doc_bits.specs.Number.{u16_at}
use Rattle.doc_bits.specs.Rules.{Rules, rule, ◌then◌, given, Among, From, LeastOrNone}
use Rattle.doc_bits.specs.Together.{AreTogether}
use Rattle.doc_bits.specs.Places.{Place, rules_in}
use Rattle.sprm_table.specs.Sprm.{HasSprmFaultAt}
use Rattle.prop_map.specs.Formed.{section_groups}
use Rattle.overlapping_grpprls.specs.declared.ranges.ListRange.{ListRange}
use Rattle.doc_parts.specs.declared.lists.Sed.{Sed}
use Rattle.doc_parts.specs.Sections.{section_rules, AreSections, HasSepx, place_of_fc_sepx}
use Rattle.fib_form.specs.declared.table_parts.TablePart.TheVariants.{PlcfSed}
use Rattle.fib_form.specs.declared.stories.StoryKind.TheVariants.{Main}
use Rattle.file_rules.specs.Source.{DocSource, part_place, table_part_bytes, story_length, story_units}
use Rattle.file_rules.specs.Rows.{HasWrongRow}

-- the CP where section k begins
abbrev pub section_begin : List Sed → ℕ → ℕ
section_begin list k = slice_index (map (λ sed. sed.start) list) k

-- where its Sepx is in WordDocument
abbrev pub section_fc : List Sed → ℕ → ℕ
section_fc list k = slice_index (map (λ sed. sed.sepx) list) k

-- a later section begins after another unit than a section mark
pub record BeginsElsewhere (units : List ℕ) (list : List Sed) (k : ℕ) : Type 0 where
  pub later : 1 ≤ k
  pub other : slice_index units (section_begin list k - 1) ≢ 0x0C

-- a section with this fcSepx has properties, and they are not in WordDocument
pub record LacksSepx (wd : List ℕ) (fc : ℕ) : Type 0 where
  pub properties : fc ≢ 0xFFFFFFFF
  pub missing : ¬ (HasSepx wd fc)

-- [MS-DOC] Sepx, grpprl
abbrev pub sepx_list : List ℕ → ℕ → List ℕ
sepx_list wd fc = slice_range wd (fc + 2) (fc + 2 + u16_at wd fc)

-- the list of the Sepx at this place is that range of WordDocument
pub record IsSepxPlace (wd : List ℕ) (range : ListRange) (fc : ℕ) : Type 0 where
  pub from : range.from ≡ fc + 2
  pub to : range.to ≡ fc + 2 + u16_at wd fc

-- the range is that of the list of some Sepx
pub record IsSepxRange (wd : List ℕ) (range : ListRange) : Type 0 where
  pub place : ℕ
  pub is : IsSepxPlace wd range place

-- the list of a Sepx has a fault, at this place of WordDocument
pub record HasSepxFault (wd : List ℕ) (fc place : ℕ) : Type 0 where
  pub properties : fc ≢ 0xFFFFFFFF
  pub fault : From (fc + 2) (HasSprmFaultAt (sepx_list wd fc) section_groups) place

-- rule 34, at the CP of the section
abbrev pub BreaksSectionMarks : List ℕ → List Sed → ℕ → ℕ → Type 0
BreaksSectionMarks units list at = HasWrongRow (length list) (λ k. at + 4 * k) (BeginsElsewhere units list)

-- rule 35, at fcSepx of the section
abbrev pub BreaksSepxs : List ℕ → List Sed → ℕ → ℕ → Type 0
BreaksSepxs wd list at =
    HasWrongRow (length list) (place_of_fc_sepx at (length list)) (λ k. LacksSepx wd (section_fc list k))

-- rule 36: the Sepxs are in any order
abbrev pub BreaksSepxLists : List ℕ → List Sed → ℕ → Type 0
BreaksSepxLists wd list = Among (length list) (λ k. HasSepxFault wd (section_fc list k))

-- the sections of a document
abbrev pub HasSections : DocSource → List Sed → Type 0
HasSections source = AreSections (table_part_bytes source PlcfSed) (story_length source Main)

-- the rules on each section, 34 to 36
abbrev pub sed_rules : DocSource → List Sed → Rules Place
sed_rules source list =
    let at = part_place source PlcfSed in
    rules_in stands.Table (rule 34 (BreaksSectionMarks (story_units source Main) list at))
    then rules_in stands.Table (rule 35 (BreaksSepxs source.wd list at))
    then rules_in stands.Wd (rule 36 (BreaksSepxLists source.wd list))

-- the rules 33 to 36
abbrev pub rules_of_sections : DocSource → Rules Place
rules_of_sections source =
    rules_in stands.Table
    (section_rules (table_part_bytes source PlcfSed) (part_place source PlcfSed) (story_length source Main))
    then given (HasSections source) (sed_rules source)

-- the first fault of the Sepx at a place
abbrev pub IsJudgedSepx : List ℕ → ℕ × ℕ → Option ℕ → Type 0
IsJudgedSepx wd place fault = LeastOrNone (HasSepxFault wd place.0) fault

-- those of Sepxs that were checked, by their places
abbrev pub AreJudgedSepxs : List ℕ → List (ℕ × ℕ) → List (Option ℕ) → Type 0
AreJudgedSepxs wd places faults = AreTogether (IsJudgedSepx wd) places faults
