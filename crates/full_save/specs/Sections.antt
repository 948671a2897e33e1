-- [MS-DOC] Sepx and Sed of the sections of a text.
use Rattle.std.specs.Prelude.{◌≡◌, ℕ, ◌≤◌, ◌+◌, ◌*◌, ◌==◌, Bool, List, [], ◌∷◌, ◌++◌, length, drop, if◌then◌else◌}
use Rattle.std.specs.List.{flat_map}
use Rattle.std.specs.FinMap.{entries}
use Rattle.std.specs.Option.{ForSome}
use Rattle.prop_map.specs.Settings.{Properties}
use Rattle.prop_map.specs.Formed.{IsFormedMap}
use Rattle.prop_map.specs.Printing.{printed_list}
use Rattle.style_sheet.specs.Counted.{written_counted}
use Rattle.doc_parts.specs.declared.lists.Sed.{Sed}
use Rattle.run_lists.specs.declared.runs.Run.{Run}
use Rattle.doc_model.specs.declared.item.Item.{Item}
use Rattle.doc_model.specs.Collected.{collected, sections_of}
use Rattle.doc_columns.specs.declared.attached.Attached.{Attached}
use Rattle.doc_columns.specs.Attached.{attached_of}
use Rattle.full_save.specs.Alike.{HaveAlike}

-- a section without properties
abbrev pub is_plain_section : Properties → Bool
is_plain_section properties = length (entries properties) == 0

-- the Sepx of a section, and a zero where its list is odd; none where it has no properties
abbrev pub sepx_bytes : Properties → List ℕ
sepx_bytes properties = if is_plain_section properties then [] else written_counted (printed_list properties)

-- the Sepxes of sections, one after the other
abbrev pub sepxes : List (ℕ × Properties) → List ℕ
sepxes sections = flat_map (λ section. sepx_bytes section.1) sections

-- [MS-DOC] fcSepx: no place where the section has no properties
abbrev pub no_sepx : ℕ
no_sepx = 0xFFFFFFFF

abbrev pub fc_sepx : ℕ → Properties → ℕ
fc_sepx place properties = if is_plain_section properties then no_sepx else place

-- the Seds of sections, which are given by their last CPs: the first one begins at a CP, and the Sepxes are from a
-- place on
unfoldable pub seds_from : ℕ → ℕ → List (ℕ × Properties) → List Sed
seds_from start place [] = []
seds_from start place (section ∷ sections) =
    record { start = start; sepx = fc_sepx place section.1 }
    ∷ seds_from (section.0 + 1) (place + length (sepx_bytes section.1)) sections

-- a section whose properties a Sepx can hold
pub record IsSavableSection (properties : Properties) : Type 0 where
  pub formed : IsFormedMap properties
  pub short : length (printed_list properties) ≤ 500

-- the item ends such a section, if it ends one
abbrev pub HasSavableSection : Item → Type 0
HasSavableSection item = ForSome item.sect IsSavableSection

-- where the next section begins, the bytes with its Sepxes, and the Seds
pub record SectionsSoFar : Type 0 where
  pub start : ℕ
  pub out : List ℕ
  pub seds : List Sed

-- the sections that end from a CP on
abbrev pub left_from : List Item → ℕ → List (ℕ × Properties)
left_from main cp = collected (λ item. item.sect) cp (drop cp main)

-- the sections that end before a CP are done, and those that are left go on from here
pub record AreSepxesUpTo (main : List Item) (base : ℕ) (old : List ℕ) (cp : ℕ) (so : SectionsSoFar) : Type 0 where
  pub bytes : so.out ++ sepxes (left_from main cp) ≡ old ++ sepxes (sections_of main)
  pub places :
      so.seds ++ seds_from so.start (base + length so.out) (left_from main cp)
      ≡ seds_from 0 (base + length old) (sections_of main)
  pub few : length so.out ≤ length old + 504 * cp

-- the sections go on by those that end in a run, which begins at a place
abbrev pub SepxesGoOn : Run Attached → ℕ → ℕ → SectionsSoFar → SectionsSoFar → Type 0
SepxesGoOn run place base old new =
    (main : List Item) (bytes : List ℕ) → HaveAlike attached_of run.value main place run.count →
    AreSepxesUpTo main base bytes place old → AreSepxesUpTo main base bytes (place + run.count) new
