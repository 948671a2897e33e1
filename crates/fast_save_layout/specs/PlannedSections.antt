-- Sections of which some have their properties in the old stream, and the others are given a Sepx of their own.
use Rattle.std.specs.Prelude.{◌≡◌, ◌≤◌, ℕ, ◌+◌, ◌*◌, List, [], ◌∷◌, ◌++◌, length, drop, Option, Some, None}
use Rattle.prop_map.specs.Settings.{Properties}
use Rattle.doc_parts.specs.declared.lists.Sed.{Sed}
use Rattle.run_lists.specs.declared.runs.Run.{Run}
use Rattle.doc_model.specs.declared.item.Item.{Item}
use Rattle.doc_model.specs.Collected.{sections_of}
use Rattle.doc_columns.specs.declared.attached.Attached.{Attached}
use Rattle.doc_columns.specs.Attached.{attached_of}
use Rattle.full_save.specs.Alike.{HaveAlike}
use Rattle.full_save.specs.Sections.{sepx_bytes, fc_sepx, left_from}
use Rattle.fast_save_layout.specs.declared.sections.SectionPlaces.{SectionPlaces}

-- the Sepx that is written for a section
abbrev pub new_sepx : Option ℕ → Properties → List ℕ
new_sepx (Some fc) properties = []
new_sepx None properties = sepx_bytes properties

-- fcSepx: the old place, or the place where it is written
abbrev pub planned_fc : ℕ → Option ℕ → Properties → ℕ
planned_fc at (Some fc) properties = fc
planned_fc at None properties = fc_sepx at properties

-- the Sepxes of sections with these old places, one after the other
unfoldable pub planned_sepxes : List (Option ℕ) → List (ℕ × Properties) → List ℕ
planned_sepxes [] sections = []
planned_sepxes (place ∷ places) [] = []
planned_sepxes (place ∷ places) (section ∷ sections) = new_sepx place section.1 ++ planned_sepxes places sections

-- their Seds: the first section begins at a CP, and the first Sepx is written at a byte
unfoldable pub planned_seds : ℕ → ℕ → List (Option ℕ) → List (ℕ × Properties) → List Sed
planned_seds start at [] sections = []
planned_seds start at (place ∷ places) [] = []
planned_seds start at (place ∷ places) (section ∷ sections) =
    record { start = start; sepx = planned_fc at place section.1 }
    ∷ planned_seds (section.0 + 1) (at + length (new_sepx place section.1)) places sections

-- how many sections are done, where the next one begins, the bytes with their Sepxes, and the Seds
pub record PlannedSections : Type 0 where
  pub number : ℕ
  pub start : ℕ
  pub out : List ℕ
  pub seds : List Sed

-- the sections that end before a CP are done, and those that are left go on from here
pub record ArePlannedUpTo
    (main : List Item) (places : List (Option ℕ)) (base : ℕ) (old : List ℕ) (cp : ℕ) (so : PlannedSections) : Type 0
  where
    pub bytes :
        so.out ++ planned_sepxes (drop so.number places) (left_from main cp)
        ≡ old ++ planned_sepxes places (sections_of main)
    pub seds :
        so.seds ++ planned_seds so.start (base + length so.out) (drop so.number places) (left_from main cp)
        ≡ planned_seds 0 (base + length old) places (sections_of main)
    pub few : length so.out ≤ length old + 504 * cp
    pub count : so.number + length (left_from main cp) ≡ length places

-- the sections go on by those that end in a run, which begins at a place
abbrev pub PlannedGoOn : Run Attached → ℕ → SectionPlaces → PlannedSections → PlannedSections → Type 0
PlannedGoOn run place old before after =
    (main : List Item) (bytes : List ℕ) → HaveAlike attached_of run.value main place run.count →
    ArePlannedUpTo main old.places.now old.base bytes place before →
    ArePlannedUpTo main old.places.now old.base bytes (place + run.count) after
