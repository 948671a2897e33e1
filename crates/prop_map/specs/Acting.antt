-- What a list of sprms does to a map of properties, said code by code.
-- Profile: an entry of a group that the place does not hold is skipped; of several entries of one code the last counts.
-- No list is gone through: the last entry that concerns a code decides.
use Rattle.std.specs.Prelude.{◌≡◌, ℕ, ◌==◌, Bool, ◌&&◌, ◌||◌, not, List, [], ◌∷◌, Option, Some, None, option_map}
use Rattle.std.specs.Prelude.{if◌then◌else◌}
use Rattle.std.specs.List.{filter, last_or}
use Rattle.std.specs.FinMap.{get}
use Rattle.doc_bits.specs.Number.{u16_at}
use Rattle.sprm_table.specs.Codes.{is_held, is_code_among, class_of, is_property, is_clear, is_style}
use Rattle.sprm_table.specs.Sprm.{Prl, SpellsSprmList}
use Rattle.prop_map.specs.declared.acting.Acted.{Acted}
use Rattle.prop_map.specs.Settings.{Properties}

-- [MS-DOC] sprmCPlain leaves sprmCFSpec, sprmCFData, sprmCPicLocation and sprmCIstd
abbrev pub kept_codes : List ℕ
kept_codes = 0x0855 ∷ 0x0806 ∷ 0x6A03 ∷ 0x4A30 ∷ []

abbrev pub is_kept_by_plain : ℕ → Bool
is_kept_by_plain code = is_code_among code kept_codes

-- the entry sets the code, at a place that holds these groups
abbrev pub sets_code : ℕ → ℕ → Prl → Bool
sets_code groups code prl = is_held groups prl.0 && (code == prl.0 && is_property (class_of prl.0))

-- the entry removes the code
abbrev pub clears_code : ℕ → ℕ → Prl → Bool
clears_code groups code prl = is_held groups prl.0 && (is_clear (class_of prl.0) && not (is_kept_by_plain code))

-- the entry sets the code or removes it
abbrev pub concerns_code : ℕ → ℕ → Prl → Bool
concerns_code groups code prl = sets_code groups code prl || clears_code groups code prl

-- what the last entry that concerns a code leaves there: its value where it sets, nothing where it removes, and what
-- was
-- there where no entry concerns it
abbrev pub left_by : Option Prl → Option (List ℕ) → Option (List ℕ)
left_by None before = before
left_by (Some prl) before = if is_property (class_of prl.0) then Some prl.1 else None

-- the value at a code after the list, where `before` was there
abbrev pub value_after : List Prl → ℕ → ℕ → Option (List ℕ) → Option (List ℕ)
value_after list groups code before = left_by (last_or None (filter (concerns_code groups code) list)) before

-- the entry names the style
abbrev pub names_style : ℕ → Prl → Bool
names_style groups prl = is_held groups prl.0 && is_style (class_of prl.0)

-- the style that the list names last
abbrev pub style_named : List Prl → ℕ → Option ℕ
style_named list groups = option_map (λ prl. u16_at prl.1 0) (last_or None (filter (names_style groups) list))

-- the new map is the old one after the list
abbrev pub ArePropertiesAfter : List Prl → ℕ → Properties → Properties → Type 0
ArePropertiesAfter list groups old new = (code : ℕ) → get new code ≡ value_after list groups code (get old code)

-- the map after the list, and the style that it names
pub record IsActed (list : List Prl) (groups : ℕ) (old : Properties) (acted : Acted) : Type 0 where
  pub map : ArePropertiesAfter list groups old acted.map
  pub style : acted.istd ≡ style_named list groups

-- the same of the list that the bytes spell
abbrev pub IsActedBy : List ℕ → ℕ → Properties → Acted → Type 0
IsActedBy bytes groups old acted = (prls : List Prl) → SpellsSprmList bytes prls → IsActed prls groups old acted
