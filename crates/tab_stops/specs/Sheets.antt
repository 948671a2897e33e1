-- [MS-DOC] STSH, STD: the changes of tab stops in the styles of paragraphs, as places of the table stream.
use Rattle.std.specs.Prelude.{◌≡◌, ◌≢◌, ◌⊎◌, ℕ, ◌+◌, ◌<◌, List, []}
use Rattle.doc_bits.specs.Number.{u16_at}
use Rattle.style_sheet.specs.Counted.{counted_bytes}
use Rattle.style_sheet.specs.StyleDefinition.{stk, upx_place, paragraph_list}
use Rattle.style_sheet.specs.Stsh.{cstd, std_base, slot_place, HasStshif, AreSlots}
use Rattle.tab_stops.specs.Lists.{AreListStops, AreJoinedStops}

-- those of a style that begins at a place: of paragraphs its list, behind its count and a style number; another one
-- has none
abbrev pub AreStyleStops : (std : List ℕ) (at base : ℕ) → List ℕ → Type 0
AreStyleStops std at base places =
    ((stk std ≡ 1) × AreListStops (paragraph_list std base) (at + (upx_place std base 0 + 4)) places)
    ⊎ ((stk std ≢ 1) × (places ≡ []))

-- those of the style in a slot of a sheet that begins at a place; an empty slot has none
abbrev pub AreSlotStops : (part : List ℕ) (at base place : ℕ) → List ℕ → Type 0
AreSlotStops part at base place places =
    ((0 < u16_at part place) × AreStyleStops (counted_bytes part place) (at + (place + 2)) base places)
    ⊎ ((u16_at part place ≡ 0) × (places ≡ []))

-- those of all slots
abbrev pub AreSlotsStops : (part : List ℕ) (at : ℕ) → List ℕ → Type 0
AreSlotsStops part at places =
    AreJoinedStops (λ istd here. AreSlotStops part at (std_base part) (slot_place part istd) here) (cstd part) places

-- a sheet that breaks none of the rules 49 and 50
abbrev pub IsSheet : List ℕ → Type 0
IsSheet part = HasStshif part × AreSlots part

-- those of such a sheet; another one has none
abbrev pub AreSheetStops : (part : List ℕ) (at : ℕ) → List ℕ → Type 0
AreSheetStops part at places = (IsSheet part × AreSlotsStops part at places) ⊎ ((¬ IsSheet part) × (places ≡ []))
