-- The slots of a sheet, whose styles are shared.
use Rattle.std.specs.Prelude.{List, Option, map, option_map}
use Rattle.std.specs.declared.rc.Rc.{Rc}
use Rattle.style_sheet.specs.declared.styles.Style.{Style}
use Rattle.style_sheet.specs.declared.slots.Slots.{Slots}
use Rattle.style_sheet.specs.Sheet.{Sheet}

-- the style that a slot shares
abbrev pub slot_of : {A : Type 0} → Option (Rc Style A) → Option Style
slot_of slot = option_map (λ shared. shared.value) slot

abbrev pub styles_of : {A : Type 0} → List (Option (Rc Style A)) → List (Option Style)
styles_of slots = map (λ slot. slot_of slot) slots

-- the sheet that the slots make
abbrev pub sheet_of : Slots → Sheet
sheet_of slots = record { head = slots.head; styles = styles_of slots.styles.items }
