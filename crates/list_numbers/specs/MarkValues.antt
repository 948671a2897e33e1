-- The values in effect of a paragraph mark that numbers, outlines and pages go by: its list, its level in the list, its
-- level in the outline, whether a page begins with it, whether it is written from right to left. Each is that of the last
-- layer that has it: the styles from the root, and the mark's own properties.
use Rattle.std.specs.Prelude.{◌≡◌, ℕ, List, Option, Some, None, slice_get, slice_index, option_map}
use Rattle.std.specs.Option.{option_or}
use Rattle.std.specs.FinMap.{get}
use Rattle.doc_bits.specs.Number.{u16_at}
use Rattle.prop_map.specs.Settings.{Properties}
use Rattle.style_sheet.specs.Sheet.{Sheet}
use Rattle.effective_props.specs.Values.{effective_value}
use Rattle.effective_props.specs.Layers.{paragraph_properties, AreChainLayers, AreParagraphLayers}
use Rattle.doc_model.specs.declared.item.Mark.{Mark}
use Rattle.list_numbers.specs.declared.mark_values.MarkValues.{MarkValues}

-- the 16-bit number of a value, and its first byte
abbrev pub word_in : Option (List ℕ) → Option ℕ
word_in value = option_map (λ bytes. u16_at bytes 0) value

abbrev pub byte_in : Option (List ℕ) → Option ℕ
byte_in value = option_map (λ bytes. slice_index bytes 0) value

-- [MS-DOC] sprmPIlfo, sprmPIlvl, sprmPOutLvl, sprmPFPageBreakBefore and sprmPFBiDi, as layers have them together
abbrev pub mark_values_in : List Properties → MarkValues
mark_values_in layers = record {
  ilfo = word_in (effective_value layers 0x460B);
  ilvl = byte_in (effective_value layers 0x260A);
  outline = byte_in (effective_value layers 0x2640);
  breaks_page = byte_in (effective_value layers 0x2407);
  right_to_left = byte_in (effective_value layers 0x2441);
}

-- the values are those of the layers of a style: its bases from the root, and the style
pub record AreStyleValues (sheet : Sheet) (istd : ℕ) (values : MarkValues) : Type 0 where
  pub layers : List Properties
  pub are : AreChainLayers paragraph_properties sheet istd layers
  pub said : values ≡ mark_values_in layers

-- the values in effect of a mark are those of its layers
pub record AreMarkValues (sheet : Sheet) (mark : Mark) (values : MarkValues) : Type 0 where
  pub layers : List Properties
  pub are : AreParagraphLayers sheet mark.istd mark.pap layers
  pub said : values ≡ mark_values_in layers

-- nothing is said
abbrev pub no_values : MarkValues
no_values = record { ilfo = None; ilvl = None; outline = None; breaks_page = None; right_to_left = None }

-- what one map says
abbrev pub own_values : Properties → MarkValues
own_values map = record {
  ilfo = word_in (get map 0x460B);
  ilvl = byte_in (get map 0x260A);
  outline = byte_in (get map 0x2640);
  breaks_page = byte_in (get map 0x2407);
  right_to_left = byte_in (get map 0x2441);
}

-- some values over others
abbrev pub over : MarkValues → MarkValues → MarkValues
over above below = record {
  ilfo = option_or above.ilfo below.ilfo;
  ilvl = option_or above.ilvl below.ilvl;
  outline = option_or above.outline below.outline;
  breaks_page = option_or above.breaks_page below.breaks_page;
  right_to_left = option_or above.right_to_left below.right_to_left;
}

-- where the list has values for a style, they are the style's
abbrev pub AreKnownValues : Sheet → List (Option MarkValues) → Type 0
AreKnownValues sheet known =
    (istd : ℕ) (values : MarkValues) → slice_get known istd ≡ Some (Some values) → AreStyleValues sheet istd values
