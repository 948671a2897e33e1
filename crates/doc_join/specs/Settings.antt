-- Properties of characters, where the style that they name has another number.
use Rattle.std.specs.Prelude.{ℕ, List, Option, Some, None}
use Rattle.std.specs.FinMap.{get, insert}
use Rattle.doc_bits.specs.Number.{u16_at, number_bytes}
use Rattle.prop_map.specs.Settings.{Properties}
use Rattle.effective_props.specs.Layers.{character_style_code}
use Rattle.doc_join.specs.declared.renumbering.Renumbering.{Renumbering}
use Rattle.doc_join.specs.Numbers.{renumbered_style}

-- the properties with another style number, where they name a style
abbrev pub naming : Renumbering → Properties → Option (List ℕ) → Properties
naming numbers map None = map
naming numbers map (Some value) =
    insert map character_style_code (number_bytes 2 (renumbered_style numbers (u16_at value 0)))

-- sprmCIstd, where there is one, names the style by its new number; all else is as it was
abbrev pub renumbered_chp : Renumbering → Properties → Properties
renumbered_chp numbers map = naming numbers map (get map character_style_code)
