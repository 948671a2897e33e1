-- The modifiers of edits, each of which sets one thing.
use Rattle.std.specs.Prelude.{ℕ, true, false, Some, None}
use Rattle.prop_map.specs.declared.modifiers.Modifier.{Modifier}
use Rattle.prop_map.specs.Settings.{Properties}
use Rattle.prop_map.specs.Modifiers.{no_modifier}

-- the modifiers that set characters, clear them, set paragraphs, and name a style
abbrev pub property_characters : Properties → Modifier
property_characters set = record { istd = None; clear = false; chp = set; pap = no_modifier.pap }

abbrev pub clearing : Modifier
clearing = record { istd = None; clear = true; chp = no_modifier.chp; pap = no_modifier.pap }

abbrev pub property_paragraphs : Properties → Modifier
property_paragraphs set = record { istd = None; clear = false; chp = no_modifier.chp; pap = set }

abbrev pub naming_style : ℕ → Modifier
naming_style istd = record { istd = Some istd; clear = false; chp = no_modifier.chp; pap = no_modifier.pap }
