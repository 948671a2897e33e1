-- Maps made of maps, as functions, beside the relations that code is proved to meet.
use Rattle.std.specs.Prelude.{ℕ, Bool, not, ◌||◌, List, ◌++◌, if◌then◌else◌}
use Rattle.std.specs.Option.{option_or}
use Rattle.std.specs.FinMap.{entries, from_entries, retain_keys}
use Rattle.sprm_table.specs.Codes.{is_code_among}
use Rattle.prop_map.specs.declared.modifiers.Modifier.{Modifier}
use Rattle.prop_map.specs.Settings.{Properties}
use Rattle.prop_map.specs.Acting.{is_kept_by_plain}

-- all properties of the first map, and those of the second at other codes; of two entries of one code the first counts
abbrev pub overlay : Properties → Properties → Properties
overlay set base = from_entries (entries set ++ entries base)

-- the map without what is at these codes
abbrev pub without : List ℕ → Properties → Properties
without codes map = retain_keys map (λ code. not (is_code_among code codes))

-- what sprmCPlain leaves of the map
abbrev pub cleared : Properties → Properties
cleared map = retain_keys map is_kept_by_plain

-- the same where it is to be cleared
abbrev pub cleared_where : Bool → Properties → Properties
cleared_where clear map = if clear then cleared map else map

-- the properties of a character after the modifier
abbrev pub modified_characters : Modifier → Properties → Properties
modified_characters modifier chp = overlay modifier.chp (cleared_where modifier.clear chp)

-- the properties of a mark after the modifier
abbrev pub modified_paragraph : Modifier → Properties → Properties
modified_paragraph modifier pap = overlay modifier.pap pap

-- the first modifier and then the next, as one
abbrev pub composed : Modifier → Modifier → Modifier
composed first next = record {
  istd = option_or next.istd first.istd;
  clear = first.clear || next.clear;
  chp = overlay next.chp (cleared_where next.clear first.chp);
  pap = overlay next.pap first.pap;
}
