-- What the values of a sheet are read as.
use Rattle.std.specs.Prelude.{◌≤◌, ℕ, List, length, codes, Option, Some, None, is_some, option_map, All}
use Rattle.std.specs.Prelude.{if◌then◌else◌}
use Rattle.serde_json.specs.Data.{Data}
use Rattle.serde_json.specs.Find.{as_array, as_null, as_object}
use Rattle.edit_script.specs.Json.{◌>>=◌, each_of}
use Rattle.edit_script.specs.Values.{bytes_of, byte_number, short_number, properties_of}
use Rattle.prop_map.specs.Settings.{Properties}
use Rattle.style_sheet.specs.declared.styles.Style.{Style}
use Rattle.style_sheet.specs.declared.styles.Kind.{Kind}
use Rattle.style_sheet.specs.declared.styles.Kind.TheVariants.{Para, Char, Other}
use Rattle.style_sheet.specs.Formed.{IsFormedSlot}
use Rattle.json_values.specs.Digits.{hex_units_of}
use Rattle.json_values.specs.Rows.{taken, need, may, no_member_left}

-- what an array is read as, value by value
abbrev pub list_as : {A : Type 0} → (Data → Option A) → Data → Option (List A)
list_as reads value = as_array value >>= each_of reads

-- a style to be based on, or null
abbrev pub base_of : Data → Option (Option ℕ)
base_of value = if is_some (as_null value) then Some None else option_map Some (short_number value)

-- the kind that has these
abbrev pub kind_of_parts : Option Properties → Option Properties → Option ℕ → Option (List (List ℕ)) → Option Kind
kind_of_parts (Some chp) (Some pap) None None = Some (Para pap chp)
kind_of_parts (Some chp) None None None = Some (Char chp)
kind_of_parts None None (Some stk) (Some upxes) = Some (Other stk upxes)
kind_of_parts _ _ _ _ = None

abbrev pub read_style_of : Data → Option Style
read_style_of value = do
  start ← as_object value
  base ← need (codes "base") base_of start
  chp ← may (codes "char") properties_of base.1
  flags ← need (codes "flags") byte_number chp.1
  grfstd ← need (codes "grfstd") short_number flags.1
  name ← need (codes "name") hex_units_of grfstd.1
  next ← need (codes "next") short_number name.1
  pap ← may (codes "par") properties_of next.1
  sti ← need (codes "sti") short_number pap.1
  stk ← may (codes "stk") byte_number sti.1
  upxes ← may (codes "upxes") (list_as bytes_of) stk.1
  end ← no_member_left upxes.1
  kind ← kind_of_parts chp.0 pap.0 stk.0 upxes.0
  Some (record {
    sti = sti.0;
    flags = flags.0;
    base = base.0;
    next = next.0;
    grfstd = grfstd.0;
    name = name.0;
    kind = kind;
  })

-- the numbers of the header, and the value that has the slots
abbrev pub sheet_values : Data → Option (List ℕ × Data)
sheet_values value = do
  start ← as_object value
  head ← need (codes "head") (list_as short_number) start
  slots ← taken (codes "styles") head.1
  end ← no_member_left slots.1
  Some (head.0, slots.0)

-- 1 to 4,094 slots, and what each holds
pub record AreFormedSlots (slots : List (Option Style)) : Type 0 where
  pub some : 1 ≤ length slots
  pub few : length slots ≤ 4094
  pub each : All IsFormedSlot slots
