-- A sheet of styles: the seven numbers of its header, and null or a style for each slot.
use Rattle.std.specs.Prelude.{ℕ, List, map, codes, Option, Some, None, option_map}
use Rattle.serde_json.specs.Data.{Data, null, array, object, Members, no_members, member}
use Rattle.serde_json.specs.View.{items_of}
use Rattle.prop_map.specs.Settings.{Properties}
use Rattle.style_sheet.specs.declared.styles.Style.{Style}
use Rattle.style_sheet.specs.declared.styles.Kind.{Kind}
use Rattle.style_sheet.specs.declared.styles.Kind.TheVariants.{Para, Char, Other}
use Rattle.style_sheet.specs.Sheet.{Sheet}
use Rattle.json_values.specs.Digits.{bytes_json, units_json}
use Rattle.json_values.specs.Settings.{properties_json}
use Rattle.json_values.specs.Rows.{number_json, member_if}

-- the style that another one is based on, or null
abbrev pub base_json : Option ℕ → Data
base_json None = null
base_json (Some base) = number_json base

-- what each kind has: properties of characters for paragraphs and characters, those of paragraphs for paragraphs, a
-- number
-- and property lists for others
abbrev pub chp_of_kind : Kind → Option Properties
chp_of_kind (Para pap chp) = Some chp
chp_of_kind (Char chp) = Some chp
chp_of_kind (Other stk upxes) = None

abbrev pub pap_of_kind : Kind → Option Properties
pap_of_kind (Para pap chp) = Some pap
pap_of_kind (Char chp) = None
pap_of_kind (Other stk upxes) = None

abbrev pub stk_of_kind : Kind → Option ℕ
stk_of_kind (Para pap chp) = None
stk_of_kind (Char chp) = None
stk_of_kind (Other stk upxes) = Some stk

abbrev pub upxes_of_kind : Kind → Option (List (List ℕ))
upxes_of_kind (Para pap chp) = None
upxes_of_kind (Char chp) = None
upxes_of_kind (Other stk upxes) = Some upxes

abbrev pub lists_json : List (List ℕ) → Data
lists_json lists = array (items_of (map bytes_json lists))

-- a style
abbrev pub style_members : Style → Members
style_members style =
    member (codes "base") (base_json style.base)
    (member_if (codes "char") (option_map properties_json (chp_of_kind style.kind))
    (member (codes "flags") (number_json style.flags)
    (member (codes "grfstd") (number_json style.grfstd)
    (member (codes "name") (units_json style.name)
    (member (codes "next") (number_json style.next)
    (member_if (codes "par") (option_map properties_json (pap_of_kind style.kind))
    (member (codes "sti") (number_json style.sti)
    (member_if (codes "stk") (option_map number_json (stk_of_kind style.kind))
    (member_if (codes "upxes") (option_map lists_json (upxes_of_kind style.kind)) no_members)))))))))

abbrev pub style_json : Style → Data
style_json style = object (style_members style)

-- a slot
abbrev pub slot_json : Option Style → Data
slot_json None = null
slot_json (Some style) = style_json style

-- the numbers of the header
abbrev pub numbers_json : List ℕ → Data
numbers_json numbers = array (items_of (map number_json numbers))

-- the slots of a sheet
abbrev pub slots_json : List (Option Style) → Data
slots_json slots = array (items_of (map slot_json slots))

abbrev pub sheet_json : Sheet → Data
sheet_json sheet =
    object (member (codes "head") (numbers_json sheet.head)
    (member (codes "styles") (slots_json sheet.styles) no_members))
