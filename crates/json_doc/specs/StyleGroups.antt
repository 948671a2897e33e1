-- What the keys of a style have, in two groups.
use Rattle.std.specs.Prelude.{◌≡◌, codes, Option, Some, None}
use Rattle.serde_json.specs.Data.{Members}
use Rattle.edit_script.specs.Json.{◌>>=◌}
use Rattle.edit_script.specs.Values.{bytes_of, byte_number, short_number, properties_of}
use Rattle.style_sheet.specs.declared.styles.Style.{Style}
use Rattle.json_values.specs.Digits.{hex_units_of}
use Rattle.json_values.specs.Rows.{need, may, no_member_left}
use Rattle.json_doc.specs.StyleReading.{list_as, base_of, kind_of_parts}
use Rattle.json_doc.specs.declared.style_reading.StyleFront.{StyleFront}
use Rattle.json_doc.specs.declared.style_reading.StyleBack.{StyleBack}

-- the style of both groups
abbrev pub style_with : StyleFront → StyleBack → Option Style
style_with front back = do
  kind ← kind_of_parts front.chp back.pap back.stk back.upxes
  Some (record {
    sti = back.sti;
    flags = front.flags;
    base = front.base;
    next = back.next;
    grfstd = front.grfstd;
    name = front.name;
    kind = kind;
  })

-- the style of the first group and the members behind it
abbrev pub made_behind : StyleFront → Members → Option Style
made_behind front members = do
  next ← need (codes "next") short_number members
  pap ← may (codes "par") properties_of next.1
  sti ← need (codes "sti") short_number pap.1
  stk ← may (codes "stk") byte_number sti.1
  upxes ← may (codes "upxes") (list_as bytes_of) stk.1
  end ← no_member_left upxes.1
  style_with front (record { next = next.0; pap = pap.0; sti = sti.0; stk = stk.0; upxes = upxes.0 })

-- the style of the members of an object
abbrev pub style_row : Members → Option Style
style_row members = do
  base ← need (codes "base") base_of members
  chp ← may (codes "char") properties_of base.1
  flags ← need (codes "flags") byte_number chp.1
  grfstd ← need (codes "grfstd") short_number flags.1
  name ← need (codes "name") hex_units_of grfstd.1
  made_behind
      (record { base = base.0; chp = chp.0; flags = flags.0; grfstd = grfstd.0; name = name.0 })
      name.1

-- the members have this second group, and others behind it
abbrev pub IsMadeBehind : Members → StyleBack → Members → Type 0
IsMadeBehind members back more =
    (front : StyleFront) → made_behind front members ≡ (no_member_left more >>= λ end. style_with front back)

-- the members have no second group
abbrev pub IsNoneBehind : Members → Type 0
IsNoneBehind members = (front : StyleFront) → made_behind front members ≡ None
