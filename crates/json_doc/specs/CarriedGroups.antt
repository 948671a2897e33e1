-- The fields of what is carried, in groups of keys.
use Rattle.std.specs.Prelude.{◌≡◌, codes, Option, Some, None}
use Rattle.serde_json.specs.Data.{Data, Members}
use Rattle.edit_script.specs.Json.{◌>>=◌}
use Rattle.edit_script.specs.Values.{bytes_of, short_number}
use Rattle.json_values.specs.Rows.{taken, need, no_member_left}
use Rattle.json_doc.specs.declared.carried_reading.CarriedFields.{CarriedFields}
use Rattle.json_doc.specs.declared.carried_reading.CarriedFront.{CarriedFront}
use Rattle.json_doc.specs.declared.carried_reading.CarriedBack.{CarriedBack}

-- the fields of both groups
abbrev pub fields_with : CarriedFront → CarriedBack → CarriedFields
fields_with front back = record {
  assoc = front.assoc;
  clsid = front.clsid;
  dop = front.dop;
  flags = front.flags;
  fonts = front.fonts;
  levels = back.levels;
  lfo = back.lfo;
  lid = back.lid;
  lid_fe = back.lid_fe;
  lst = back.lst;
}

-- what is made of both groups and the members behind them
abbrev pub behind_back : CarriedFront → CarriedBack → Members → Option (CarriedFields × Data)
behind_back front back members = do
  streams ← taken (codes "streams") members
  end ← no_member_left streams.1
  Some (fields_with front back, streams.0)

-- what is made of the first group and the members behind it
abbrev pub behind_front : CarriedFront → Members → Option (CarriedFields × Data)
behind_front front members = do
  levels ← need (codes "levels") bytes_of members
  lfo ← need (codes "lfo") bytes_of levels.1
  lid ← need (codes "lid") short_number lfo.1
  lid_fe ← need (codes "lidfe") short_number lid.1
  lst ← need (codes "lst") bytes_of lid_fe.1
  behind_back front
      (record { levels = levels.0; lfo = lfo.0; lid = lid.0; lid_fe = lid_fe.0; lst = lst.0 })
      lst.1

-- the fields of the members of an object, and the value that has the streams
abbrev pub carried_row : Members → Option (CarriedFields × Data)
carried_row members = do
  assoc ← need (codes "assoc") bytes_of members
  clsid ← need (codes "clsid") bytes_of assoc.1
  dop ← need (codes "dop") bytes_of clsid.1
  flags ← need (codes "flags") short_number dop.1
  fonts ← need (codes "fonts") bytes_of flags.1
  behind_front
      (record { assoc = assoc.0; clsid = clsid.0; dop = dop.0; flags = flags.0; fonts = fonts.0 })
      fonts.1

-- the members have this second group, and others behind it
abbrev pub IsBackGroup : Members → CarriedBack → Members → Type 0
IsBackGroup members back more =
    (front : CarriedFront) → behind_front front members ≡ behind_back front back more

-- the members have no second group
abbrev pub IsNoBack : Members → Type 0
IsNoBack members = (front : CarriedFront) → behind_front front members ≡ None

-- the members are one, which has this value of the streams
abbrev pub IsLast : Members → Data → Type 0
IsLast members streams =
    (front : CarriedFront) (back : CarriedBack) →
    behind_back front back members ≡ Some (fields_with front back, streams)

-- the members are others
abbrev pub IsNoLast : Members → Type 0
IsNoLast members = (front : CarriedFront) (back : CarriedBack) → behind_back front back members ≡ None
