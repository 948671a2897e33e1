-- What a document carries along unread: parts and the CLSID as bytes, three numbers, and the streams, each a name and
-- bytes.
use Rattle.std.specs.Prelude.{List, map, codes}
use Rattle.serde_json.specs.Data.{Data, array, object, no_items, item, Members, no_members, member}
use Rattle.serde_json.specs.View.{items_of}
use Rattle.cfb_streams.specs.Contents.{NamedBytes}
use Rattle.doc_model.specs.declared.carried.Carried.{Carried}
use Rattle.json_values.specs.Digits.{bytes_json, units_json}
use Rattle.json_values.specs.Rows.{number_json}

-- a stream
abbrev pub stream_json : NamedBytes → Data
stream_json stream = array (item (units_json stream.name) (item (bytes_json stream.bytes) no_items))

abbrev pub streams_json : List NamedBytes → Data
streams_json streams = array (items_of (map stream_json streams))

abbrev pub carried_members : Carried → Members
carried_members carried =
    member (codes "assoc") (bytes_json carried.assoc)
    (member (codes "clsid") (bytes_json carried.clsid)
    (member (codes "dop") (bytes_json carried.dop)
    (member (codes "flags") (number_json carried.flags)
    (member (codes "fonts") (bytes_json carried.fonts)
    (member (codes "levels") (bytes_json carried.levels)
    (member (codes "lfo") (bytes_json carried.lfo)
    (member (codes "lid") (number_json carried.lid)
    (member (codes "lidfe") (number_json carried.lid_fe)
    (member (codes "lst") (bytes_json carried.lst)
    (member (codes "streams") (streams_json carried.streams) no_members))))))))))

abbrev pub carried_json : Carried → Data
carried_json carried = object (carried_members carried)
