-- The places in the stream `Data` that the characters of a document name.
use Rattle.std.specs.Prelude.{ℕ, ◌==◌, List, ◌++◌, Option, None, if◌then◌else◌}
use Rattle.std.specs.List.{filter_map, flat_map}
use Rattle.char_formats.specs.Locations.{location_in}
use Rattle.doc_model.specs.declared.item.Item.{Item}
use Rattle.doc_model.specs.declared.document.Document.{Document}

-- [MS-DOC] the character of a picture is 0x01
abbrev pub picture_place : Item → Option ℕ
picture_place item = if item.unit == 0x01 then location_in item.chp else None

abbrev pub places_in : List Item → List ℕ
places_in items = filter_map picture_place items

-- Profile: of all its texts, and whether they are shown or not
abbrev pub picture_places : Document → List ℕ
picture_places document =
    places_in document.main ++ (flat_map places_in document.notes ++ flat_map places_in document.heads)
