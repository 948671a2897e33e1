-- Texts as arrays of pieces: an item with a mark, a section, a field byte or a note is one, and so are all that are
-- beside one another without these and have the same properties.
use Rattle.std.specs.Prelude.{◌&&◌, not, Bool, List, [], ◌∷◌, map, codes}
use Rattle.std.specs.Prelude.{option_map}
use Rattle.serde_json.specs.Data.{Data, null, string, array, object, Members, no_members, member}
use Rattle.serde_json.specs.View.{items_of}
use Rattle.doc_model.specs.declared.item.Item.{Item}
use Rattle.doc_model.specs.declared.item.Mark.{Mark}
use Rattle.doc_model.specs.declared.item.NoteKind.{NoteKind}
use Rattle.doc_model.specs.declared.item.NoteKind.TheVariants.{Auto, Custom}
use Rattle.doc_model.specs.Settings.{same_properties}
use Rattle.doc_model.specs.Stretches.{stretches}
use Rattle.doc_columns.specs.Specials.{is_special_item}
use Rattle.json_values.specs.Digits.{units_json}
use Rattle.json_values.specs.Settings.{properties_json}
use Rattle.json_values.specs.Rows.{number_json, member_if}
use Rattle.json_doc.specs.declared.pieces.Piece.{Piece}

-- the next item is of the same piece
abbrev pub is_one_piece : Item → Item → Bool
is_one_piece item next = not (is_special_item item) && (not (is_special_item next) && same_properties item.chp next.chp)

-- the style number and the properties of a mark
abbrev pub mark_json : Mark → Data
mark_json mark =
    object (member (codes "p") (properties_json mark.pap) (member (codes "s") (number_json mark.istd) no_members))

-- how a note is numbered
abbrev pub note_json : NoteKind → Data
note_json Auto = string (codes "auto")
note_json Custom = string (codes "custom")

-- the properties and the units of a piece, and where there are such its field byte, mark, note and section properties
abbrev pub piece_members : Piece → Members
piece_members piece =
    member (codes "c") (properties_json piece.chp)
    (member_if (codes "f") (option_map number_json piece.fld)
    (member_if (codes "m") (option_map mark_json piece.mark)
    (member_if (codes "n") (option_map note_json piece.note)
    (member (codes "t") (units_json piece.units)
    (member_if (codes "x") (option_map properties_json piece.sect) no_members)))))

abbrev pub piece_json : Piece → Data
piece_json piece = object (piece_members piece)

-- the piece of an item and those behind it that differ in their units alone
abbrev pub piece_from : Item → List Item → Piece
piece_from item more = record {
  chp = item.chp;
  fld = item.fld;
  mark = item.mark;
  note = item.note;
  units = item.unit ∷ map (λ next. next.unit) more;
  sect = item.sect;
}

-- a stretch of items, which is never empty
abbrev pub stretch_json : List Item → Data
stretch_json [] = null
stretch_json (item ∷ more) = piece_json (piece_from item more)

-- a text
abbrev pub text_json : List Item → Data
text_json text = array (items_of (map stretch_json (stretches is_one_piece text)))

-- the notes or the header texts
abbrev pub texts_json : List (List Item) → Data
texts_json texts = array (items_of (map text_json texts))
