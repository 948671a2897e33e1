-- What the values of a text are read as: its pieces, and the items of these.
use Rattle.std.specs.Prelude.{◌≡◌, ◌≢◌, ℕ, ◌+◌, ◌≤◌, ◌<◌, ◌^◌, ◌||◌, Bool, true, false, List, ◌++◌, length, map}
use Rattle.std.specs.Prelude.{codes, not, ◌&&◌}
use Rattle.std.specs.Prelude.{bytes_eq}
use Rattle.std.specs.Prelude.{Option, Some, None, is_some, if◌then◌else◌}
use Rattle.std.specs.Option.{ForSome}
use Rattle.serde_json.specs.Data.{Data}
use Rattle.serde_json.specs.Find.{as_object, as_str}
use Rattle.edit_script.specs.Json.{◌>>=◌}
use Rattle.edit_script.specs.Values.{byte_number, short_number, properties_of}
use Rattle.prop_map.specs.Formed.{IsPropertyMap, character_groups, paragraph_groups, section_groups}
use Rattle.doc_model.specs.declared.item.Item.{Item}
use Rattle.doc_model.specs.declared.item.Mark.{Mark}
use Rattle.doc_model.specs.declared.item.NoteKind.{NoteKind}
use Rattle.doc_model.specs.declared.item.NoteKind.TheVariants.{Auto, Custom}
use Rattle.doc_model.specs.Settings.{same_properties}
use Rattle.doc_model.specs.Stretches.{goes_over}
use Rattle.json_values.specs.Digits.{hex_units_of, AreUnits}
use Rattle.json_values.specs.Rows.{need, may, no_member_left}
use Rattle.json_doc.specs.declared.pieces.Piece.{Piece}
use Rattle.json_doc.specs.Pieces.{is_one_piece, piece_json}

abbrev pub mark_of : Data → Option Mark
mark_of value = do
  start ← as_object value
  pap ← need (codes "p") properties_of start
  istd ← need (codes "s") short_number pap.1
  end ← no_member_left istd.1
  Some (record { istd = istd.0; pap = pap.0 })

abbrev pub note_with_name : List ℕ → Option NoteKind
note_with_name word =
    if bytes_eq word (codes "auto") then Some Auto else
    if bytes_eq word (codes "custom") then Some Custom else None

abbrev pub note_kind_of : Data → Option NoteKind
note_kind_of value = as_str value >>= note_with_name

abbrev pub piece_of : Data → Option Piece
piece_of value = do
  start ← as_object value
  chp ← need (codes "c") properties_of start
  fld ← may (codes "f") byte_number chp.1
  mark ← may (codes "m") mark_of fld.1
  note ← may (codes "n") note_kind_of mark.1
  units ← need (codes "t") hex_units_of note.1
  sect ← may (codes "x") properties_of units.1
  end ← no_member_left sect.1
  Some (record { chp = chp.0; fld = fld.0; mark = mark.0; note = note.0; units = units.0; sect = sect.0 })

-- the piece has something beside its properties
abbrev pub is_special_piece : Piece → Bool
is_special_piece piece =
    is_some piece.mark || (is_some piece.sect || (is_some piece.fld || is_some piece.note))

-- each map has codes of its place's groups, and a special piece has one unit, another one unit at least
pub record IsValidPiece (piece : Piece) : Type 0 where
  pub chp : IsPropertyMap character_groups piece.chp
  pub pap : ForSome piece.mark (λ mark. IsPropertyMap paragraph_groups mark.pap)
  pub sect : ForSome piece.sect (IsPropertyMap section_groups)
  pub some : 1 ≤ length piece.units
  pub alone : is_special_piece piece ≡ true → length piece.units ≤ 1

-- the numbers have the bits that a file gives them
pub record HasPieceNumbers (piece : Piece) : Type 0 where
  pub units : AreUnits piece.units
  pub style : ForSome piece.mark (λ mark. mark.istd < 2 ^ 16)
  pub field : ForSome piece.fld (λ byte. byte < 2 ^ 8)

-- both
abbrev pub IsFormedPiece : Piece → Type 0
IsFormedPiece piece = IsValidPiece piece × HasPieceNumbers piece

-- the item of a unit
abbrev pub item_with : Piece → ℕ → Item
item_with piece unit = record {
  unit = unit;
  chp = piece.chp;
  mark = piece.mark;
  sect = piece.sect;
  fld = piece.fld;
  note = piece.note;
}

abbrev pub piece_items : Piece → List Item
piece_items piece = map (item_with piece) piece.units

-- behind these items the value of a piece was read, its items follow, and the last of the others does not join them
pub record IsPieceAdded (value : Data) (old new : List Item) : Type 0 where
  pub piece : Piece
  pub read : piece_of value ≡ Some piece
  pub formed : IsFormedPiece piece
  pub apart : goes_over is_one_piece old (piece_items piece) ≡ false
  pub grown : new ≡ old ++ piece_items piece

-- the items of a piece may follow these
pub record MayFollow (old : List Item) (piece : Piece) : Type 0 where
  pub apart : goes_over is_one_piece old (piece_items piece) ≡ false
  pub room : length old + length piece.units < 2 ^ 32

-- no formed piece that may follow these items has the value
abbrev pub IsNoPiece : Data → List Item → Type 0
IsNoPiece value old =
    (piece : Piece) → IsFormedPiece piece → MayFollow old piece → value ≢ piece_json piece

-- the items of a piece join those of another
abbrev pub are_joined : Piece → Piece → Bool
are_joined piece next =
    not (is_special_piece piece) && (not (is_special_piece next) && same_properties piece.chp next.chp)

-- those of the last piece, where there is one
abbrev pub joins_last_piece : Option Piece → Piece → Bool
joins_last_piece None next = false
joins_last_piece (Some last) next = are_joined last next

-- the last piece tells whether these items go on in another one
abbrev pub EndsByPiece : List Item → Option Piece → Type 0
EndsByPiece text last =
    (piece : Piece) → 1 ≤ length piece.units →
    goes_over is_one_piece text (piece_items piece) ≡ joins_last_piece last piece
