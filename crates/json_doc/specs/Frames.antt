-- The text of a member behind others, where it is there, and the piece of units that have something in common.
use Rattle.std.specs.Prelude.{ℕ, List, [], ◌∷◌, ◌++◌, Option, Some, None}
use Rattle.json.specs.Print.{quoted}
use Rattle.serde_json.specs.Data.{Data}
use Rattle.serde_json.specs.Written.{compact_text}
use Rattle.prop_map.specs.Settings.{Properties}
use Rattle.doc_columns.specs.declared.attached.Attached.{Attached}
use Rattle.json_doc.specs.declared.pieces.Piece.{Piece}

-- a comma, the key, a colon and the value, where there is one
abbrev pub later_text : List ℕ → Option Data → List ℕ
later_text key None = []
later_text key (Some value) = 44 ∷ (quoted key ++ 58 ∷ compact_text value)

-- units with the same properties and the same beside them
abbrev pub piece_with : Properties → Attached → List ℕ → Piece
piece_with chp attached units = record {
  chp = chp;
  fld = attached.fld;
  mark = attached.mark;
  note = attached.note;
  units = units;
  sect = attached.sect;
}
