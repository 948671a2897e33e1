-- The line of units whose items have the same properties.
use Rattle.std.specs.Prelude.{ℕ, Bool, false, not, ◌&&◌, is_some, List, ◌++◌, codes}
use Rattle.text_codes.specs.Shown.{shown_text}
use Rattle.prop_map.specs.Settings.{Properties}
use Rattle.doc_columns.specs.declared.attached.Attached.{Attached}
use Rattle.doc_show.specs.Settings.{properties_text}
use Rattle.text_codes.specs.Shown.{line}
use Rattle.doc_show.specs.Story.{item_word}

-- no field character and no reference
abbrev pub is_unattached : Attached → Bool
is_unattached attached = not (is_some attached.fld) && not (is_some attached.note)

-- the line of units whose items have the same properties and begin with what is beside
abbrev pub alike_line : Attached → Properties → List ℕ → List ℕ
alike_line attached chp units =
    line (item_word attached.fld attached.note ++ (properties_text chp ++ (codes " | " ++ shown_text false units)))
