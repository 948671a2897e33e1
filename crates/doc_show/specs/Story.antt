-- The lines that show a text: its paragraphs, and in each the stretches of items with one format.
use Rattle.std.specs.Prelude.{ℕ, ◌-◌, Bool, false, not, ◌&&◌, is_some, List, [], ◌∷◌, ◌++◌, length, map, Option, Some}
use Rattle.std.specs.Prelude.{None, slice_get, codes}
use Rattle.std.specs.List.{flat_map}
use Rattle.std.specs.Fmt.{decimal}
use Rattle.text_codes.specs.Shown.{line, shown_text}
use Rattle.prop_map.specs.Settings.{Properties}
use Rattle.doc_model.specs.declared.item.Item.{Item}
use Rattle.doc_model.specs.declared.item.Mark.{Mark}
use Rattle.doc_model.specs.declared.item.NoteKind.{NoteKind}
use Rattle.doc_model.specs.declared.item.NoteKind.TheVariants.{Auto, Custom}
use Rattle.doc_model.specs.Stretches.{stretches}
use Rattle.doc_model.specs.Settings.{same_properties, is_inside}
use Rattle.text_codes.specs.Digits.{byte_text}
use Rattle.doc_show.specs.Settings.{properties_text}

-- an item that is no field character and no reference
abbrev pub is_plain_item : Item → Bool
is_plain_item item = not (is_some item.fld) && not (is_some item.note)

-- the next item is of the same run
abbrev pub is_one_run : Item → Item → Bool
is_one_run item next = is_plain_item item && (is_plain_item next && same_properties item.chp next.chp)

-- what is before the properties of an item
abbrev pub note_word : Option NoteKind → List ℕ
note_word None = codes "run"
note_word (Some Auto) = codes "note auto"
note_word (Some Custom) = codes "note custom"

abbrev pub item_word : Option ℕ → Option NoteKind → List ℕ
item_word (Some byte) other = codes "fld " ++ byte_text byte
item_word None reference = note_word reference

-- the line of a run, a field character or a reference
abbrev pub run_line : List Item → List ℕ
run_line [] = []
run_line (item ∷ more) =
    line (item_word item.fld item.note ++ (properties_text item.chp
    ++ (codes " | " ++ shown_text false (map (λ i. i.unit) (item ∷ more)))))

-- the line of a paragraph's mark
abbrev pub mark_line : Option Mark → List ℕ
mark_line None = []
mark_line (Some mark) = line (codes "mark " ++ (decimal mark.istd ++ properties_text mark.pap))

-- the line of a section
abbrev pub sect_line : Option Properties → List ℕ
sect_line None = []
sect_line (Some sect) = line (codes "sect" ++ properties_text sect)

-- what the last item of a paragraph says
abbrev pub line_of_mark : Option Item → List ℕ
line_of_mark None = []
line_of_mark (Some item) = mark_line item.mark

abbrev pub line_of_sect : Option Item → List ℕ
line_of_sect None = []
line_of_sect (Some item) = sect_line item.sect

-- a paragraph: its mark, its runs, and the section that ends with it
abbrev pub paragraph_lines : List Item → List ℕ
paragraph_lines items =
    let last = slice_get items (length items - 1) in
    line_of_mark last ++ (flat_map run_line (stretches is_one_run items) ++ line_of_sect last)

-- the paragraphs of a text
abbrev pub story_lines : List Item → List ℕ
story_lines items = flat_map paragraph_lines (stretches is_inside items)
