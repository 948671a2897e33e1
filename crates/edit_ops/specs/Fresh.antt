-- The items that commands put.
use Rattle.std.specs.Prelude.{ℕ, ◌+◌, ◌*◌, ◌==◌, if◌then◌else◌, Bool, not, ◌||◌, List, [], ◌∷◌, ◌++◌, Option, Some}
use Rattle.std.specs.Prelude.{None, length, map, replicate, slice_get}
use Rattle.std.specs.List.{flat_map, range_with_len}
use Rattle.std.specs.FinMap.{empty, insert, retain_keys}
use Rattle.doc_bits.specs.Number.{number_bytes}
use Rattle.sprm_table.specs.Codes.{sgc}
use Rattle.prop_map.specs.Settings.{Properties}
use Rattle.prop_map.specs.Overlay.{without, overlay}
use Rattle.text_codes.specs.Paragraph.{paragraph_mark, cell_mark, section_mark}
use Rattle.doc_model.specs.declared.item.Item.{Item}
use Rattle.doc_model.specs.declared.item.Mark.{Mark}
use Rattle.doc_model.specs.declared.item.NoteKind.TheVariants.{Auto}
use Rattle.doc_patch.specs.Places.{paragraph_mark_at, section_around}

-- [MS-DOC] sprmCFSpec, sprmCFData and sprmCPicLocation
abbrev pub special_codes : List ℕ
special_codes = 0x0855 ∷ 0x0806 ∷ 0x6A03 ∷ []

abbrev pub base_of_item : Option Item → Properties
base_of_item None = empty
base_of_item (Some item) = without special_codes item.chp

-- Profile: base properties: those of the item at the place, without what makes a unit special
abbrev pub base_properties : List Item → ℕ → Properties
base_properties text at = base_of_item (slice_get text at)

-- the properties, of a special unit
abbrev pub special : Properties → Properties
special base = insert base 0x0855 (1 ∷ [])

-- a unit with these properties and nothing beside them
abbrev pub unit_item : Properties → ℕ → Item
unit_item chp unit = record { unit = unit; fld = None; note = None; chp = chp; mark = None; sect = None }

abbrev pub unit_items : Properties → List ℕ → List Item
unit_items chp units = map (unit_item chp) units

-- a unit with a mark
abbrev pub mark_item : Properties → ℕ → Mark → Item
mark_item chp unit mark = record (unit_item chp unit) { mark = Some mark }

-- a mark of style 0
abbrev pub mark_with : Properties → Mark
mark_with pap = record { istd = 0; pap = pap }

-- a paragraph mark of style 0 without properties
abbrev pub plain_end : Item
plain_end = mark_item empty paragraph_mark (mark_with empty)

-- the units with base properties; in an empty header text they have none, and two paragraph marks follow them
abbrev pub inserted_items : List Item → ℕ → List ℕ → List Item
inserted_items text at units =
    if length text == 0 then unit_items empty units ++ plain_end ∷ plain_end ∷ []
    else unit_items (base_properties text at) units

-- [MS-DOC] Fld: a field character with its byte
abbrev pub field_mark : Properties → ℕ → ℕ → Item
field_mark base unit byte = record (unit_item (special base) unit) { fld = Some byte }

-- a field of the type: its begin, its code, its separator, its result, its end
abbrev pub field_items : Properties → ℕ → List ℕ → List ℕ → List Item
field_items base type code result =
    field_mark base 0x13 type ∷ unit_items base code
    ++ (field_mark base 0x14 0xFF ∷ unit_items base result
    ++ field_mark base 0x15 0x80 ∷ [])

-- the reference to a note that is numbered by itself
abbrev pub note_reference : Properties → Item
note_reference base = record (unit_item (special base) 0x02) { note = Some Auto }

-- the text of a note: the unit that shows its number, the units, a paragraph mark
abbrev pub note_items : List ℕ → List Item
note_items units = unit_item (special empty) 0x02 ∷ unit_items empty units ++ plain_end ∷ []

-- sprmPFTtp and the codes of tables, which no paragraph that is split off keeps
abbrev pub is_row_code : ℕ → Bool
is_row_code code = code == 0x2417 || sgc code == 5

-- the mark of a paragraph that is split off one with this mark
abbrev pub split_mark : Option Mark → Mark
split_mark None = mark_with empty
split_mark (Some mark) = record mark { pap = retain_keys mark.pap (λ code. not (is_row_code code)) }

-- the paragraph mark that splits the paragraph that holds the place
abbrev pub split_item : List Item → ℕ → Item
split_item text at = mark_item (base_properties text at) paragraph_mark (split_mark (paragraph_mark_at text at))

abbrev pub properties_over : Properties → Option Properties → Properties
properties_over set None = set
properties_over set (Some base) = overlay set base

-- the mark that ends a section before the place: its properties are those of the section that holds the place, changed
abbrev pub section_item : List Item → ℕ → Properties → Item
section_item main at set = record (mark_item (base_properties main at) section_mark (split_mark (paragraph_mark_at main
    at))) {
      sect = Some (properties_over set (section_around main at));
    }

-- [MS-DOC] sprmPFInTable
abbrev pub cell_properties : Properties
cell_properties = insert empty 0x2416 (1 ∷ [])

-- where cells begin, and where the last one ends, in twips
abbrev pub row_edges : ℕ → ℕ → List ℕ
row_edges cells width = map (λ edge. edge * width) (range_with_len 0 (cells + 1))

-- [MS-DOC] TDefTableOperand without its count: the number of cells, their edges, and an empty TC80 of 20 bytes a cell
abbrev pub row_definition : ℕ → ℕ → List ℕ
row_definition cells width =
    cells ∷ flat_map (number_bytes 2) (row_edges cells width) ++ replicate (20 * cells) 0

-- [MS-DOC] sprmPFInTable, sprmPFTtp and sprmTDefTable
abbrev pub row_properties : ℕ → ℕ → Properties
row_properties cells width = insert (insert cell_properties 0x2417 (1 ∷ [])) 0xD608 (row_definition cells width)

-- the text of a cell and its mark
abbrev pub cell_items : List ℕ → List Item
cell_items units = unit_items empty units ++ mark_item empty cell_mark (mark_with cell_properties) ∷ []

-- a row: its cells, and the mark that ends it
abbrev pub row_items : ℕ → List (List ℕ) → List Item
row_items width cells =
    flat_map cell_items cells ++ mark_item empty cell_mark (mark_with (row_properties (length cells) width)) ∷ []
