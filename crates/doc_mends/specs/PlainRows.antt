-- Rows that break rule 63 become paragraphs: their cells and their own marks end paragraphs, and no mark in them has
-- properties of tables.
use Rattle.std.specs.Prelude.{ℕ, ◌+◌, ◌==◌, Bool, ◌||◌, List, [], ◌∷◌, map, filter, option_map, if◌then◌else◌}
use Rattle.std.specs.List.{fold}
use Rattle.std.specs.FinMap.{entries}
use Rattle.doc_bits.specs.declared.places.Story.TheVariants.{Main}
use Rattle.text_codes.specs.Paragraph.{paragraph_mark, cell_mark}
use Rattle.sprm_table.specs.Codes.{sgc, is_code_among}
use Rattle.prop_map.specs.Settings.{Properties}
use Rattle.prop_map.specs.Overlay.{without}
use Rattle.doc_model.specs.declared.item.Item.{Item}
use Rattle.doc_model.specs.declared.item.Mark.{Mark}
use Rattle.doc_model.specs.declared.document.Document.{Document}
use Rattle.doc_patch.specs.Changes.{map_range}
use Rattle.doc_mends.specs.declared.mends.BrokenRow.{BrokenRow}
use Rattle.doc_mends.specs.BrokenRows.{text_broken_rows}

-- [MS-DOC] sprmPFInTable, sprmPFTtp, sprmPFInnerTableCell, sprmPFInnerTtp, sprmPItap, sprmPDtap: a paragraph in a table
abbrev pub paragraph_codes : List ℕ
paragraph_codes = 0x2416 ∷ 0x2417 ∷ 0x244B ∷ 0x244C ∷ 0x6649 ∷ 0x664A ∷ []

-- these, and all codes of tables
abbrev pub is_table_code : ℕ → Bool
is_table_code code = sgc code == 5 || is_code_among code paragraph_codes

-- those of a map
abbrev pub table_codes : Properties → List ℕ
table_codes pap = filter is_table_code (map (λ prl. prl.0) (entries pap))

-- the map without them
abbrev pub plain_pap : Properties → Properties
plain_pap pap = without (table_codes pap) pap

abbrev pub plain_mark : Mark → Mark
plain_mark mark = record mark { pap = plain_pap mark.pap }

abbrev pub plain_unit : ℕ → ℕ
plain_unit unit = if unit == cell_mark then paragraph_mark else unit

abbrev pub plain_item : Item → Item
plain_item item = record item { unit = plain_unit item.unit; mark = option_map plain_mark item.mark }

-- a text of which a row becomes paragraphs
abbrev pub row_plain : List Item → BrokenRow → List Item
row_plain text row = map_range plain_item text row.from (row.from + row.len)

-- of which several rows do
abbrev pub rows_plain : List BrokenRow → List Item → List Item
rows_plain rows text = fold row_plain text rows

-- of which those do that break the rule
abbrev pub plain_text : List Item → List Item
plain_text text = rows_plain (text_broken_rows Main text) text

-- the document whose rows that break the rule became paragraphs
abbrev pub with_plain_rows : Document → Document
with_plain_rows document = record document {
  main = plain_text document.main;
  notes = map plain_text document.notes;
  heads = map plain_text document.heads;
}
