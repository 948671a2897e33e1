-- The marks of rows that get the cells that the stream Data has for them.
use Rattle.std.specs.Prelude.{◌≡◌, ℕ, ◌+◌, Bool, false, ◌&&◌, ◌||◌, not, List, [], ◌∷◌, ◌++◌, length, drop, nat_le}
use Rattle.std.specs.Prelude.{Option, Some, None, is_some, slice_get, slice_index_or, if◌then◌else◌}
use Rattle.std.specs.Option.{ForSome, option_and_then, unwrap_or}
use Rattle.std.specs.List.{filter_map, flat_map}
use Rattle.std.specs.FinMap.{empty, insert}
use Rattle.doc_bits.specs.declared.places.Story.{Story}
use Rattle.doc_bits.specs.declared.places.Story.TheVariants.{Main}
use Rattle.doc_parts.specs.Tabulated.{tabulate}
use Rattle.prop_map.specs.declared.modifiers.Modifier.{Modifier}
use Rattle.prop_map.specs.Formed.{IsPropertyMap, paragraph_groups}
use Rattle.prop_map.specs.Settings.{Properties}
use Rattle.prop_map.specs.Overlay.{modified_paragraph}
use Rattle.prop_map.specs.Printing.{printed_list}
use Rattle.doc_model.specs.declared.item.Item.{Item}
use Rattle.doc_model.specs.declared.item.Mark.{Mark}
use Rattle.doc_model.specs.declared.document.Document.{Document}
use Rattle.plain_doc.specs.declared.rules_texts.Side.{Side}
use Rattle.plain_doc.specs.declared.rules_texts.Side.TheVariants.{Notes, Heads}
use Rattle.plain_doc.specs.Rows.{mark_value_in, is_byte_one}
use Rattle.doc_patch.specs.Modifiers.{property_paragraphs}
use Rattle.doc_mends.specs.Sides.{side_name}
use Rattle.deleted_text.specs.declared.ranges.StoryBegins.{StoryBegins}
use Rattle.deleted_text.specs.Ranges.{items_before}
use Rattle.huge_papx.specs.declared.definitions.RowDefinition.{RowDefinition}
use Rattle.huge_papx.specs.declared.rows.DefinedRow.{DefinedRow}

-- [MS-DOC] sprmPFInTable, sprmPFTtp, sprmTDefTable: the end of a row with these cells
abbrev pub row_set : List ℕ → Properties
row_set cells = insert (insert (insert empty 0x2416 (1 ∷ [])) 0x2417 (1 ∷ [])) 0xD608 cells

abbrev pub defining : List ℕ → Modifier
defining cells = property_paragraphs (row_set cells)

-- the properties are of paragraphs
abbrev pub HasParagraphMap : Option Mark → Type 0
HasParagraphMap mark = ForSome mark (λ mark. IsPropertyMap paragraph_groups mark.pap)

-- the properties of the mark fit a page with these cells
abbrev pub is_short_pap : Properties → List ℕ → Bool
is_short_pap pap cells =
    nat_le (length cells) 480 && nat_le (length (printed_list (modified_paragraph (defining cells) pap))) 480

abbrev pub is_short_mark : Option Mark → List ℕ → Bool
is_short_mark None cells = false
is_short_mark (Some mark) cells = is_short_pap mark.pap cells

-- the mark ends a row, as it says itself or as Data says, and has no cells of its own
abbrev pub lacks_cells : Option Mark → RowDefinition → Bool
lacks_cells mark definition =
    (definition.ends_row || is_byte_one (mark_value_in mark 0x2417)) && not (is_some (mark_value_in mark 0xD608))

-- it gets those of a definition
abbrev pub takes_cells : Option Mark → RowDefinition → Bool
takes_cells mark definition = lacks_cells mark definition && is_short_mark mark definition.cells

abbrev pub row_with : Story → ℕ → Option Mark → RowDefinition → Option DefinedRow
row_with story at mark definition =
    if takes_cells mark definition then Some (record { story = story; at = at; cells = definition.cells }) else None

abbrev pub item_mark_at : List Item → ℕ → Option Mark
item_mark_at text at = option_and_then (λ item. item.mark) (slice_get text at)

abbrev pub defined_row_at : Story → List (Option RowDefinition) → List Item → ℕ → Option DefinedRow
defined_row_at story definitions text at =
    option_and_then (row_with story at (item_mark_at text at)) (slice_index_or definitions at None)

-- those of a text
abbrev pub text_rows : Story → List (Option RowDefinition) → List Item → List DefinedRow
text_rows story definitions text = filter_map (λ row. row) (tabulate (defined_row_at story definitions text) (length
    text))

-- those of the notes, or of the header texts: each text begins where the one before it ends
abbrev pub texts_rows : Side → List (Option RowDefinition) → List (List Item) → List DefinedRow
texts_rows side definitions texts =
    flat_map (λ rows. rows)
    (tabulate (λ number. text_rows (side_name side number) (drop (items_before texts number) definitions)
    (unwrap_or (slice_get texts number) [])) (length texts))

-- those of a document
abbrev pub document_rows : StoryBegins → List (Option RowDefinition) → Document → List DefinedRow
document_rows begins definitions document =
    text_rows Main definitions document.main
    ++ (texts_rows Notes (drop begins.notes definitions) document.notes
    ++ texts_rows Heads (drop begins.heads definitions) document.heads)
