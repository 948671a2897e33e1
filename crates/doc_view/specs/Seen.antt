-- What is seen of the items of a text, and its paragraphs.
use Rattle.std.specs.Prelude.{ℕ, ◌+◌, ◌-◌, Bool, true, false, not, ◌&&◌, ◌||◌, ◌==◌, is_some, if◌then◌else◌}
use Rattle.std.specs.Prelude.{List, [], ◌∷◌, ◌++◌, length, Option, Some, None, slice_get}
use Rattle.std.specs.List.{count_by, filter_map, flat_map, list_any}
use Rattle.prop_map.specs.Settings.{Properties}
use Rattle.text_codes.specs.Paragraph.{cell_mark}
use Rattle.doc_model.specs.declared.item.Item.{Item}
use Rattle.doc_model.specs.declared.item.Mark.{Mark}
use Rattle.doc_model.specs.declared.item.NoteKind.{NoteKind}
use Rattle.doc_model.specs.declared.item.NoteKind.TheVariants.{Auto, Custom}
use Rattle.plain_doc.specs.RulesOfTexts.{last_unit}
use Rattle.plain_doc.specs.Rows.{mark_value_in, is_byte_one, is_row_mark}
use Rattle.doc_model.specs.Stretches.{stretches}
use Rattle.doc_model.specs.Settings.{is_inside}
use Rattle.list_numbers.specs.declared.paragraph_values.ParagraphValues.{ParagraphValues}
use Rattle.char_formats.specs.declared.format.CharFormat.{CharFormat}
use Rattle.field_links.specs.OpenFields.{is_in_results, open_fields}
use Rattle.view_places.specs.declared.glyph.Glyph.{Glyph}
use Rattle.view_places.specs.declared.glyph.Glyph.TheVariants.{NoteMark}
use Rattle.doc_view.specs.declared.reading.Front.{Front}
use Rattle.doc_view.specs.declared.reading.Manner.{Manner}
use Rattle.doc_view.specs.declared.reading.Seen.{Seen}
use Rattle.doc_view.specs.declared.reading.TextKind.{TextKind}
use Rattle.doc_view.specs.declared.reading.TextKind.TheVariants.{Main, Note, Header}
use Rattle.doc_view.specs.declared.standing.Standing.{Standing}
use Rattle.doc_view.specs.declared.standing.Standing.TheVariants.{Outside, Inside, Cell, Row, HeadRow}
use Rattle.doc_view.specs.declared.references.Reference.{Reference}
use Rattle.doc_view.specs.Glyphs.{visible_glyph}

abbrev pub is_main : TextKind → Bool
is_main Main = true
is_main Note = false
is_main Header = false

abbrev pub is_note : TextKind → Bool
is_note Main = false
is_note Note = true
is_note Header = false

abbrev pub is_header : TextKind → Bool
is_header Main = false
is_header Note = false
is_header Header = true

-- an item that refers to a note; outside of the main text none does
abbrev pub reference_kind : Manner → Option NoteKind → Option NoteKind
reference_kind manner note = if is_main manner.kind then note else None

abbrev pub is_auto_reference : Option NoteKind → Bool
is_auto_reference None = false
is_auto_reference (Some Auto) = true
is_auto_reference (Some Custom) = false

-- [MS-DOC] a note begins with 0x02, its number, and mostly a space or a tab behind it, for which its label is
abbrev pub note_unit : ℕ
note_unit = 0x02

abbrev pub is_note_unit : Option ℕ → Bool
is_note_unit None = false
is_note_unit (Some unit) = unit == note_unit

abbrev pub is_label : Bool → ℕ → Bool
is_label behind_label unit = unit == note_unit || ((unit == 0x20 || unit == 0x09) && behind_label)

-- what the items in front of one come to
abbrev pub front_of : Manner → List Item → Front
front_of manner front = record {
  in_results = is_in_results (open_fields front);
  behind_label = is_note_unit (last_unit front);
  numbered = count_by (λ item. is_auto_reference (reference_kind manner item.note)) front;
}

-- text that is shown: no code of a field, not hidden, not the label of a note
abbrev pub is_shown : Manner → CharFormat → Front → Item → Bool
is_shown manner format front item =
    not (is_some item.fld) && (front.in_results && ((manner.hidden || not format.hidden)
    && not (is_note manner.kind && is_label front.behind_label item.unit)))

-- what is visible of a reference of this kind and number, and of all else
abbrev pub visible : Option NoteKind → ℕ → Option Glyph → Option Glyph
visible None number glyph = glyph
visible (Some Auto) number glyph = Some (NoteMark number)
visible (Some Custom) number glyph = glyph

abbrev pub reference_of : Option NoteKind → ℕ → Bool → Option Reference
reference_of None number shown = None
reference_of (Some Auto) number shown = Some (record { number = Some number; is_shown = shown })
reference_of (Some Custom) number shown = Some (record { number = None; is_shown = shown })

-- in a header text what has no glyph is nothing
abbrev pub counts : TextKind → Option Glyph → Bool
counts kind glyph = is_some glyph || not (is_header kind)

-- what is seen of an item of this format behind such a front; the mark of a row is no text
abbrev pub seen_as : Manner → CharFormat → Front → Item → Seen
seen_as manner format front item =
    let shown = is_shown manner format front item in
    let kind = reference_kind manner item.note in
    let glyph = visible kind (front.numbered + 1) (visible_glyph manner.fonts format (is_some item.sect) item.unit) in
    record {
      is_shown = counts manner.kind glyph && (shown && not (is_row_mark item));
      glyph = glyph;
      reference = reference_of kind (front.numbered + 1) shown;
      format = format;
    }

-- the format of characters with some properties in a paragraph of a style
abbrev pub Formats : Type 0
Formats = ℕ → Properties → CharFormat

-- items of a paragraph of a style, behind those in front of them
unfoldable pub seen_from : Formats → Manner → ℕ → List Item → List Item → List Seen
seen_from formats manner istd front [] = []
seen_from formats manner istd front (item ∷ items) =
    seen_as manner (formats istd item.chp) (front_of manner front) item
    ∷ seen_from formats manner istd (front ++ item ∷ []) items

-- ---- paragraphs

-- the style of a mark; a paragraph without one has style 0
abbrev pub style_of : Option Mark → ℕ
style_of None = 0
style_of (Some mark) = mark.istd

-- where a paragraph with this mark on this unit is: outside of tables, inside of a cell, at the end of a cell or of a
-- row;
-- [MS-DOC] sprmTTableHeader, 3404: a row that is a head of its table
abbrev pub standing_of : ℕ → Option Mark → Standing
standing_of unit mark =
    if unit == cell_mark then
    (if is_byte_one (mark_value_in mark 0x2417) then (if is_byte_one (mark_value_in mark 0x3404) then HeadRow else Row)
    else Cell) else
    if is_byte_one (mark_value_in mark 0x2416) then Inside else Outside

-- a paragraph: where it is, its values where it is one of the main text, and its items
pub record Paragraph : Type 0 where
  pub standing : Standing
  pub values : Option ParagraphValues
  pub items : List Seen

-- the paragraph that ends with an item
abbrev pub paragraph_ending : Formats → Manner → List Item → List Item → Option Item → Paragraph
paragraph_ending formats manner front items None =
    record { standing = Outside; values = None; items = seen_from formats manner 0 front items }
paragraph_ending formats manner front items (Some last) = record {
  standing = standing_of last.unit last.mark;
  values = None;
  items = seen_from formats manner (style_of last.mark) front items;
}

abbrev pub paragraph_of : Formats → Manner → List Item → List Item → Paragraph
paragraph_of formats manner front items = paragraph_ending formats manner front items (slice_get items (length items - 1))

-- paragraphs behind the items in front of them
unfoldable pub paragraphs_from : Formats → Manner → List Item → List (List Item) → List Paragraph
paragraphs_from formats manner front [] = []
paragraphs_from formats manner front (items ∷ more) =
    paragraph_of formats manner front items ∷ paragraphs_from formats manner (front ++ items) more

-- the paragraphs of a text
abbrev pub paragraphs_of : Formats → Manner → List Item → List Paragraph
paragraphs_of formats manner text = paragraphs_from formats manner [] (stretches is_inside text)

-- paragraphs with these values, as far as there are some
unfoldable pub with_values : List ParagraphValues → List Paragraph → List Paragraph
with_values [] paragraphs = paragraphs
with_values (values ∷ more) [] = []
with_values (values ∷ more) (paragraph ∷ rest) = record paragraph { values = Some values } ∷ with_values more rest

-- a paragraph is here where some of it is shown
abbrev pub some_shown : List Seen → Bool
some_shown items = list_any (λ item. item.is_shown) items

abbrev pub is_here : Paragraph → Bool
is_here paragraph = some_shown paragraph.items

-- the glyphs of what is shown
abbrev pub shown_glyph : Seen → Option Glyph
shown_glyph item = if item.is_shown then item.glyph else None

abbrev pub glyphs_in : List Seen → List Glyph
glyphs_in items = filter_map shown_glyph items

-- the notes that paragraphs refer to
abbrev pub references_in : List Seen → List Reference
references_in items = filter_map (λ item. item.reference) items

abbrev pub references_of : List Paragraph → List Reference
references_of paragraphs = flat_map (λ paragraph. references_in paragraph.items) paragraphs
